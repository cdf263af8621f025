-- None of the forms so far passes a limit.
use Rattle.std.proofs.Common.{◌≡◌, drop, map}
use Rattle.step_check.specs.Limits.{first_limit}
use Rattle.step_check.specs.Notes.{case_given}
use Rattle.step_check.specs.Steps.{own_form}
use Rattle.step_check.proofs.limits.first_limit_of.Given as goal

abbrev pub invariant-loop-number : goal.invariant-loop-number
invariant-loop-number l =
    first_limit (map (own_form (case_given l.given)) l.numbers) ≡ first_limit (map (own_form (case_given l.given)) (drop l.number-index l.numbers))
