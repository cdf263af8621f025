-- No existential stands in the forms so far.
use Rattle.std.proofs.Common.{◌≡◌, drop}
use Rattle.std.specs.List.{list_any}
use Rattle.normal_form.specs.Existentials.{existential_in}
use Rattle.step_check.specs.Notes.{case_given}
use Rattle.step_check.specs.Steps.{own_form}
use Rattle.step_check.proofs.inference.one_exists.Given as goal

abbrev pub invariant-loop-number : goal.invariant-loop-number
invariant-loop-number l =
    list_any (λ q. existential_in (own_form (case_given l.given) q)) l.numbers
    ≡ list_any (λ q. existential_in (own_form (case_given l.given) q)) (drop l.number-index l.numbers)
