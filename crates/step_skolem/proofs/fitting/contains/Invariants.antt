use Rattle.std.proofs.Common.{◌≡◌, drop}
use Rattle.normal_form.specs.ClauseLists.{has_number}
use Rattle.step_skolem.proofs.fitting.contains.Given as goal

-- the number is not among those before
abbrev pub invariant-loop-other : goal.invariant-loop-other
invariant-loop-other l = has_number (drop l.other-index l.numbers) l.number ≡ has_number l.numbers l.number
