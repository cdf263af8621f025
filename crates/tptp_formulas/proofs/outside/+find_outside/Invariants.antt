use Rattle.std.proofs.Common.{◌≡◌, drop, map}
use Rattle.tptp_formulas.specs.Outside.{first_some, outside_of}
use Rattle.tptp_formulas.proofs.outside.+find_outside.Given as goal

-- nothing is outside in the passed places
abbrev pub invariant-find_in_formulas-loop-formula : goal.invariant-find_in_formulas-loop-formula
invariant-find_in_formulas-loop-formula l =
    first_some (map outside_of (drop l.formula-index l.formulas)) ≡ first_some (map outside_of l.formulas)
