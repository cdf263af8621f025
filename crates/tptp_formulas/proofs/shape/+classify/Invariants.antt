use Rattle.std.proofs.Common.{◌≡◌, map, drop}
use Rattle.tptp_formulas.specs.Written.{all_clausal, shape_of}
use Rattle.tptp_formulas.proofs.shape.+classify.Given as goal

abbrev pub invariant-are_clausal-loop-formula : goal.invariant-are_clausal-loop-formula
invariant-are_clausal-loop-formula l = all_clausal (map shape_of (drop l.formula-index l.formulas)) ≡ all_clausal (map shape_of l.formulas)
