use Rattle.std.proofs.Common.{◌≡◌, ◌++◌, drop}
use Rattle.tptp_formulas.specs.Scopes.{names_of}
use Rattle.tptp_formulas.proofs.scopes.bind.Given as goal

abbrev pub invariant-loop-prefix : goal.invariant-loop-prefix
invariant-loop-prefix l = l.bound ++ names_of (drop l.prefix-index l.prefixes) ≡ l.initial.bound ++ names_of l.prefixes
