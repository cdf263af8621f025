use Rattle.std.proofs.Common.{◌≡◌, drop}
use Rattle.tptp_formulas.specs.Scopes.{has_name}
use Rattle.tptp_formulas.proofs.scopes.has.Given as goal

-- the name is in none of the passed places
abbrev pub invariant-loop-one : goal.invariant-loop-one
invariant-loop-one l = has_name (drop l.one-index l.names) l.name ≡ has_name l.names l.name
