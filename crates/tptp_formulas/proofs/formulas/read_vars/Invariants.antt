use Rattle.std.proofs.Common.{◌≡◌, length}
use Rattle.tptp_formulas.specs.Reading.{vars_at}
use Rattle.tptp_formulas.proofs.Rooms.{with_front}
use Rattle.tptp_formulas.proofs.formulas.read_vars.Given as goal

abbrev pub decreases-loop-rest : goal.decreases-loop-rest
decreases-loop-rest l = length l.rest

abbrev pub invariant-loop-rest : goal.invariant-loop-rest
invariant-loop-rest l = with_front l.vars (vars_at l.rest) ≡ vars_at l.tokens
