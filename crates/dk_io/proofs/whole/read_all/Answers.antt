use Rattle.std.proofs.Common.{arith, rules}
use Rattle.dk_io.proofs.Pieces.{left_long, nothing_left}
use Rattle.dk_io.proofs.whole.read_all.Goals as goal

pub returns-clause-long : goal.returns-clause-long
returns-clause-long g c = λ _. left_long _ _ c.loop-buf.all.items _ (omega arith) c.loop-buf.invariant.read

pub returns-then-given-eq0-clause-end : goal.returns-then-given-eq0-clause-end
returns-then-given-eq0-clause-end g c = nothing_left _ _ c.loop-buf.all.items _ _ c.in-Ok-read.given c.read.new.buf c.loop-buf.invariant.read c.in-Ok-read.ensures.gives (search rules) (search rules)
