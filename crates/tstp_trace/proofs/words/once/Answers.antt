use Rattle.std.proofs.Common.{arith}
use Rattle.tstp_trace.specs.Sources.{most_parents}
use Rattle.tstp_trace.proofs.NameLaws.{once_enough}
use Rattle.tstp_trace.proofs.words.once.Goals as goal

pub returns-then-len-gt-MAX_PARENTS : goal.returns-then-len-gt-MAX_PARENTS
returns-then-len-gt-MAX_PARENTS c =
    once_enough most_parents c.args.names.now c.loop-name.name-index c.loop-name.seen c.add_once.new.seen c.name-item.result c.loop-name-test.true c.name-item.is c.loop-name.invariant c.in_ok-add_once.ensures (omega arith)
