use Rattle.std.proofs.Common.{◌≡◌, ◌-◌, length}
use Rattle.dedukti_read.specs.declared.state.Mode.TheVariants as m
use Rattle.dedukti_read.specs.Machine.{outside}
use Rattle.dedukti_read.specs.ReadingText.{read_from}
use Rattle.dedukti_read.proofs.command.read_command.Given as goal

abbrev pub invariant-loop : goal.invariant-loop
invariant-loop l = read_from (length l.bytes - l.counter) l.mode l.place l.rest ≡ read_from (length l.bytes) m.Command outside l.bytes
