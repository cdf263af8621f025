use Rattle.std.proofs.Common.{◌≡◌, ◌-◌, length}
use Rattle.lp_read.specs.declared.state.Mode.TheVariants as m
use Rattle.lp_read.specs.Machine.{outside}
use Rattle.lp_read.specs.ReadingText.{read_from}
use Rattle.lp_read.proofs.command.read_command.Given as goal

abbrev pub invariant-loop : goal.invariant-loop
invariant-loop l = read_from (length l.bytes - l.counter) l.mode l.place l.rest ≡ read_from (length l.bytes) m.Command outside l.bytes
