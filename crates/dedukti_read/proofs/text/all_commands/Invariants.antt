use Rattle.std.proofs.Common.{◌≡◌, ◌-◌, ◌+◌, length}
use Rattle.dedukti_read.specs.ReadingText.{commands_at}
use Rattle.dedukti_read.proofs.TextSteps.{with_commands}
use Rattle.dedukti_read.proofs.text.all_commands.Given as goal

abbrev pub invariant-loop : goal.invariant-loop
invariant-loop l = with_commands l.commands (commands_at (length l.bytes) (length l.bytes + 1 - l.counter) l.rest) ≡ commands_at (length l.bytes) (length l.bytes + 1) l.bytes
