use Rattle.std.proofs.Common.{◌≡◌, ◌++◌, drop}
use Rattle.lp_text.specs.Levels.{commands_over}
use Rattle.dedukti_text.specs.Print.{dk_commands_text}
use Rattle.dedukti_text.proofs.command.print_dk.Given as goal

abbrev pub invariant-loop-command : goal.invariant-loop-command
invariant-loop-command l = record {
  text : l.out.items ++ dk_commands_text (drop l.command-index l.command-items) ≡ dk_commands_text l.fn.d.commands;
  over : commands_over (drop l.command-index l.command-items) ≡ commands_over l.fn.d.commands;
}
