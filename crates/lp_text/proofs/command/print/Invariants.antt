use Rattle.std.proofs.Common.{◌≡◌, ◌++◌, drop}
use Rattle.lp_text.specs.Levels.{commands_over}
use Rattle.lp_text.specs.Print.{commands_text}
use Rattle.lp_text.proofs.command.print.Given as goal

abbrev pub invariant-loop-command : goal.invariant-loop-command
invariant-loop-command l = record {
  text : l.out.items ++ commands_text (drop l.command-index l.command-items) ≡ commands_text l.fn.d.commands;
  over : commands_over (drop l.command-index l.command-items) ≡ commands_over l.fn.d.commands;
}
