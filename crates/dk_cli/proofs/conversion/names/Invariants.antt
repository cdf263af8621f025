use Rattle.std.proofs.Common.{take}
use Rattle.std.specs.Prelude.{All}
use Rattle.dk_cli.specs.Conversion.{HasName}
use Rattle.dk_cli.proofs.conversion.names.Given as goal

abbrev pub invariant-loop-symbol : goal.invariant-loop-symbol
invariant-loop-symbol l = All HasName (take l.symbol-index l.symbols)
