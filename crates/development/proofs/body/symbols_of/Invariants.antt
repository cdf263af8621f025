use Rattle.std.proofs.Common.{◌≡◌, take}
use Rattle.assemble.specs.Fitting.{symbols_of as all_symbols}
use Rattle.development.proofs.body.symbols_of.Given as goal

abbrev pub invariant-loop-origin : goal.invariant-loop-origin
invariant-loop-origin l = l.all ≡ all_symbols (take l.origin-index l.origins)
