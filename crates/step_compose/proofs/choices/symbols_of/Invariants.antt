use Rattle.std.proofs.Common.{◌≡◌, take}
use Rattle.step_compose.specs.Composing.{symbols_at}
use Rattle.step_compose.proofs.choices.symbols_of.Given as goal

abbrev pub invariant-loop-place : goal.invariant-loop-place
invariant-loop-place l = l.symbols ≡ symbols_at l.aliens (take l.place-index l.places)
