use Rattle.std.proofs.Common.{◌≡◌, map, take}
use Rattle.step_skolem.specs.Carrying.{across, renumbered}
use Rattle.step_skolem.proofs.carrying.carried.Given as goal

abbrev pub invariant-loop-one : goal.invariant-loop-one
invariant-loop-one l = l.entries.items ≡ map (renumbered (across l.from.alls l.to.alls) (across l.from.exs l.to.exs)) (take l.one-index l.map)
