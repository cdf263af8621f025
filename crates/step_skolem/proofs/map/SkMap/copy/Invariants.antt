use Rattle.std.proofs.Common.{◌≡◌, take}
use Rattle.step_skolem.proofs.map.SkMap.copy.Given as goal

abbrev pub invariant-loop-one : goal.invariant-loop-one
invariant-loop-one l = l.entries ≡ take l.one-index l.self.entries
