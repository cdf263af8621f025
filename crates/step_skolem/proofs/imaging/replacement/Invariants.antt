use Rattle.std.proofs.Common.{◌≡◌, map, reverse, take}
use Rattle.step_skolem.specs.Levels.{level_in}
use Rattle.step_skolem.proofs.imaging.replacement.Given as goal

abbrev pub invariant-loop-number : goal.invariant-loop-number
invariant-loop-number l = l.levels ≡ map (level_in (reverse l.kept)) (take l.number-index l.one.args)
