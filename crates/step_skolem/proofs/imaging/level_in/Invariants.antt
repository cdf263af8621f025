use Rattle.std.proofs.Common.{◌≡◌, reverse, take}
use Rattle.step_skolem.specs.Levels.{level_in}
use Rattle.step_skolem.proofs.imaging.level_in.Given as goal

abbrev pub invariant-loop-place : goal.invariant-loop-place
invariant-loop-place l = l.level ≡ level_in (reverse (take l.place l.kept)) l.number
