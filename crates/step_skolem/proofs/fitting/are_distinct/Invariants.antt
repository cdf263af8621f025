use Rattle.std.proofs.Common.{◌≡◌, drop}
use Rattle.step_skolem.specs.Images.{are_distinct}
use Rattle.step_skolem.proofs.fitting.are_distinct.Given as goal

-- the numbers before stand nowhere later
abbrev pub invariant-loop-place : goal.invariant-loop-place
invariant-loop-place l = are_distinct (drop l.place l.numbers) ≡ are_distinct l.numbers
