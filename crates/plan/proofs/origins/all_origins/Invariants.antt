use Rattle.std.proofs.Common.{take}
use Rattle.plan.specs.Known.{judged_given}
use Rattle.plan.specs.Origins.{AreOriginsFrom}
use Rattle.plan.proofs.origins.all_origins.Given as goal

-- the origins of the steps so far
abbrev pub invariant-loop-place : goal.invariant-loop-place
invariant-loop-place l = AreOriginsFrom (judged_given l.given) 0 (take l.place l.given.verdicts.now) l.list.items
