use Rattle.std.proofs.Common.{◌≡◌, ◌+◌, drop}
use Rattle.normal_form.specs.Renaming.{place_of}
use Rattle.step_skolem.proofs.carrying.moved.Given as goal

-- the number is not among those before
abbrev pub invariant-loop-place : goal.invariant-loop-place
invariant-loop-place l = l.place + place_of (drop l.place l.from) l.number ≡ place_of l.from l.number
