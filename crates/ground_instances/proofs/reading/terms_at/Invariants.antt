use Rattle.std.proofs.Common.{◌≡◌, take}
use Rattle.ground_instances.specs.Rows.{terms_by}
use Rattle.ground_instances.proofs.reading.terms_at.Given as goal

-- the terms so far
abbrev pub invariant-loop-number : goal.invariant-loop-number
invariant-loop-number l = l.terms ≡ terms_by l.table (take l.number-index l.numbers)
