use Rattle.std.proofs.Common.{◌≡◌, take}
use Rattle.ground_instances.specs.Rows.{literals_by}
use Rattle.ground_instances.proofs.reading.literals_at.Given as goal

-- the literals so far
abbrev pub invariant-loop-one : goal.invariant-loop-one
invariant-loop-one l = l.literals ≡ literals_by l.table (take l.one-index l.lits)
