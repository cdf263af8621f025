use Rattle.std.proofs.Common.{◌≡◌, map, take}
use Rattle.step_skolem.specs.Levels.{index}
use Rattle.step_skolem.proofs.searching.replacement_from.Given as goal

abbrev pub invariant-loop-variable : goal.invariant-loop-variable
invariant-loop-variable l = l.levels ≡ map (index l.depth) (take l.variable-index l.applied.variables)
