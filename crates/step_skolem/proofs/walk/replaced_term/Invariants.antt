use Rattle.std.proofs.Common.{◌≡◌, map, take}
use Rattle.dk_syntax.specs.declared.Term.TheVariants.{Var}
use Rattle.step_skolem.specs.Levels.{index}
use Rattle.step_skolem.proofs.walk.replaced_term.Given as goal

abbrev pub invariant-loop-level : goal.invariant-loop-level
invariant-loop-level l = l.args ≡ map Var (map (index l.depth) (take l.level-index l.replacement.levels))
