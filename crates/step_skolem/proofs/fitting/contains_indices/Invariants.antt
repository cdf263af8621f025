use Rattle.std.proofs.Common.{◌≡◌, drop, map}
use Rattle.dk_syntax.specs.Lists.{all_true}
use Rattle.normal_form.specs.ClauseLists.{has_number}
use Rattle.step_skolem.specs.Levels.{index}
use Rattle.step_skolem.proofs.fitting.contains_indices.Given as goal

-- those before are contained
abbrev pub invariant-loop-level : goal.invariant-loop-level
invariant-loop-level l =
    all_true (map (λ level. has_number l.variables (index l.depth level)) (drop l.level-index l.levels)) ≡ all_true (map (λ level. has_number l.variables (index l.depth level)) l.levels)
