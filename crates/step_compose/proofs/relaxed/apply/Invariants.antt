use Rattle.std.proofs.Common.{◌≡◌, ◌++◌, ◌-◌, map}
use Rattle.dk_syntax.specs.declared.Term.TheVariants.{Var}
use Rattle.step_compose.specs.Relaxing.{downward_from}
use Rattle.step_compose.proofs.relaxed.apply.Given as goal

-- the variables made, with those to come, are all
abbrev pub invariant-loop-back : goal.invariant-loop-back
invariant-loop-back l = l.args ++ map Var (downward_from l.from (l.count - l.back)) ≡ map Var (downward_from l.from l.count)
