use Rattle.std.proofs.Common.{◌≡◌}
use Rattle.lp_term.specs.Problems.{function_type, result_of}
use Rattle.lp_term.proofs.problem.symbol_type.Given as goal

abbrev pub invariant-loop-argument : goal.invariant-loop-argument
invariant-loop-argument l = l.all ≡ function_type l._argument (result_of l.key.kind)
