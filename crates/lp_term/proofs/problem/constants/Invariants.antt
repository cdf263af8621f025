use Rattle.std.proofs.Common.{◌≡◌, map, take}
use Rattle.lp_term.specs.Problems.{constant_of}
use Rattle.lp_term.proofs.problem.constants.Given as goal

abbrev pub invariant-loop-key : goal.invariant-loop-key
invariant-loop-key l = l.all ≡ map constant_of (take l.key-index l.symbols)
