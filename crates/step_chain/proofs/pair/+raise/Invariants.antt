use Rattle.std.proofs.Common.{◌≡◌, map, take}
use Rattle.dk_syntax.specs.Terms.{substituted}
use Rattle.step_chain.specs.Pairs.{raising}
use Rattle.step_chain.proofs.pair.+raise.Given as goal

abbrev pub invariant-raise_each-loop-term : goal.invariant-raise_each-loop-term
invariant-raise_each-loop-term l = l.all ≡ map (substituted (raising l.n)) (take l.term-index l.terms)
