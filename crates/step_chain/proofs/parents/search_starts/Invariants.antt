use Rattle.step_chain.proofs.LeastLaws.{NoneUpTo}
use Rattle.step_chain.specs.Search.{HasContinuation}
use Rattle.step_chain.proofs.parents.search_starts.Given as goal

abbrev pub invariant-loop-k : goal.invariant-loop-k
invariant-loop-k l = NoneUpTo (λ start row. HasContinuation l.target start row.clause l.rest) l.first.rows l.k
