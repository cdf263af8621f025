use Rattle.std.proofs.Common.{rules}
use Rattle.std.proofs.lemmas.List.Sorted.{answers_always}
use Rattle.skolem_order.proofs.RankLaws.{ranked_weak}
use Rattle.skolem_order.specs.Ranks.{less_ranked}
use Rattle.skolem_order.proofs.ranking.put_in_order.Goals as goal

pub returns-clause-sorted : goal.returns-clause-sorted
returns-clause-sorted c = c.in_ok-sort_by.ensures.sorted less_ranked ranked_weak (answers_always _ _ _ (λ f a r g h. search rules))
