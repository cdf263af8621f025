use Rattle.std.proofs.Common.{rules}
use Rattle.std.proofs.lemmas.List.Sorted.{answers_always}
use Rattle.normal_form.proofs.ChainLaws.{less_work, works_ranked, works_sorted}
use Rattle.normal_form.proofs.chain.put_in_order.Goals as goal

pub returns : goal.returns
returns c =
    works_sorted _ _ (c.in_ok-sort_by.ensures.sorted less_work works_ranked (answers_always _ _ _ (λ f a r g h. search rules)))
    (c.sort_by.ensures.stable less_work works_ranked (answers_always _ _ _ (λ f a r g h. search rules)))
