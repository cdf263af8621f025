use Rattle.std.proofs.Common.{rules}
use Rattle.std.proofs.lemmas.List.Sorted.{answers_always}
use Rattle.step_skolem.proofs.ByNumber.{entries_ranked, entries_sorted, less_entry}
use Rattle.step_skolem.proofs.carrying.put_in_order.Goals as goal

pub returns : goal.returns
returns c =
    entries_sorted _ _ (c.in_ok-sort_by.ensures.sorted less_entry entries_ranked (answers_always _ _ _ (λ f a r g h. search rules)))
    (c.sort_by.ensures.stable less_entry entries_ranked (answers_always _ _ _ (λ f a r g h. search rules)))
