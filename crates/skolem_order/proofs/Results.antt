-- What the laws say, put together.
use Rattle.std.proofs.Common.{[]}
use Rattle.skolem_order.proofs.DropLaws.{drops_formula}
use Rattle.skolem_order.proofs.LabelLaws.{labelled_formula}
use Rattle.skolem_order.proofs.OriginLaws.{entry_spot, top_links}
use Rattle.skolem_order.proofs.SpotLaws.{stands_found}
use Rattle.skolem_order.specs.Laws.{EntriesAreCovered}

pub entries_are_covered : EntriesAreCovered
entries_are_covered leaf sign entries image leads one c =
    let t = entry_spot (drops_formula leaf sign) (labelled_formula leaf sign) leads entries (λ x i. i) [] (top_links entries) one c in
    (t.0, stands_found t.1, t.2)
