use Rattle.std.proofs.Common.{◌≡◌, ◌<◌, length, map, subst, sym, arith}
use Rattle.std.specs.List.Sorted.{IsPermutation}
use Rattle.std.proofs.lemmas.Result.{IfOk-weaker}
use Rattle.skolem_order.proofs.RankLaws.{order_short, sorted_in_order}
use Rattle.skolem_order.specs.Ranks.{AreInOrder, term_in}
use Rattle.skolem_order.proofs.planned.in_order.Goals as goal

pub returns-clause-order : goal.returns-clause-order
returns-clause-order c =
    let os = c.args.origins.now in
    let table = c.args.table.now in
    let short : length table < 4294967296 = omega arith in
    let list = c.put_in_order.new.list.items in
    IfOk-weaker c.terms_of.result (λ terms. terms ≡ map term_in list) (λ terms. AreInOrder os table terms)
    (λ terms e. subst (AreInOrder os table) (sym e)
    (sorted_in_order os table c.len-length.ensures.table short list (subst (λ l. IsPermutation l list) c.in_ok-list.ensures c.in_ok-put_in_order.ensures.same) c.in_ok-put_in_order.ensures.sorted))
    c.terms_of.ensures

pub returns-clause-short : goal.returns-clause-short
returns-clause-short c =
    let os = c.args.origins.now in
    let table = c.args.table.now in
    let short : length table < 4294967296 = omega arith in
    let list = c.put_in_order.new.list.items in
    IfOk-weaker c.terms_of.result (λ terms. terms ≡ map term_in list) (λ terms. length terms < 4294967296)
    (λ terms e.
    let o = order_short os table (map term_in list)
    (sorted_in_order os table c.len-length.ensures.table short list (subst (λ l. IsPermutation l list) c.in_ok-list.ensures c.in_ok-put_in_order.ensures.same) c.in_ok-put_in_order.ensures.sorted) in
    subst (λ ts. length ts < 4294967296) (sym e) (let n : length (map term_in list) < 4294967296 = omega (arith, o, short) in n))
    c.terms_of.ensures
