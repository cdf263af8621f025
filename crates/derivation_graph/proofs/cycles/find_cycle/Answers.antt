use Rattle.std.proofs.Common.{ℕ, List, [], Option, Some, None, MatchOption}
use Rattle.derivation_graph.specs.Agendas.{AreStuck}
use Rattle.derivation_graph.specs.Graphs.{HasNoCycle, HasStepsForParents, IsLeastOnCycle}
use Rattle.derivation_graph.specs.Orders.{ComeAfter, HasOrder, IsOrderOf}
use Rattle.derivation_graph.proofs.OrderLaws.{has_order, no_cycle_in_order}
use Rattle.derivation_graph.proofs.cycles.find_cycle.Goals as goal

-- without a cycle there is an order too
with_order : (rows : List (List ℕ)) (list : List ℕ) → HasStepsForParents rows → ComeAfter rows [] list → AreStuck rows list
    → (found : Option ℕ) → MatchOption found (HasNoCycle rows) (IsLeastOnCycle rows) → MatchOption found (HasNoCycle rows × HasOrder rows) (IsLeastOnCycle rows)
with_order rows list parents turns stuck None acyclic = (acyclic, has_order rows list acyclic parents stuck turns)
with_order rows list parents turns stuck (Some step) least = least

pub returns-then-listing : goal.returns-then-listing
returns-then-listing c =
    let order : IsOrderOf c.args.rows.now c.in_ok-listing.listing.list.items = (c.in_ok-listing.ensures.turns, c.in_ok-listing.ensures.whole c.if-listing.true) in
    (no_cycle_in_order c.args.rows.now c.in_ok-listing.listing.list.items order, (c.in_ok-listing.listing.list.items, order))

pub returns : goal.returns
returns c =
    with_order c.args.rows.now c.in_ok-listing.listing.list.items c.requires c.in_ok-listing.ensures.turns c.in_ok-listing.ensures.stuck c.in_ok-found.found c.in_ok-found.ensures
