use Rattle.derivation_graph.proofs.OrderLaws.{none_left_out}
use Rattle.derivation_graph.proofs.orders.order.Goals as goal

pub list_ready-requires : goal.list_ready-requires
list_ready-requires c = rw c.as_slice.ensures c.requires.steps

pub returns : goal.returns
returns c =
    let turns = rw c.as_slice.ensures at c.in_ok-listing.ensures.turns in
    let stuck = rw c.as_slice.ensures at c.in_ok-listing.ensures.stuck in
    rw c.from_vec.ensures (turns, none_left_out c.args.graph.now.parents c.in_ok-listing.listing.list.items c.requires.acyclic c.requires.steps stuck)
