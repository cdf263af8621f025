use Rattle.std.proofs.Common.{get_or, take, subst, sym, arith, Contains}
use Rattle.std.proofs.lemmas.List.{take_more}
use Rattle.std.proofs.lemmas.List.Elements.{Contains-get_or}
use Rattle.derivation_graph.specs.Reach.{Spreads}
use Rattle.derivation_graph.specs.Graphs.{HasParent}
use Rattle.derivation_graph.proofs.ReachLaws.{spreads_more}
use Rattle.derivation_graph.proofs.cycles.visit.Goals as goal

pub reach-requires : goal.reach-requires
reach-requires c =
    let items = c.parents_at-parent-items.result.now in
    let parent = get_or items c.loop-parent.parent-index 0 in
    let has : HasParent c.args.rows.now c.args.step parent = subst (λ l. Contains l parent) c.parents_at-parent-items.ensures (Contains-get_or items c.loop-parent.parent-index 0 c.loop-parent-test.true) in
    let stands = c.requires.parents c.args.step parent has in
    omega (arith, stands.1, c.loop-parent.invariant.long)

pub loop-parent-preserved : goal.loop-parent-preserved
loop-parent-preserved c =
    let items = c.parents_at-parent-items.result.now in
    let i = c.loop-parent.parent-index in
    subst (λ l. Spreads l c.args.seen.now.items c.reach.new.seen.items c.args.pending.now.items c.reach.new.pending.items) (sym (take_more items i 0 c.loop-parent-test.true))
    (spreads_more (take i items) (get_or items i 0) c.args.seen.now.items c.loop-parent.seen.items c.reach.new.seen.items c.args.pending.now.items c.loop-parent.pending.items c.reach.new.pending.items c.loop-parent.invariant c.in_ok-reach.ensures)
