use Rattle.std.proofs.Common.{◌≡◌, ◌+◌, [], ◌++◌, length, subst, sym, ◌∙◌, ap}
use Rattle.std.proofs.lemmas.List.{length-replicate}
use Rattle.derivation_graph.specs.Reach.{Reaches, Spreads}
use Rattle.derivation_graph.specs.Graphs.{parents_in}
use Rattle.derivation_graph.proofs.ReachLaws.{none_marked, reaches_more, reaches_parents, walk_marked}
use Rattle.derivation_graph.proofs.cycles.is_on_cycle.Goals as goal

pub loop-next-init : goal.loop-next-init
loop-next-init c =
    let seen = c.in_ok-seen.seen.items in
    let clear = c.in_ok-seen.ensures.items_if_clones_equal (λ y e. e) in
    let spreads : Spreads (parents_in c.args.rows.now c.args.step) seen c.visit.new.seen.items [] c.visit.new.pending.items =
    subst (λ l. Spreads (parents_in c.args.rows.now c.args.step) seen c.visit.new.seen.items l c.visit.new.pending.items) c.new-pending.ensures.items c.in_ok-visit.ensures in
    reaches_parents c.args.rows.now c.args.step seen c.visit.new.seen.items c.visit.new.pending.items (ap length clear ∙ length-replicate (length c.args.rows.now + 1) _)
    (none_marked (length c.args.rows.now + 1) seen clear) spreads

pub loop-next-preserved : goal.loop-next-preserved
loop-next-preserved c =
    reaches_more c.args.rows.now c.args.step c.in-Some.next c.loop-next.seen.items c.visit-in-Some.new.seen.items c.loop-next.pending.items c.pop.new.self.items c.visit-in-Some.new.pending.items c.in-Some.ensures.items c.loop-next.invariant c.in_ok-visit-2.ensures

pub returns : goal.returns
returns c =
    let rest = rw c.in_default.ensures.cases.0 at c.in_default.ensures.rest in
    let none : c.loop-next.pending.items ≡ [] = c.in_default.ensures.items ∙ ap (λ l. l ++ []) rest in
    let reaches = subst (λ l. Reaches c.args.rows.now c.args.step c.loop-next.seen.items l) none c.loop-next.invariant in
    let e = rw c.as_slice.ensures.value at c.is_marked.ensures in
    (λ found. reaches.walks c.args.step (sym e ∙ found), λ walk. e ∙ walk_marked c.args.rows.now c.args.step c.loop-next.seen.items reaches c.args.step walk)
