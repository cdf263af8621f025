-- What is pushed to the list of an unmarked parent waits there, and what waited still does.
use Rattle.std.proofs.Common.{◌<◌, inl, inr, length, arith, subst, Contains}
use Rattle.derivation_graph.specs.Graphs.{HasParent}
use Rattle.derivation_graph.proofs.AgendaLaws.{stands_after_push, waits_after_push}
use Rattle.derivation_graph.proofs.agenda.place.Goals as goal

pub index_mut-requires : goal.index_mut-requires
index_mut-requires c =
    let has = subst (λ l. Contains l c.in-Some.parent) c.parents_at.ensures c.in-Some.ensures.0 in
    let stands = c.requires.parents c.args.step c.in-Some.parent has in omega (arith, stands.1)

pub returns-in_ok-push-in-Some-clause-placed : goal.returns-in_ok-push-in-Some-clause-placed
returns-in_ok-push-in-Some-clause-placed c stands fresh =
    let has : HasParent c.args.rows.now c.args.step c.in-Some.parent = subst (λ l. Contains l c.in-Some.parent) c.parents_at.ensures c.in-Some.ensures.0 in
    let step = c.requires.parents c.args.step c.in-Some.parent has in
    let within : c.in-Some.parent < length c.args.agenda.now.waiting.items = omega (arith, step.1) in
    inr (c.in-Some.parent, has, c.in-Some.ensures.1, stands_after_push c.args.agenda.now.waiting.items c.in-Some.parent c.args.step c.index_mut.result.now c.push.new.self within c.index_mut.ensures.value c.in_ok-push-in-Some.ensures.ok)

pub returns-in_ok-push-in-Some-clause-kept : goal.returns-in_ok-push-in-Some-clause-kept
returns-in_ok-push-in-Some-clause-kept c q placed =
    let has : HasParent c.args.rows.now c.args.step c.in-Some.parent = subst (λ l. Contains l c.in-Some.parent) c.parents_at.ensures c.in-Some.ensures.0 in
    let step = c.requires.parents c.args.step c.in-Some.parent has in
    let within : c.in-Some.parent < length c.args.agenda.now.waiting.items = omega (arith, step.1) in
    elim placed [
      | inl ready ↦ inl ready
      | inr waits ↦ inr (waits_after_push c.args.rows.now c.args.marks.now c.args.agenda.now.waiting.items c.in-Some.parent c.args.step q c.index_mut.result.now c.push.new.self within c.index_mut.ensures.value c.in_ok-push-in-Some.ensures.ok waits)
    ]
