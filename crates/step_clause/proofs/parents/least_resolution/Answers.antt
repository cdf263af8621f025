use Rattle.std.proofs.Common.{length, refl, subst}
use Rattle.std.proofs.lemmas.Option.{slice_get_read}
use Rattle.normal_form.specs.declared.ClauseList.{ClauseList}
use Rattle.step_clause.proofs.Loops.{found, item_of, none_at_all, none_more}
use Rattle.step_clause.specs.Justifications.{IsNumberedList}
use Rattle.step_clause.specs.Places.{IsAnswer, ParentResolvesBy, IsParentResolution}
use Rattle.step_clause.proofs.parents.least_resolution.Goals as goal

pub resolve_list-requires-clause-list : goal.resolve_list-requires-clause-list
resolve_list-requires-clause-list c =
    item_of ClauseList (ParentResolvesBy c.args.target.now c.args.parents.now) (λ parent list. IsParentResolution c.args.target.now c.args.parents.now parent list) c.args.parents.now IsNumberedList c.loop-k.k c.index-parents-k.result c.requires.parents c.loop-k-test.true c.index-parents-k.is

pub returns-in-Some : goal.returns-in-Some
returns-in-Some c =
    found ClauseList (ParentResolvesBy c.args.target.now c.args.parents.now) (λ parent list. IsParentResolution c.args.target.now c.args.parents.now parent list) c.args.parents.now
    c.loop-k.k c.in_ok-parent.parent c.index-parents-k.result c.in-Some.it c.in_ok-parent.ensures
    (slice_get_read c.args.parents.now (length c.args.parents.now) c.loop-k.k c.index-parents-k.result refl c.loop-k-test.true c.index-parents-k.is)
    c.loop-k.invariant
    (subst (IsAnswer (ParentResolvesBy c.args.target.now c.args.parents.now c.index-parents-k.result) (IsParentResolution c.args.target.now c.args.parents.now c.in_ok-parent.parent c.index-parents-k.result)) c.in-Some.is c.in_ok-found.ensures)

pub loop-k-preserved : goal.loop-k-preserved
loop-k-preserved c =
    none_more ClauseList (ParentResolvesBy c.args.target.now c.args.parents.now) (λ parent list. IsParentResolution c.args.target.now c.args.parents.now parent list) c.args.parents.now
    c.loop-k.k c.in_ok-parent.parent c.index-parents-k.result c.in_ok-parent.ensures
    (slice_get_read c.args.parents.now (length c.args.parents.now) c.loop-k.k c.index-parents-k.result refl c.loop-k-test.true c.index-parents-k.is)
    c.loop-k.invariant
    (subst (IsAnswer (ParentResolvesBy c.args.target.now c.args.parents.now c.index-parents-k.result) (IsParentResolution c.args.target.now c.args.parents.now c.in_ok-parent.parent c.index-parents-k.result)) c.in_default.is c.in_ok-found.ensures)

pub returns : goal.returns
returns c =
    none_at_all ClauseList (ParentResolvesBy c.args.target.now c.args.parents.now) (λ parent list. IsParentResolution c.args.target.now c.args.parents.now parent list) c.args.parents.now
    c.loop-k.k c.loop-k-test.false c.loop-k.invariant
