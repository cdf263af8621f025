use Rattle.std.proofs.Common.{length, refl, subst}
use Rattle.std.proofs.lemmas.Option.{slice_get_read}
use Rattle.normal_form.specs.declared.ClauseList.{ClauseList}
use Rattle.step_clause.proofs.Loops.{found, item_of, none_at_all, none_more}
use Rattle.step_clause.specs.Justifications.{IsNumberedList}
use Rattle.step_clause.specs.Places.{IsAnswer, ListSubsumesBy, IsListSubsumption}
use Rattle.step_clause.proofs.parents.least_subsumption.Goals as goal

pub subsume_by_list-requires-clause-list : goal.subsume_by_list-requires-clause-list
subsume_by_list-requires-clause-list c =
    item_of ClauseList (ListSubsumesBy c.args.target.now) (λ parent list. IsListSubsumption c.args.target.now parent list) c.args.parents.now IsNumberedList c.loop-k.k c.index-parents-k.result c.requires.parents c.loop-k-test.true c.index-parents-k.is

pub returns-in-Some : goal.returns-in-Some
returns-in-Some c =
    found ClauseList (ListSubsumesBy c.args.target.now) (λ parent list. IsListSubsumption c.args.target.now parent list) c.args.parents.now
    c.loop-k.k c.in_ok-parent.parent c.index-parents-k.result c.in-Some.it c.in_ok-parent.ensures
    (slice_get_read c.args.parents.now (length c.args.parents.now) c.loop-k.k c.index-parents-k.result refl c.loop-k-test.true c.index-parents-k.is)
    c.loop-k.invariant
    (subst (IsAnswer (ListSubsumesBy c.args.target.now c.index-parents-k.result) (IsListSubsumption c.args.target.now c.in_ok-parent.parent c.index-parents-k.result)) c.in-Some.is c.in_ok-found.ensures)

pub loop-k-preserved : goal.loop-k-preserved
loop-k-preserved c =
    none_more ClauseList (ListSubsumesBy c.args.target.now) (λ parent list. IsListSubsumption c.args.target.now parent list) c.args.parents.now
    c.loop-k.k c.in_ok-parent.parent c.index-parents-k.result c.in_ok-parent.ensures
    (slice_get_read c.args.parents.now (length c.args.parents.now) c.loop-k.k c.index-parents-k.result refl c.loop-k-test.true c.index-parents-k.is)
    c.loop-k.invariant
    (subst (IsAnswer (ListSubsumesBy c.args.target.now c.index-parents-k.result) (IsListSubsumption c.args.target.now c.in_ok-parent.parent c.index-parents-k.result)) c.in_default.is c.in_ok-found.ensures)

pub returns : goal.returns
returns c =
    none_at_all ClauseList (ListSubsumesBy c.args.target.now) (λ parent list. IsListSubsumption c.args.target.now parent list) c.args.parents.now
    c.loop-k.k c.loop-k-test.false c.loop-k.invariant
