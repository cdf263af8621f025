use Rattle.std.proofs.Common.{◌<◌, ◌≤◌, ◌∙◌, ap, arith, get_or, length, refl, subst}
use Rattle.normal_form.specs.declared.ClauseList.{ClauseList}
use Rattle.step_clause.specs.Justifications.{IsNumberedList}
use Rattle.step_clause.proofs.Loops.{all_more, item_at}
use Rattle.step_clause.proofs.numbering.are_numbered.Goals as goal

pub returns-then-not-is_numbered_list : goal.returns-then-not-is_numbered_list
returns-then-not-is_numbered_list c = (
  λ h. absurd (cc),
  λ all.
      let here = c.is_numbered_list.ensures.1 (item_at ClauseList IsNumberedList c.args.parents.now c.loop-list.list-index c.list-item.result all (subst (λ z. c.loop-list.list-index < length z) c.as_slice-list-items.ensures c.loop-list-test.true) (c.list-item.is ∙ ap (λ z. get_or z c.loop-list.list-index c.list-item.result) c.as_slice-list-items.ensures)) in
      let other = c.if-not-is_numbered_list.true in cc,
)

pub loop-list-preserved : goal.loop-list-preserved
loop-list-preserved c =
    all_more ClauseList IsNumberedList c.args.parents.now c.loop-list.list-index c.list-item.result (subst (λ z. c.loop-list.list-index < length z) c.as_slice-list-items.ensures c.loop-list-test.true) (c.list-item.is ∙ ap (λ z. get_or z c.loop-list.list-index c.list-item.result) c.as_slice-list-items.ensures) c.loop-list.invariant (c.is_numbered_list.ensures.0 c.if-not-is_numbered_list.false)

pub returns : goal.returns
returns c =
    let low = subst (λ z. length z ≤ c.loop-list.list-index) c.as_slice-list-items.ensures c.loop-list-test.false in
    (λ h k d l. c.loop-list.invariant k d (omega arith), λ all. refl)
