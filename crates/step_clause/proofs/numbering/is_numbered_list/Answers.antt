use Rattle.std.proofs.Common.{◌<◌, ◌≤◌, ◌∙◌, ap, arith, get_or, length, refl, subst}
use Rattle.normal_form.specs.declared.ClauseRow.{ClauseRow}
use Rattle.step_clause.specs.Justifications.{IsNumbered}
use Rattle.step_clause.proofs.Loops.{all_more, item_at}
use Rattle.step_clause.proofs.numbering.is_numbered_list.Goals as goal

pub returns-then-not-is_numbered : goal.returns-then-not-is_numbered
returns-then-not-is_numbered c = (
  λ h. absurd (cc),
  λ all.
      let here = c.is_numbered.ensures.1 (item_at ClauseRow (λ row. IsNumbered row.clause) c.args.list.now.rows c.loop-row.row-index c.row-item.result all (subst (λ z. c.loop-row.row-index < length z) c.as_slice-row-items.ensures c.loop-row-test.true) (c.row-item.is ∙ ap (λ z. get_or z c.loop-row.row-index c.row-item.result) c.as_slice-row-items.ensures)) in
      let other = c.if-not-is_numbered.true in cc,
)

pub loop-row-preserved : goal.loop-row-preserved
loop-row-preserved c =
    all_more ClauseRow (λ row. IsNumbered row.clause) c.args.list.now.rows c.loop-row.row-index c.row-item.result (subst (λ z. c.loop-row.row-index < length z) c.as_slice-row-items.ensures c.loop-row-test.true) (c.row-item.is ∙ ap (λ z. get_or z c.loop-row.row-index c.row-item.result) c.as_slice-row-items.ensures) c.loop-row.invariant (c.is_numbered.ensures.0 c.if-not-is_numbered.false)

pub returns : goal.returns
returns c =
    let low = subst (λ z. length z ≤ c.loop-row.row-index) c.as_slice-row-items.ensures c.loop-row-test.false in
    (λ h k d l. c.loop-row.invariant k d (omega arith), λ all. refl)
