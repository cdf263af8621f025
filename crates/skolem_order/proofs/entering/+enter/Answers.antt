use Rattle.std.proofs.Common.{◌+◌, [], sym, ◌∙◌, subst, take}
use Rattle.skolem_order.proofs.EnteredLaws.{all_are, enters_more, entered_Any, entered_App, entered_Var, none_are}
use Rattle.skolem_order.specs.Tables.{AreEntered}
use Rattle.skolem_order.proofs.entering.+enter.Goals as goal

pub enter-apply-requires : goal.enter-apply-requires
enter-apply-requires t c = c.in_ok-numbers-in-App.ensures.1.within

pub enter-returns-in_ok-number-in-App : goal.enter-returns-in_ok-number-in-App
enter-returns-in_ok-number-in-App t c =
    entered_App c.args.table.now c.enter_all.new.table c.apply.new.table c.in-App.symbol c.in-App.args c.as_slice.result.now c.args.t.now c.in_ok-numbers-in-App.numbers c.in_ok-number-in-App.number
    c.in-App.is c.as_slice.ensures c.in_ok-numbers-in-App.ensures c.in_ok-number-in-App.ensures

pub enter-returns-in_ok-number-in-Var : goal.enter-returns-in_ok-number-in-Var
enter-returns-in_ok-number-in-Var t c =
    entered_Var c.args.table.now _ _ c.args.t.now c.in_ok-number-in-Var.number c.in-Var.is c.in_ok-number-in-Var.ensures

pub enter-returns-in_ok-number-in-Any : goal.enter-returns-in_ok-number-in-Any
enter-returns-in_ok-number-in-Any t c = entered_Any c.args.table.now _ c.args.t.now c.in_ok-number-in-Any.number c.in-Any.is c.in_ok-number-in-Any.ensures

pub enter_all-loop-term-init : goal.enter_all-loop-term-init
enter_all-loop-term-init t c =
    subst (AreEntered c.args.table.now [] c.args.table.now) (sym (c.from_vec-numbers.ensures ∙ c.in_ok-with_capacity.ensures.items)) (none_are c.args.table.now)

pub enter_all-loop-term-preserved : goal.enter_all-loop-term-preserved
enter_all-loop-term-preserved t c =
    subst (AreEntered c.args.table.now (take (c.loop-term.term-index + 1) c.args.terms.now) c.enter.new.table) (sym c.in_ok-push.ensures.ok)
    (enters_more c.args.table.now c.loop-term.table c.enter.new.table c.args.terms.now c.loop-term.term-index c.term-item.result c.loop-term.numbers c.in_ok-number.number
    c.loop-term-test.true c.term-item.is c.loop-term.invariant c.in_ok-number.ensures)

pub enter_all-returns : goal.enter_all-returns
enter_all-returns t c = all_are c.args.table.now c.loop-term.table c.args.terms.now c.loop-term.numbers c.loop-term.term-index c.loop-term-test.false c.loop-term.invariant
