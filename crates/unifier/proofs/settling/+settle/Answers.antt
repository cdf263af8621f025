use Rattle.std.proofs.Common.{◌∙◌, arith, sym}
use Rattle.std.proofs.lemmas.Grind.{common_steps}
use Rattle.std.proofs.lemmas.List.{map-append}
use Rattle.unifier.proofs.BoundLaws.{bound_form}
use Rattle.unifier.proofs.SettlingLaws.{application_settled, known_more, variable_settled}
use Rattle.unifier.proofs.settling.+settle.Goals as goal

pub settle-returns-in_ok-term-in-Var-clause-term : goal.settle-returns-in_ok-term-in-Var-clause-term
settle-returns-in_ok-term-in-Var-clause-term t c = λ m ok.
    variable_settled m c.in-Var.j c.args.t.now c.in_ok-term-in-Var.term c.in-Var.is (c.in_ok-term-in-Var.ensures.term m ok)

pub settle-returns-in_ok-symbol-in-App-clause-term : goal.settle-returns-in_ok-symbol-in-App-clause-term
settle-returns-in_ok-symbol-in-App-clause-term t c = λ m ok.
    application_settled m c.in-App.symbol c.in_ok-symbol-in-App.symbol c.in-App.args c.as_slice.result.now c.in_ok-args-in-App.args c.args.t.now
    c.in-App.is c.as_slice.ensures c.in_ok-symbol-in-App.ensures (c.in_ok-args-in-App.ensures.terms m ok)

pub settle_each-loop-term-preserved : goal.settle_each-loop-term-preserved
settle_each-loop-term-preserved t c = (
  c.in_ok-term.ensures.known,
  λ m ok.
      let e = c.in_ok-term.ensures.term m ok in
      let h = c.loop-term.invariant.1 m ok in
      grind (arith, common_steps, map-append, e, h),
)

pub settle_each-returns-clause-terms : goal.settle_each-returns-clause-terms
settle_each-returns-clause-terms t c = λ m ok.
    let h = c.loop-term.invariant.1 m ok in grind (arith, common_steps, h)

pub settle_variable-returns-in-Some-clause-term : goal.settle_variable-returns-in-Some-clause-term
settle_variable-returns-in-Some-clause-term t c = λ m ok. c.in_ok-term.ensures ∙ c.requires c.args.j c.in-Some.term.now c.in-Some.ensures m ok

pub settle_variable-returns-in_ok-copy-in-Some-bound_term-clause-term : goal.settle_variable-returns-in_ok-copy-in-Some-bound_term-clause-term
settle_variable-returns-in_ok-copy-in-Some-bound_term-clause-term t c = λ m ok.
    c.in_ok-term-in-Some-bound_term.ensures.term m ok ∙ sym (bound_form c.args.s.now m c.args.j c.in-Some-bound_term.t.now ok c.in-Some-bound_term.ensures)

pub settle_variable-returns-in_ok-copy-in-Some-bound_term-clause-known : goal.settle_variable-returns-in_ok-copy-in-Some-bound_term-clause-known
settle_variable-returns-in_ok-copy-in-Some-bound_term-clause-known t c =
    known_more c.args.s.now c.settle.new.known c.keep.new.known c.args.j c.in_ok-copy-in-Some-bound_term.copy c.in_ok-term-in-Some-bound_term.ensures.known c.keep.ensures
    (λ m ok. c.in_ok-copy-in-Some-bound_term.ensures ∙ c.in_ok-term-in-Some-bound_term.ensures.term m ok
    ∙ sym (bound_form c.args.s.now m c.args.j c.in-Some-bound_term.t.now ok c.in-Some-bound_term.ensures))
