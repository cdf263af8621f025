use Rattle.std.proofs.Common.{arith, sym, ◌∙◌}
use Rattle.unifier.proofs.OccurrenceLaws.{leads_along, marked_more}
use Rattle.dk_syntax.proofs.SubstitutionLaws.{in_application, in_variable}
use Rattle.dk_syntax.proofs.ListLaws.{none_more, none_true, one_true}
use Rattle.dk_syntax.specs.Terms.{has_variable, substituted}
use Rattle.unifier.proofs.occurrence.+leads_to.Goals as goal

pub leads_to-returns-in_ok-found-in-Var-clause-found : goal.leads_to-returns-in_ok-found-in-Var-clause-found
leads_to-returns-in_ok-found-in-Var-clause-found t c = λ m ok.
    in_variable c.args.k c.in-Var.j m c.args.t.now c.in_ok-found-in-Var.found c.in-Var.is (c.in_ok-found-in-Var.ensures.found m ok)

pub leads_to-returns-in_ok-found-in-App-clause-found : goal.leads_to-returns-in_ok-found-in-App-clause-found
leads_to-returns-in_ok-found-in-App-clause-found t c = λ m ok.
    in_application c.args.k m c.in-App.field-0 c.as_slice.result.now c.args.t.now c.in_ok-found-in-App.found
    (let e = c.in-App.is in let z = c.as_slice.ensures in cc) (c.in_ok-found-in-App.ensures.found m ok)

pub one_leads_to-loop-term-init : goal.one_leads_to-loop-term-init
one_leads_to-loop-term-init t c = (c.requires.marked, λ m ok i d l. absurd (omega arith))

pub one_leads_to-leads_to-requires : goal.one_leads_to-leads_to-requires
one_leads_to-leads_to-requires t c = let a = c.decreases in (omega arith, (c.requires.free, c.loop-term.invariant.0))

pub one_leads_to-returns-then-found-clause-found : goal.one_leads_to-returns-then-found-clause-found
one_leads_to-returns-then-found-clause-found t c = λ m ok.
    sym (one_true (λ u. has_variable c.args.k (substituted m u)) c.args.terms.now c.loop-term.term-index c.term-item.result c.loop-term-test.true c.term-item.is
    (sym (c.in_ok-found.ensures.found m ok) ∙ c.if-found.true))

pub one_leads_to-loop-term-preserved : goal.one_leads_to-loop-term-preserved
one_leads_to-loop-term-preserved t c = (
  c.in_ok-found.ensures.marked,
  λ m ok.
      none_more (λ u. has_variable c.args.k (substituted m u)) c.args.terms.now c.loop-term.term-index c.term-item.result c.loop-term-test.true c.term-item.is
      (sym (c.in_ok-found.ensures.found m ok) ∙ c.if-found.false) (c.loop-term.invariant.1 m ok),
)

pub one_leads_to-returns-clause-found : goal.one_leads_to-returns-clause-found
one_leads_to-returns-clause-found t c = λ m ok.
    sym (none_true (λ u. has_variable c.args.k (substituted m u)) c.args.terms.now (λ i d l. c.loop-term.invariant.1 m ok i d (omega arith)))

pub variable_leads_to-returns-then-is_marked-clause-found : goal.variable_leads_to-returns-then-is_marked-clause-found
variable_leads_to-returns-then-is_marked-clause-found t c = λ m ok.
    sym (c.requires.marked c.args.j (sym c.is_marked.ensures ∙ c.if-is_marked.true) m ok)

pub variable_leads_to-returns-then-not-found-clause-found : goal.variable_leads_to-returns-then-not-found-clause-found
variable_leads_to-returns-then-not-found-clause-found t c = λ m ok.
    leads_along c.args.s.now c.args.k c.args.j c.in-Some.t.now m c.in_ok-found-in-Some.found ok c.in-Some.ensures (c.in_ok-found-in-Some.ensures.found m ok)

pub variable_leads_to-returns-then-not-found-clause-marked : goal.variable_leads_to-returns-then-not-found-clause-marked
variable_leads_to-returns-then-not-found-clause-marked t c =
    marked_more c.args.s.now c.args.k c.args.j c.leads_to.new.marks c.mark.new.marks c.in_ok-found-in-Some.ensures.marked c.mark.ensures
    (λ m ok. sym c.if-not-found.true ∙ leads_along c.args.s.now c.args.k c.args.j c.in-Some.t.now m c.in_ok-found-in-Some.found ok c.in-Some.ensures (c.in_ok-found-in-Some.ensures.found m ok))

pub variable_leads_to-returns-else-not-found-clause-found : goal.variable_leads_to-returns-else-not-found-clause-found
variable_leads_to-returns-else-not-found-clause-found t c = λ m ok.
    leads_along c.args.s.now c.args.k c.args.j c.in-Some.t.now m c.in_ok-found-in-Some.found ok c.in-Some.ensures (c.in_ok-found-in-Some.ensures.found m ok)
