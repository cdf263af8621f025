use Rattle.std.proofs.Common.{arith, refl}
use Rattle.std.proofs.lemmas.Bool.{lt-ltb, ltb-true}
use Rattle.dk_syntax.proofs.BelowLaws.{all_below, application_below, below_args, below_at, below_more, variable_below}
use Rattle.dk_syntax.proofs.SubstitutionLaws.{stands}
use Rattle.unifier.proofs.bounds.+term_below.Goals as goal

pub term_below-returns-in-Var : goal.term_below-returns-in-Var
term_below-returns-in-Var t c = (
  λ h. variable_below c.args.n c.in-Var.k c.args.t.now c.in-Var.is (ltb-true c.in-Var.k c.args.n h),
  λ below. lt-ltb c.in-Var.k c.args.n (below c.in-Var.k (stands c.in-Var.k c.args.t.now c.in-Var.is)),
)

pub term_below-returns-in-App : goal.term_below-returns-in-App
term_below-returns-in-App t c = (
  λ h. application_below c.args.n c.in-App.field-0 c.in-App.args c.as_slice.result.now c.args.t.now c.in-App.is c.as_slice.ensures (c.terms_below.ensures.0 h),
  λ below. c.terms_below.ensures.1 (below_args c.args.n c.args.t.now c.in-App.field-0 c.in-App.args c.as_slice.result.now below c.in-App.is c.as_slice.ensures),
)

pub terms_below-returns-then-not-term_below : goal.terms_below-returns-then-not-term_below
terms_below-returns-then-not-term_below t c = (
  λ h. absurd (cc),
  λ below.
      let here = c.term_below.ensures.1 (below_at c.args.n c.args.terms.now c.loop-term.term-index c.term-item.result below c.loop-term-test.true c.term-item.is) in
      let other = c.if-not-term_below.true in cc,
)

pub terms_below-loop-term-preserved : goal.terms_below-loop-term-preserved
terms_below-loop-term-preserved t c =
    below_more c.args.n c.args.terms.now c.loop-term.term-index c.term-item.result c.loop-term-test.true c.term-item.is
    (c.term_below.ensures.0 c.if-not-term_below.false) c.loop-term.invariant

pub terms_below-returns : goal.terms_below-returns
terms_below-returns t c = (λ h. all_below c.args.n c.args.terms.now (λ k d l. c.loop-term.invariant k d (omega arith)), λ below. refl)
