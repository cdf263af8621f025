use Rattle.std.proofs.Common.{◌≡◌, ◌<◌, arith, length, subst}
use Rattle.std.proofs.lemmas.Grind.{common_steps}
use Rattle.dk_syntax.proofs.SubstitutionLaws.{same_maps, same_more, stands}
use Rattle.unifier.proofs.ComparisonLaws.{applications_step, first_variable, item_different, item_needs}
use Rattle.dk_syntax.proofs.BelowLaws.{below_args, below_at}
use Rattle.unifier.specs.Comparing.{NextStep}
use Rattle.dk_syntax.specs.Terms.{substituted}
use Rattle.unifier.proofs.comparison.+next_step.Goals as goal

pub ends_step-variable_step-requires-clause-within : goal.ends_step-variable_step-requires-clause-within
ends_step-variable_step-requires-clause-within t c = c.requires.below_a c.in-Var.i (stands c.in-Var.i c.args.a.now c.in-Var.is)

pub ends_step-variable_step-requires-in-Var-b-clause-within : goal.ends_step-variable_step-requires-in-Var-b-clause-within
ends_step-variable_step-requires-in-Var-b-clause-within t c = c.requires.below_b c.in-Var-b.j (stands c.in-Var-b.j c.args.b.now c.in-Var-b.is)

pub ends_step-terms_step-requires : goal.ends_step-terms_step-requires
ends_step-terms_step-requires t c =
    let a = c.decreases in (
      omega arith,
      (
        c.requires.sound,
        (
          below_args _ c.args.a.now c.in-App.f c.in-App.xs c.as_slice.result.now c.requires.below_a c.in-App.is c.as_slice.ensures,
          below_args _ c.args.b.now c.in-App-b.g c.in-App-b.ys c.as_slice-in-App-b.result.now c.requires.below_b c.in-App-b.is c.as_slice-in-App-b.ensures,
        ),
      ),
    )

pub ends_step-variable_step-requires-in-Var-b-2-clause-within : goal.ends_step-variable_step-requires-in-Var-b-2-clause-within
ends_step-variable_step-requires-in-Var-b-2-clause-within t c = c.requires.below_b c.in-Var-b-2.j (stands c.in-Var-b-2.j c.args.b.now c.in-Var-b-2.is)

pub ends_step-returns-in_ok-first-in-Var : goal.ends_step-returns-in_ok-first-in-Var
ends_step-returns-in_ok-first-in-Var t c =
    first_variable c.args.frozen c.args.s.now c.in_ok-first-in-Var.first c.in-Var.i c.args.a.now c.args.b.now c.in-Var.is c.in_ok-first-in-Var.ensures

pub ends_step-returns-in_ok-all-in-App-b : goal.ends_step-returns-in_ok-all-in-App-b
ends_step-returns-in_ok-all-in-App-b t c =
    let heads : c.in-App.f ≡ c.in-App-b.g = grind (arith, common_steps, c.same.ensures) in
    applications_step c.args.frozen c.args.s.now c.in_ok-all-in-App-b.all c.in-App.f c.in-App-b.g c.as_slice.result.now c.as_slice-in-App-b.result.now c.args.a.now c.args.b.now
    (let e = c.in-App.is in let z = c.as_slice.ensures in cc) (let e = c.in-App-b.is in let z = c.as_slice-in-App-b.ensures in cc) heads c.in_ok-all-in-App-b.ensures

pub next_step-ends_step-requires : goal.next_step-ends_step-requires
next_step-ends_step-requires t c =
    let a = c.decreases in (
      omega arith,
      (
        c.requires.sound,
        (
          c.in_ok-first.ensures.below c.requires.sound.below c.requires.below_a,
          (
            c.in_ok-second.ensures.below c.requires.sound.below c.requires.below_b,
            (c.in_ok-first.ensures.free, c.in_ok-second.ensures.free),
          ),
        ),
      ),
    )

pub terms_step-next_step-requires : goal.terms_step-next_step-requires
terms_step-next_step-requires t c =
    let a = c.decreases in
    let h : c.loop-i.i < length c.args.ys.now = omega arith in (
      omega arith,
      (
        c.requires.sound,
        (
          below_at _ c.args.xs.now c.loop-i.i c.index-xs-i.result c.requires.below_xs c.loop-i-test.true c.index-xs-i.is,
          below_at _ c.args.ys.now c.loop-i.i c.index-ys-i.result c.requires.below_ys h c.index-ys-i.is,
        ),
      ),
    )

pub terms_step-returns-in-Different : goal.terms_step-returns-in-Different
terms_step-returns-in-Different t c =
    let h : c.loop-i.i < length c.args.ys.now = omega arith in
    item_different c.args.frozen c.args.s.now c.args.xs.now c.args.ys.now c.loop-i.i c.index-xs-i.result c.index-ys-i.result
    c.index-xs-i.is c.index-ys-i.is c.loop-i-test.true h
    (subst (NextStep c.args.frozen (λ r. substituted r c.index-xs-i.result ≡ substituted r c.index-ys-i.result) c.args.s.now) c.in-Different.is c.in_ok-step.ensures)

pub terms_step-returns-in-Bind : goal.terms_step-returns-in-Bind
terms_step-returns-in-Bind t c =
    let h : c.loop-i.i < length c.args.ys.now = omega arith in
    item_needs c.args.frozen c.args.s.now c.args.xs.now c.args.ys.now c.loop-i.i c.index-xs-i.result c.index-ys-i.result c.in-Bind.k c.in-Bind.term
    c.index-xs-i.is c.index-ys-i.is c.loop-i-test.true h
    (subst (NextStep c.args.frozen (λ r. substituted r c.index-xs-i.result ≡ substituted r c.index-ys-i.result) c.args.s.now) c.in-Bind.is c.in_ok-step.ensures)

pub terms_step-loop-i-preserved : goal.terms_step-loop-i-preserved
terms_step-loop-i-preserved t c = λ r f h.
    let l : c.loop-i.i < length c.args.ys.now = omega arith in
    same_more r c.args.xs.now c.args.ys.now c.loop-i.i c.index-xs-i.result c.index-ys-i.result c.index-xs-i.is c.index-ys-i.is c.loop-i-test.true l
    (c.loop-i.invariant r f h)
    (let all = subst (NextStep c.args.frozen (λ r. substituted r c.index-xs-i.result ≡ substituted r c.index-ys-i.result) c.args.s.now) c.in-Equal.is c.in_ok-step.ensures in all r f h)

pub terms_step-returns : goal.terms_step-returns
terms_step-returns t c = λ r f h. same_maps r c.args.xs.now c.args.ys.now c.if-xs-ys.false (λ k l d. c.loop-i.invariant r f h k (omega arith) d)
