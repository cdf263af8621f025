use Rattle.std.proofs.Common.{◌≡◌, ◌<◌, arith, length, subst, sym}
use Rattle.std.proofs.lemmas.Grind.{common_steps}
use Rattle.dk_syntax.proofs.BelowLaws.{below_args, below_at}
use Rattle.unifier.proofs.OutcomeLaws.{all_done, all_refuted, all_step, applications_outcome}
use Rattle.unifier.proofs.Sizes.{args_below, item_below}
use Rattle.unifier.specs.Outcomes.{Outcome}
use Rattle.dk_syntax.specs.Terms.{Below, substituted}
use Rattle.unifier.proofs.extension.+extend.Goals as goal

pub extend-extend_terms-requires : goal.extend-extend_terms-requires
extend-extend_terms-requires t c =
    let below = args_below c.in-App-App.f c.in-App-App.xs c.as_slice.result.now c.args.a.now c.in-App-App.is-0 c.as_slice.ensures in
    let a = c.decreases in (
      omega arith,
      (
        c.requires.sound,
        (
          below_args _ c.args.a.now c.in-App-App.f c.in-App-App.xs c.as_slice.result.now c.requires.below_a c.in-App-App.is-0 c.as_slice.ensures,
          below_args _ c.args.b.now c.in-App-App.g c.in-App-App.ys c.as_slice-in-App-App.result.now c.requires.below_b c.in-App-App.is-1 c.as_slice-in-App-App.ensures,
        ),
      ),
    )

pub extend-returns-in_ok-all-in-App-App : goal.extend-returns-in_ok-all-in-App-App
extend-returns-in_ok-all-in-App-App t c =
    let heads : c.in-App-App.f ≡ c.in-App-App.g = grind (arith, common_steps, c.same.ensures) in
    applications_outcome c.args.frozen c.in-App-App.f c.in-App-App.g c.as_slice.result.now c.as_slice-in-App-App.result.now c.args.a.now c.args.b.now
    c.args.bindings.now.terms c.extend_terms.new.bindings.terms c.in_ok-all-in-App-App.all
    (let e = c.in-App-App.is-0 in let z = c.as_slice.ensures in cc) (let e = c.in-App-App.is-1 in let z = c.as_slice-in-App-App.ensures in cc) heads c.in_ok-all-in-App-App.ensures

pub extend_terms-extend-requires : goal.extend_terms-extend-requires
extend_terms-extend-requires t c =
    let l = sym c.loop-i.invariant.0 in
    let h : c.loop-i.i < length c.args.ys.now = omega arith in
    let below = item_below c.args.xs.now c.loop-i.i c.index-xs-i.result c.loop-i-test.true c.index-xs-i.is in
    let a = c.decreases in (
      omega arith,
      (
        c.loop-i.invariant.1,
        (
          subst (λ n. Below n c.index-xs-i.result) l (below_at _ c.args.xs.now c.loop-i.i c.index-xs-i.result c.requires.below_xs c.loop-i-test.true c.index-xs-i.is),
          subst (λ n. Below n c.index-ys-i.result) l (below_at _ c.args.ys.now c.loop-i.i c.index-ys-i.result c.requires.below_ys h c.index-ys-i.is),
        ),
      ),
    )

pub extend_terms-returns-then-not-equal : goal.extend_terms-returns-then-not-equal
extend_terms-returns-then-not-equal t c =
    let h : c.loop-i.i < length c.args.ys.now = omega arith in
    all_refuted c.args.frozen c.args.xs.now c.args.ys.now c.loop-i.i c.index-xs-i.result c.index-ys-i.result c.args.bindings.now.terms c.loop-i.bindings.terms
    c.index-xs-i.is c.index-ys-i.is c.loop-i-test.true h c.loop-i.invariant.2
    (subst (λ w. Outcome c.args.frozen (λ r. substituted r c.index-xs-i.result ≡ substituted r c.index-ys-i.result) c.loop-i.bindings.terms c.extend.new.bindings.terms w) c.if-not-equal.true c.in_ok-equal.ensures)

pub extend_terms-loop-i-preserved : goal.extend_terms-loop-i-preserved
extend_terms-loop-i-preserved t c =
    let h : c.loop-i.i < length c.args.ys.now = omega arith in
    all_step c.args.frozen c.args.xs.now c.args.ys.now c.loop-i.i c.index-xs-i.result c.index-ys-i.result c.args.bindings.now.terms c.loop-i.bindings.terms c.extend.new.bindings.terms
    c.index-xs-i.is c.index-ys-i.is c.loop-i-test.true h c.loop-i.invariant.0 c.loop-i.invariant.2
    (subst (λ w. Outcome c.args.frozen (λ r. substituted r c.index-xs-i.result ≡ substituted r c.index-ys-i.result) c.loop-i.bindings.terms c.extend.new.bindings.terms w) c.if-not-equal.false c.in_ok-equal.ensures)

pub extend_terms-returns : goal.extend_terms-returns
extend_terms-returns t c =
    all_done c.args.frozen c.args.xs.now c.args.ys.now c.loop-i.i c.args.bindings.now.terms c.loop-i.bindings.terms (omega arith) c.if-xs-ys.false c.loop-i.invariant.0 c.loop-i.invariant.1 c.loop-i.invariant.2
