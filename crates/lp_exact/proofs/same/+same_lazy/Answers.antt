use Rattle.std.proofs.Common.{◌≡◌, ◌<◌, ◌+◌, ◌*◌, IsTrue, ap, refl, subst, arith}
use Rattle.std.proofs.lemmas.Result.{IfOk-weaker}
use Rattle.lp_term.specs.View.{term_of}
use Rattle.lp_exact.specs.Layers.{opened}
use Rattle.lp_exact.specs.LazyTypes.{full, in_parts, type_weight}
use Rattle.lp_exact.proofs.TreeLaws.{open_alone}
use Rattle.lp_exact.proofs.SameLaws.{opened_lighter, opened_same, products_apart, products_together, rest_lighter, view_product}
use Rattle.lp_exact.proofs.same.+same_lazy.Goals as goal

pub same_open-returns-in_default : goal.same_open-returns-in_default
same_open-returns-in_default t c = (
  λ h. ap (λ x. in_parts full (term_of x)) (c.same_tree.ensures.0 h),
  λ e. c.same_tree.ensures.1 (open_alone full c.args.a.now c.args.b.now c.in_default.not-Pi e),
)

pub same_layers-same_open-requires : goal.same_layers-same_open-requires
same_layers-same_open-requires t c =
    let a = term_of c.args.a.now in
    let b = term_of c.args.b.now in
    let l = term_of c.shown.result.now in
    let r = term_of c.shown-2.result.now in
    let h = opened_lighter a b l r (c.shown.ensures (opened a) c.in_ok-left.ensures) (c.shown-2.ensures (opened b) c.in_ok-right.ensures) in
    (subst (λ x. 2 * (type_weight l + type_weight r) + 1 < x) c.decreases h, tt)

pub same_layers-returns : goal.same_layers-returns
same_layers-returns t c =
    let a = term_of c.args.a.now in
    let b = term_of c.args.b.now in
    let l = term_of c.shown.result.now in
    let r = term_of c.shown-2.result.now in
    IfOk-weaker c.same_open.result _ _ (λ x h. opened_same a b l r (c.shown.ensures (opened a) c.in_ok-left.ensures) (c.shown-2.ensures (opened b) c.in_ok-right.ensures) (IsTrue x) h) c.same_open.ensures

pub same_lazy-returns-then-not-branch : goal.same_lazy-returns-then-not-branch
same_lazy-returns-then-not-branch t c =
    let p = c.in-Pi-Pi in
    let left = view_product c.loop-left.left.now p.first p.rest c.get.result.now p.rest p.is-0 c.get.ensures refl in
    let right = view_product c.loop-left.right.now p.other p.remaining c.get-in-Pi-Pi.result.now p.remaining p.is-1 c.get-in-Pi-Pi.ensures refl in
    let same : full (term_of c.args.a.now) ≡ full (term_of c.args.b.now) → IsTrue c.in_ok-same_lazy.field-0 =
    λ e. c.in_ok-same_lazy.ensures.1 (products_apart _ _ _ _ _ _ left right (c.loop-left.invariant.0.1 e)).0 in
    (λ h. absurd cc, λ e. subst IsTrue c.if-not-branch.true (same e))

pub same_lazy-loop-left-preserved : goal.same_lazy-loop-left-preserved
same_lazy-loop-left-preserved t c =
    let p = c.in-Pi-Pi in
    let left = view_product c.loop-left.left.now p.first p.rest c.get.result.now c.get-left.result.now p.is-0 c.get.ensures c.get-left.ensures in
    let right = view_product c.loop-left.right.now p.other p.remaining c.get-in-Pi-Pi.result.now c.get-right.result.now p.is-1 c.get-in-Pi-Pi.ensures c.get-right.ensures in
    let first = c.in_ok-same_lazy.ensures.0 c.if-not-branch.false in
    let i = c.loop-left.invariant in
    let l = rest_lighter _ _ _ left in
    let r = rest_lighter _ _ _ right in (
      (λ e. i.0.0 (products_together _ _ _ _ _ _ left right first e), λ e. (products_apart _ _ _ _ _ _ left right (i.0.1 e)).1),
      omega (arith, l, i.1),
      omega (arith, r, i.2),
    )
