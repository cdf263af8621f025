-- Places in a list of the needed terms.
use Rattle.std.proofs.Common.{◌≡◌, ℕ, ◌<◌, ◌≤◌, true, false, nat_lt, List, sym, ap, ap₂, subst, ◌∙◌, ◌⊎◌, inl, inr, arith}
use Rattle.std.specs.Cmp.{IsTotalOrder}
use Rattle.std.specs.List.{AllPairs, Contains}
use Rattle.std.specs.Ordering.{is_lt}
use Rattle.std.proofs.lemmas.Bool.{cases_Bool}
use Rattle.std.proofs.lemmas.Cmp.{nat_cmp_total, on_total, then_total, tied_itself}
use Rattle.std.proofs.lemmas.List.Elements.{Contains-get_or}
use Rattle.dk_syntax.specs.Depth.{term_depth_of}
use Rattle.dk_syntax.specs.declared.Term.{Any, Term}
use Rattle.expansion.specs.Rows.{term_at}
use Rattle.skolem_order.proofs.OrderLaws.{mention_precedes}
use Rattle.skolem_order.proofs.PartLaws.{place_in}
use Rattle.skolem_order.proofs.TermOrders.{order_total}
use Rattle.skolem_order.specs.Laws.{MentionsStandEarlier}
use Rattle.skolem_order.specs.Order.{IsBefore, IsPlaceOf, Needed, mentioned, rank, skolem_order}
use Rattle.skolem_order.specs.declared.origins.Origin.{Origin}

true_false : true ≡ false → ⊥
true_false e = cc

pub skolem_total : (os : List Origin) → IsTotalOrder (skolem_order os)
skolem_total os = then_total (on_total term_depth_of nat_cmp_total) (then_total (on_total (rank os) nat_cmp_total) order_total)

apart : (i j : ℕ) → (i < j) ⊎ ((i ≡ j) ⊎ (j < i))
apart i j = elim (cases_Bool (nat_lt i j)) [
  | inl p ↦ inl (let h : i < j = grind (arith, p) in h)
  | inr p ↦ inr (elim (cases_Bool (nat_lt j i)) [
    | inl q ↦ inr (let h : j < i = grind (arith, q) in h)
    | inr q ↦ inl (let a : j ≤ i = grind (arith, p) in let b : i ≤ j = grind (arith, q) in omega (arith, a, b))
  ])
]

-- where the terms are two by two, the place of a term is the first one at which it stands
pub place_of_term : (os : List Origin) (list : List Term) → AllPairs (IsBefore os) list → (s : Term) → Contains list s → (k : ℕ) × IsPlaceOf list s k
place_of_term os list ascends s c =
    let p = place_in list s c in
    (p.0, record { within = p.1; here = p.2; first = λ j less e. (ascends j p.0 Any less p.1).0 (e ∙ sym p.2) })

pub stands_earlier : MentionsStandEarlier
stands_earlier os roots list rooted sized are t s n place m = (p.0, p.1, earlier (apart p.0 n))
  where
    t_needed : Needed os roots t
    t_needed = are.needed t (subst (Contains list) place.here (Contains-get_or list n Any place.within))

    p : (k : ℕ) × IsPlaceOf list s k
    p = place_of_term os list are.ascends s (are.all s (mentioned s t t_needed m))

    before : is_lt (skolem_order os s t) ≡ true
    before = mention_precedes os rooted t s (sized t t_needed) m

    equal_not : (x : Term) → is_lt (skolem_order os x x) ≡ false
    equal_not x = ap is_lt (tied_itself (skolem_total os) x)

    earlier : (p.0 < n) ⊎ ((p.0 ≡ n) ⊎ (n < p.0)) → p.0 < n
    earlier (inl h) = h
    earlier (inr (inl e)) =
        let same : s ≡ t = sym p.1.here ∙ ap (term_at list) e ∙ place.here in
        absurd (true_false (sym before ∙ ap (λ x. is_lt (skolem_order os x t)) same ∙ equal_not t))
    earlier (inr (inr h)) =
        absurd (true_false (sym before ∙ ap₂ (λ x y. is_lt (skolem_order os x y)) (sym p.1.here) (sym place.here) ∙ (are.ascends n p.0 Any h p.1.within).1))
