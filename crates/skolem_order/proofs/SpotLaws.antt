-- Where existentials stand: each number once.
use Rattle.std.proofs.Common.{◌≡◌, ℕ, suc, ◌+◌, ◌<◌, ◌≤◌, nat_eq, false, List, ◌∷◌, cond, Some, None, refl, ap, ap₂, ◌∙◌, arith, eq-eqb}
use Rattle.skolem_order.specs.SignedForms.{SignedForm, all, alls, constant, ex, exs, joined, lit, vacuous}
use Rattle.skolem_order.specs.Spots.{Spot, Stands, first_of, found, s_all, s_below, s_here, s_left, s_right, s_vacuous, spot}
use Rattle.skolem_order.specs.declared.walk.Around.{Around}
use Rattle.skolem_order.specs.declared.walk.Around.TheVariants.{Existential, Universal, Vacant}

-- an existential's number is in the form's range
pub in_range : {n : SignedForm} {h : List Around} {u e i : ℕ} {x : Spot} → Stands n h u e i x → (e ≤ i) × (i < exs n + e)
in_range (s_here h u e sign f a) = (omega arith, omega arith)
in_range (s_below h u e i sign f a x s) = let w = in_range s in (omega (arith, w.0), omega (arith, w.1))
in_range (s_all h u e i a x s) = in_range s
in_range (s_vacuous h u e i a x s) = in_range s
in_range (s_left h u e i both a b x s) = let w = in_range s in (w.0, omega (arith, w.1))
in_range (s_right h u e i both a b x s) = let w = in_range s in (omega (arith, w.0), omega (arith, w.1))

not_same : (m n : ℕ) → m < n → nat_eq m n ≡ false
not_same m n h = grind (arith, h)

-- no existential of a number past the range
none_past : (n : SignedForm) (h : List Around) (u e i : ℕ) → exs n + e ≤ i → found n h u e i ≡ None
none_past (constant truth) h u e i w = refl
none_past (lit l) h u e i w = refl
none_past (joined both a b) h u e i w =
    let near : exs a + e ≤ i = omega (arith, w) in
    let far : exs b + (exs a + e) ≤ i = omega (arith, w) in ap₂ first_of (none_past a h u e i near) (none_past b h (alls a + u) (exs a + e) i far)
none_past (all a) h u e i w = none_past a (Universal u ∷ h) (suc u) e i w
none_past (ex sign f a) h u e i w =
    let less : e < i = omega (arith, w) in
    let far : exs a + suc e ≤ i = omega (arith, w) in
    ap (λ c. cond c (Some (spot sign f h)) (found a (Existential e ∷ h) u (suc e) i)) (not_same e i less) ∙ none_past a (Existential e ∷ h) u (suc e) i far
none_past (vacuous a) h u e i w = none_past a (Vacant ∷ h) u e i w

-- what stands in the form is found by its number
pub stands_found : {n : SignedForm} {h : List Around} {u e i : ℕ} {x : Spot} → Stands n h u e i x → found n h u e i ≡ Some x
stands_found (s_here h u e sign f a) = ap (λ c. cond c (Some (spot sign f h)) (found a (Existential e ∷ h) u (suc e) e)) (eq-eqb e e refl)
stands_found (s_below h u e i sign f a x s) =
    let w = in_range s in
    let less : e < i = omega (arith, w.0) in
    ap (λ c. cond c (Some (spot sign f h)) (found a (Existential e ∷ h) u (suc e) i)) (not_same e i less) ∙ stands_found s
stands_found (s_all h u e i a x s) = stands_found s
stands_found (s_vacuous h u e i a x s) = stands_found s
stands_found (s_left h u e i both a b x s) = ap₂ first_of (stands_found s) refl
stands_found (s_right h u e i both a b x s) = let w = in_range s in ap₂ first_of (none_past a h u e i w.0) (stands_found s)
