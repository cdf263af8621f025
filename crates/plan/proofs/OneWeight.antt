-- Clauses have one weight.
use Rattle.std.proofs.Common.{◌≡◌, ◌≤◌, ℕ, zero, suc, List, [], ◌∷◌, length, Some, slice_get, refl, sym, ap, ◌∙◌, subst, inl, inr, arith}
use Rattle.dk_syntax.specs.declared.clause.Literal.{Literal}
use Rattle.dk_syntax.specs.declared.term.Term.{Term}
use Rattle.ground_instances.specs.Weights.{AreTermsOf, IsWeight}
use Rattle.plan.proofs.Membership.{Among, among, contained}

-- no element stands at two places
abbrev AreApart : {A : Type 0} → List A → Type 0
AreApart [] = Unit {0}
AreApart (x ∷ xs) = (Among xs x → ⊥) × AreApart xs

place_of : {A : Type 0} (xs : List A) (x : A) → Among xs x → (k : ℕ) × (slice_get xs k ≡ Some x)
place_of [] x h = absurd h
place_of (y ∷ ys) x (inl e) = (zero, ap Some e)
place_of (y ∷ ys) x (inr h) = let r = place_of ys x h in (suc r.0, r.1)

never : (k : ℕ) → zero ≡ suc k → ⊥
never k h = absurd (omega (arith, h))

less : (j k : ℕ) → suc j ≡ suc k → j ≡ k
less j k h = omega (arith, h)

apart_by : {A : Type 0} (xs : List A) → ((j k : ℕ) (x : A) → slice_get xs j ≡ Some x → slice_get xs k ≡ Some x → j ≡ k) → AreApart xs
apart_by [] once = tt
apart_by (x ∷ xs) once =
    (λ h. (let r = place_of xs x h in never r.0 (once zero (suc r.0) x refl r.1)), apart_by xs (λ j k y at there. less j k (once (suc j) (suc k) y at there)))

-- the list without one of its elements
removed : {A : Type 0} (ys : List A) (x : A) → Among ys x → (rest : List A) × (length ys ≡ suc (length rest)) × ((z : A) → Among ys z → (x ≡ z → ⊥) → Among rest z)
removed [] x h = absurd h
removed (y ∷ ys) x (inl e) = (ys, refl, λ z h apart. elim h [ inl f ↦ absurd (apart (sym e ∙ f)) | inr r ↦ r ])
removed (y ∷ ys) x (inr h) = let r = removed ys x h in (y ∷ r.0, ap suc r.1, λ z m apart. elim m [ inl f ↦ inl f | inr k ↦ inr (r.2 z k apart) ])

no_longer : {A : Type 0} (xs ys : List A) → AreApart xs → ((x : A) → Among xs x → Among ys x) → length xs ≤ length ys
no_longer [] ys once all = omega arith
no_longer (x ∷ xs) ys once all =
    let r = removed ys x (all x (inl refl)) in
    let shorter = no_longer xs r.0 once.1 (λ z m. r.2 z (all z (inr m)) (λ e. once.0 (subst (Among xs) (sym e) m))) in
    omega (arith, r.1, shorter)

module _ (clauses : List (List Literal)) where
  shorter : (a b : List Term) → AreTermsOf clauses a → AreTermsOf clauses b → length a ≤ length b
  shorter a b p q = no_longer a b (apart_by a p.once) (λ t m. among b t ((q.same t).1 ((p.same t).0 (contained a t m))))

  as_many : (a b : List Term) → AreTermsOf clauses a → AreTermsOf clauses b → length a ≡ length b
  as_many a b p q = omega (arith, shorter a b p q, shorter b a q p)

  -- the clauses have one weight
  pub weight_one : (n m : ℕ) → IsWeight clauses n → IsWeight clauses m → n ≡ m
  weight_one n m (a, p, e) (b, q, f) = let same = as_many a b p q in omega (arith, same, e, f)
