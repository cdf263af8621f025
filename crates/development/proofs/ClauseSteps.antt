-- One literal more at the end of those that are abstracted over.
use Rattle.std.proofs.Common.{◌≡◌, ◌+◌, ◌-◌, ◌<◌, ◌≤◌, ℕ, zero, suc, List, [], ◌∷◌, map, take, length, get_or, refl, sym, ap, ◌∙◌, arith}
use Rattle.development.specs.Clauses.{abstracted, typed}
use Rattle.lp_term.specs.LambdaPi.{Term, lam, pi}
use Rattle.nd_term.specs.Formulas.{Literal}
use Rattle.nd_term.specs.Places.{eigenvariables_at}
use Rattle.nd_term.specs.Translation.{literal_type}

module _ {A : Type 0} (f : A → Literal) (first count : ℕ) where
  abbrev type_at : ℕ → A → Term
  type_at n x = literal_type (eigenvariables_at n first count) (f x)

  level_in : (n k m : ℕ) → m ≡ n + suc k → m ≡ suc n + k
  level_in n k m e = omega arith

  level_here : (n m : ℕ) → m ≡ n + 0 → m ≡ n
  level_here n m e = omega arith

  pub abstracted_more : (n m k : ℕ) (xs : List A) (x : A) (u : Term) → k < length xs → get_or xs k x ≡ x → m ≡ n + k
      → abstracted n first count (map f (take (suc k) xs)) u ≡ abstracted n first count (map f (take k xs)) (lam (type_at m x) u)
  abstracted_more n m k [] x u h e q = absurd (omega arith)
  abstracted_more n m zero (y ∷ xs) x u h e q =
      ap (λ z. lam (type_at n z) u) e ∙ ap (λ l. lam (type_at l x) u) (sym (level_here n m q))
  abstracted_more n m (suc k) (y ∷ xs) x u h e q =
      ap (lam (type_at n y)) (abstracted_more (suc n) m k xs x u (omega arith) e (level_in n k m q))

  pub typed_more : (n m k : ℕ) (xs : List A) (x : A) (u : Term) → k < length xs → get_or xs k x ≡ x → m ≡ n + k
      → typed n first count (map f (take (suc k) xs)) u ≡ typed n first count (map f (take k xs)) (pi (type_at m x) u)
  typed_more n m k [] x u h e q = absurd (omega arith)
  typed_more n m zero (y ∷ xs) x u h e q =
      ap (λ z. pi (type_at n z) u) e ∙ ap (λ l. pi (type_at l x) u) (sym (level_here n m q))
  typed_more n m (suc k) (y ∷ xs) x u h e q =
      ap (pi (type_at n y)) (typed_more (suc n) m k xs x u (omega arith) e (level_in n k m q))

  -- the same by the number of those that are left
  pub abstracted_step : (n left : ℕ) (xs : List A) (x : A) (u v w : Term) → 0 < left → left ≤ length xs → get_or xs (left - 1) x ≡ x
      → v ≡ lam w u → w ≡ type_at (n + (left - 1)) x
      → abstracted n first count (map f (take (left - 1) xs)) v ≡ abstracted n first count (map f (take left xs)) u
  abstracted_step n left xs x u v w p h e q r =
      let k : suc (left - 1) ≡ left = omega arith in
      ap (abstracted n first count (map f (take (left - 1) xs))) (q ∙ ap (λ d. lam d u) r)
      ∙ sym (abstracted_more n (n + (left - 1)) (left - 1) xs x u (omega arith) e refl)
      ∙ ap (λ j. abstracted n first count (map f (take j xs)) u) k

  pub typed_step : (n left : ℕ) (xs : List A) (x : A) (u v w : Term) → 0 < left → left ≤ length xs → get_or xs (left - 1) x ≡ x
      → v ≡ pi w u → w ≡ type_at (n + (left - 1)) x
      → typed n first count (map f (take (left - 1) xs)) v ≡ typed n first count (map f (take left xs)) u
  typed_step n left xs x u v w p h e q r =
      let k : suc (left - 1) ≡ left = omega arith in
      ap (typed n first count (map f (take (left - 1) xs))) (q ∙ ap (λ d. pi d u) r)
      ∙ sym (typed_more n (n + (left - 1)) (left - 1) xs x u (omega arith) e refl)
      ∙ ap (λ j. typed n first count (map f (take j xs)) u) k
