-- What `Any` for the unbound variables makes of settled lists: no variable from `frozen` on is left, and most general lists give one value.
use Rattle.std.proofs.Common.{◌≡◌, ◌<◌, ℕ, true, false, List, [], ◌∷◌, map, Option, Some, None, get_or, subst, refl, sym, ap, ◌∙◌, inl, inr}
use Rattle.std.specs.Prelude.{if◌then◌else◌, nat_lt}
use Rattle.std.proofs.lemmas.Bool.{cases_Bool, eq-eqb, eqb-true, false_from_ne_true, ltb-true, or_left, or_right}
use Rattle.dk_syntax.proofs.ListLaws.{ForEach}
use Rattle.dk_syntax.proofs.TermLaws.{App-injective, Var-injective, term_induction}
use Rattle.dk_syntax.specs.declared.Term.{Term}
use Rattle.dk_syntax.specs.declared.Term.TheVariants.{Any, App, Var}
use Rattle.unifier.proofs.BoundLaws.{Some-injective, entry_cases, refined_value, true_not_false, value_none, value_some}
use Rattle.unifier.proofs.SettlingLaws.{value_fixes}
use Rattle.dk_syntax.proofs.SubstitutionLaws.{comes, has_variable-Any, has_variable-App, has_variable-Var, substituted-Any, substituted-App, substituted-Var}
use Rattle.unifier.specs.Closing.{any_or_variable, closed_entry, closing}
use Rattle.unifier.specs.Substitution.{Refines, IsSettledTerm, Settled, value}
use Rattle.dk_syntax.specs.Terms.{Below, any_true, has_variable, substituted}

-- what stands in the value of a term is unbound
pub value_settled : (frozen : ℕ) (s : List (Option Term)) → Settled frozen s → (t : Term) → IsSettledTerm s (substituted (value s) t)
value_settled frozen s ok t j u e = false_from_ne_true (has_variable j (substituted (value s) t)) (λ h.
    let w = comes (value s) j t h in
    elim (entry_cases (get_or s w.0 None)) [
      | inl p ↦
          let i = eqb-true w.0 j (sym (has_variable-Var j w.0) ∙ sym (ap (has_variable j) (value_none s w.0 p)) ∙ w.2) in
          let q = ap (λ k. get_or s k None) i in cc
      | inr p ↦ true_not_false (has_variable j (value s w.0)) w.2 (ap (has_variable j) (value_some s w.0 p.0 p.1) ∙ ok.apart w.0 p.0 p.1 j u e)
    ])

-- a variable that stands for itself is unbound where no bound one stands
pub free_there : (s : List (Option Term)) (j : ℕ) → IsSettledTerm s (Var j) → get_or s j None ≡ None
free_there s j res = elim (entry_cases (get_or s j None)) [
  | inl p ↦ p
  | inr p ↦ absurd (true_not_false (has_variable j (Var j)) (has_variable-Var j j ∙ eq-eqb j j refl) (res j p.0 p.1))
]

-- what is closed has no variable from `frozen` on
pub closed_below : (frozen : ℕ) (s : List (Option Term)) (t : Term) → IsSettledTerm s t → Below frozen (substituted (closing frozen s) t)
closed_below frozen s t res j h =
    let w = comes (closing frozen s) j t h in
    elim (cases_Bool (nat_lt w.0 frozen)) [
      | inl p ↦
          let v : closing frozen s w.0 ≡ Var w.0 = ap (λ b. if b then Var w.0 else any_or_variable (get_or s w.0 None) w.0) p in
          let i = eqb-true w.0 j (sym (has_variable-Var j w.0) ∙ sym (ap (has_variable j) v) ∙ w.2) in
          subst (λ n. n < frozen) i (ltb-true w.0 frozen p)
      | inr p ↦
          let v : closing frozen s w.0 ≡ any_or_variable (get_or s w.0 None) w.0 = ap (λ b. if b then Var w.0 else any_or_variable (get_or s w.0 None) w.0) p in
          elim (entry_cases (get_or s w.0 None)) [
            | inl q ↦ absurd (let a = ap (has_variable j) (v ∙ ap (λ o. any_or_variable o w.0) q) in let b = has_variable-Any j in let d = w.2 in cc)
            | inr q ↦ absurd (true_not_false (has_variable w.0 t) w.1 (res w.0 q.0 q.1))
          ]
    ]

pub entry_below : (frozen : ℕ) (s : List (Option Term)) (k : ℕ) (t : Term) → ((k : ℕ) (t : Term) → get_or s k None ≡ Some t → IsSettledTerm s t) → closed_entry frozen s k (get_or s k None) ≡ Some t → Below frozen t
entry_below frozen s k t res e = elim (entry_cases (get_or s k None)) [
  | inl p ↦ elim (cases_Bool (nat_lt k frozen)) [
    | inl q ↦ absurd (
        let a = ap (closed_entry frozen s k) p in
        let b = ap (λ x. if x then None else Some Any) q in
        let d : None ≡ Some t = sym b ∙ sym a ∙ e in cc)
    | inr q ↦
        let a = ap (closed_entry frozen s k) p in
        let b = ap (λ x. if x then None else Some Any) q in
        let d : Any ≡ t = Some-injective Any t (sym b ∙ sym a ∙ e) in
        λ j h. absurd (let x = has_variable-Any j in let y = ap (has_variable j) d in cc)
  ]
  | inr p ↦
      let a = ap (closed_entry frozen s k) p.1 in
      let d : substituted (closing frozen s) p.0 ≡ t = Some-injective (substituted (closing frozen s) p.0) t (sym a ∙ e) in
      subst (Below frozen) d (closed_below frozen s p.0 (res k p.0 p.1))
]

-- ---- two most general lists

closing_low : (frozen : ℕ) (s : List (Option Term)) (j : ℕ) → nat_lt j frozen ≡ true → substituted (closing frozen s) (Var j) ≡ Var j
closing_low frozen s j p = substituted-Var (closing frozen s) j ∙ ap (λ b. if b then Var j else any_or_variable (get_or s j None) j) p

closing_high : (frozen : ℕ) (s : List (Option Term)) (j : ℕ) → nat_lt j frozen ≡ false → IsSettledTerm s (Var j) → substituted (closing frozen s) (Var j) ≡ Any
closing_high frozen s j p res = substituted-Var (closing frozen s) j ∙ ap (λ b. if b then Var j else any_or_variable (get_or s j None) j) p ∙ ap (λ o. any_or_variable o j) (free_there s j res)

-- what becomes a variable from `frozen` on is one
abbrev pub Becomes : ℕ → List (Option Term) → List (Option Term) → ℕ → Term → Type 0
Becomes frozen s u j b = Settled frozen s → nat_lt j frozen ≡ false → IsSettledTerm u b → substituted (value s) b ≡ Var j → substituted (closing frozen u) b ≡ Any

becomes : (frozen : ℕ) (s u : List (Option Term)) (j : ℕ) (b : Term) → Becomes frozen s u j b
becomes frozen s u j = term_induction (Becomes frozen s u j)
    (λ i ok p res e. elim (cases_Bool (nat_lt i frozen)) [
      | inl q ↦ absurd (
          let v = value_fixes frozen s ok i (ltb-true i frozen q) in
          let x : i ≡ j = Var-injective i j (sym v ∙ sym (substituted-Var (value s) i) ∙ e) in
          let y = ap (λ n. nat_lt n frozen) x in cc)
      | inr q ↦ closing_high frozen u i q res
    ])
    (λ f args known ok p res e. absurd (let a = substituted-App (value s) f args in cc))
    (λ ok p res e. substituted-Any (closing frozen u))

abbrev pub Twin : ℕ → List (Option Term) → List (Option Term) → Term → Type 0
Twin frozen s u a = IsSettledTerm s a → IsSettledTerm u (substituted (value u) a) → substituted (value s) (substituted (value u) a) ≡ a → substituted (closing frozen s) a ≡ substituted (closing frozen u) (substituted (value u) a)

twin_all : (frozen : ℕ) (s u : List (Option Term)) (args : List Term) → ForEach (Twin frozen s u) args
    → ((j : ℕ) (t : Term) → get_or s j None ≡ Some t → any_true (map (has_variable j) args) ≡ false)
    → ((j : ℕ) (t : Term) → get_or u j None ≡ Some t → any_true (map (has_variable j) (map (substituted (value u)) args)) ≡ false)
    → map (substituted (value s)) (map (substituted (value u)) args) ≡ args
    → map (substituted (closing frozen s)) args ≡ map (substituted (closing frozen u)) (map (substituted (value u)) args)
twin_all frozen s u [] known h g e = refl
twin_all frozen s u (x ∷ xs) known h g e =
    let a = known.0
    (λ j t m. false_from_ne_true (has_variable j x) (λ k. let p = or_left (has_variable j x) (any_true (map (has_variable j) xs)) k in let q = h j t m in cc))
    (λ j t m. false_from_ne_true (has_variable j (substituted (value u) x)) (λ k. let p = or_left (has_variable j (substituted (value u) x)) (any_true (map (has_variable j) (map (substituted (value u)) xs))) k in let q = g j t m in cc))
    (cc) in
    let b = twin_all frozen s u xs known.1
    (λ j t m. false_from_ne_true (any_true (map (has_variable j) xs)) (λ k. let p = or_right (has_variable j x) (any_true (map (has_variable j) xs)) k in let q = h j t m in cc))
    (λ j t m. false_from_ne_true (any_true (map (has_variable j) (map (substituted (value u)) xs))) (λ k. let p = or_right (has_variable j (substituted (value u) x)) (any_true (map (has_variable j) (map (substituted (value u)) xs))) k in let q = g j t m in cc))
    (cc) in
    cc

twin : (frozen : ℕ) (s u : List (Option Term)) → Settled frozen s → Settled frozen u → (a : Term) → Twin frozen s u a
twin frozen s u ok uk = term_induction (Twin frozen s u)
    (λ j h g e. elim (cases_Bool (nat_lt j frozen)) [
      | inl p ↦
          let v : substituted (value u) (Var j) ≡ Var j = substituted-Var (value u) j ∙ value_fixes frozen u uk j (ltb-true j frozen p) in
          closing_low frozen s j p ∙ sym (closing_low frozen u j p) ∙ ap (substituted (closing frozen u)) (sym v)
      | inr p ↦ closing_high frozen s j p h ∙ sym (becomes frozen s u j (substituted (value u) (Var j)) ok p g e)
    ])
    (λ f args known h g e.
    let v = substituted-App (value u) f args in
    let w = substituted-App (value s) f (map (substituted (value u)) args) in
    let i = App-injective f f (map (substituted (value s)) (map (substituted (value u)) args)) args (sym w ∙ ap (substituted (value s)) (sym v) ∙ e) in
    substituted-App (closing frozen s) f args
    ∙ ap (App f) (twin_all frozen s u args known
    (λ j t m. sym (has_variable-App j f args) ∙ h j t m)
    (λ j t m. sym (has_variable-App j f (map (substituted (value u)) args)) ∙ ap (has_variable j) (sym v) ∙ g j t m) i.1)
    ∙ sym (substituted-App (closing frozen u) f (map (substituted (value u)) args)) ∙ ap (substituted (closing frozen u)) (sym v))
    (λ h g e. substituted-Any (closing frozen s) ∙ sym (ap (substituted (closing frozen u)) (substituted-Any (value u)) ∙ substituted-Any (closing frozen u)))

-- two most general lists give one closed term
pub one_closing : (frozen : ℕ) (s u : List (Option Term)) → Settled frozen s → Settled frozen u → Refines s (value u) → Refines u (value s) → (t : Term) → substituted (closing frozen s) (substituted (value s) t) ≡ substituted (closing frozen u) (substituted (value u) t)
one_closing frozen s u ok uk a b t =
    let x = refined_value s (value u) a t in
    let y = refined_value u (value s) b t in
    twin frozen s u ok uk (substituted (value s) t) (value_settled frozen s ok t)
    (subst (IsSettledTerm u) (sym x) (value_settled frozen u uk t))
    (ap (substituted (value s)) x ∙ y)
    ∙ ap (substituted (closing frozen u)) x
