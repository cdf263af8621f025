-- What binding a variable does to the substitutions that refine the bindings.
use Rattle.std.proofs.Common.{◌≡◌, ◌≢◌, ◌≤◌, ◌<◌, ℕ, zero, suc, Bool, true, false, List, Option, Some, None, get_or, length, replicate, subst, refl, sym, ap, ◌∙◌, ◌⊎◌, inl, inr}
use Rattle.std.specs.Prelude.{nat_eq, slice_set}
use Rattle.std.specs.Option.{unwrap_or}
use Rattle.std.proofs.lemmas.Bool.{cases_Bool, eq-eqb, eqb-true, false_from_ne_true}
use Rattle.std.proofs.lemmas.List.{get_or-set_same, get_or-set_other}
use Rattle.std.proofs.Math.ListN.{length-set}
use Rattle.dk_syntax.specs.declared.Term.{Term}
use Rattle.dk_syntax.specs.declared.Term.TheVariants.{Var}
use Rattle.dk_syntax.proofs.SubstitutionLaws.{after, agree, comes, is_variable, one, one_absent, one_comes, one_other, one_refined, one_same, substituted-Var}
use Rattle.unifier.specs.Outcomes.{IsSettledBy, Sound}
use Rattle.unifier.specs.Substitution.{Refines, IsSettledTerm, value}
use Rattle.dk_syntax.specs.Terms.{Below, has_variable, substituted}

-- ---- cases

pub true_not_false : (b : Bool) → b ≡ true → b ≡ false → ⊥
true_not_false b p q = cc

pub entry_cases : (entry : Option Term) → (entry ≡ None) ⊎ ((t : Term) × (entry ≡ Some t))
entry_cases None = inl refl
entry_cases (Some t) = inr (t, refl)

pub Some-injective : (t u : Term) → Some t ≡ Some u → t ≡ u
Some-injective t u e = cc

-- ---- the values of a list

pub value_none : (s : List (Option Term)) (k : ℕ) → get_or s k None ≡ None → value s k ≡ Var k
value_none s k e = ap (λ entry. unwrap_or entry (Var k)) e

pub value_some : (s : List (Option Term)) (k : ℕ) (t : Term) → get_or s k None ≡ Some t → value s k ≡ t
value_some s k t e = ap (λ entry. unwrap_or entry (Var k)) e

pub refined_value : (s : List (Option Term)) (r : ℕ → Term) → Refines s r → (t : Term) → substituted r (substituted (value s) t) ≡ substituted r t
refined_value s r h t = after r (value s) t ∙ agree (λ k. substituted r (value s k)) r t (λ k e. sym (h k))

-- ---- no variable is bound yet

abbrev pub unbound : ℕ → List (Option Term)
unbound n = replicate n None

pub none_there : (n k : ℕ) → get_or (unbound n) k None ≡ None
none_there zero k = refl
none_there (suc n) zero = refl
none_there (suc n) (suc k) = none_there n k

pub unbound_refined : (n : ℕ) (r : ℕ → Term) → Refines (unbound n) r
unbound_refined n r k = sym (ap (substituted r) (value_none (unbound n) k (none_there n k)) ∙ substituted-Var r k)

pub unbound_sound : (frozen n : ℕ) → Sound frozen (unbound n)
unbound_sound frozen n = record {
  unfrozen = λ k t e. absurd (let a = none_there n k in cc);
  below = λ k t e. absurd (let a = none_there n k in cc);
  form = Var;
  settles = record {
    free = λ k e. refl;
    refines = unbound_refined n Var;
    general = λ r h k. sym (substituted-Var r k);
    apart = λ k j u e. absurd (let a = none_there n j in cc);
    within = λ k l j h. subst (λ i. i < length (unbound n)) (is_variable k j (Var k) refl h) l;
  };
}

-- ---- what a most general substitution says of terms

pub form_general : (s : List (Option Term)) (m r : ℕ → Term) → IsSettledBy s m → Refines s r → (t : Term) → substituted r (substituted m t) ≡ substituted r t
form_general s m r ok h t = after r m t ∙ agree (λ k. substituted r (m k)) r t (λ k e. sym (ok.general r h k))

pub form_apart : (s : List (Option Term)) (m : ℕ → Term) → IsSettledBy s m → (t : Term) → IsSettledTerm s (substituted m t)
form_apart s m ok t j u e = false_from_ne_true (has_variable j (substituted m t)) (λ h.
    let w = comes m j t h in true_not_false (has_variable j (m w.0)) w.2 (ok.apart w.0 j u e))

pub form_below : (s : List (Option Term)) (m : ℕ → Term) → IsSettledBy s m → (t : Term) → Below (length s) t → Below (length s) (substituted m t)
form_below s m ok t b j h = let w = comes m j t h in ok.within w.0 (b w.0 w.1) j w.2

pub bound_form : (s : List (Option Term)) (m : ℕ → Term) (k : ℕ) (t : Term) → IsSettledBy s m → get_or s k None ≡ Some t → m k ≡ substituted m t
bound_form s m k t ok e = ok.refines k ∙ ap (substituted m) (value_some s k t e)

-- ---- the bindings with k bound to t

abbrev pub bound : List (Option Term) → ℕ → Term → List (Option Term)
bound s k t = slice_set s k (Some t)

pub bound_length : (s : List (Option Term)) (k : ℕ) (t : Term) → length (bound s k t) ≡ length s
bound_length s k t = length-set s k (Some t)

bound_here : (s : List (Option Term)) (k : ℕ) (t : Term) → k < length s → get_or (bound s k t) k None ≡ Some t
bound_here s k t l = get_or-set_same s k (Some t) None l

bound_there : (s : List (Option Term)) (k : ℕ) (t : Term) (j : ℕ) → nat_eq j k ≡ false → get_or (bound s k t) j None ≡ get_or s j None
bound_there s k t j e = let other : j ≢ k = λ i. true_not_false (nat_eq j k) (eq-eqb j k i) e in get_or-set_other s k j (Some t) None other

-- an entry of the new bindings is the new one or an old one
pub bound_entry : (s : List (Option Term)) (k : ℕ) (t : Term) → k < length s → (j : ℕ) (u : Term) → get_or (bound s k t) j None ≡ Some u → ((j ≡ k) × (u ≡ t)) ⊎ ((nat_eq j k ≡ false) × (get_or s j None ≡ Some u))
bound_entry s k t l j u e = elim (cases_Bool (nat_eq j k)) [
  | inl p ↦
      let i = eqb-true j k p in
      inl (i, Some-injective u t (sym e ∙ ap (λ n. get_or (bound s k t) n None) i ∙ bound_here s k t l))
  | inr p ↦ inr (p, sym (bound_there s k t j p) ∙ e)
]

pub bound_old : (s : List (Option Term)) (k : ℕ) (t : Term) → k < length s → get_or s k None ≡ None → (r : ℕ → Term) → Refines (bound s k t) r → Refines s r
bound_old s k t l free r h j = elim (cases_Bool (nat_eq j k)) [
  | inl p ↦
      let i = eqb-true j k p in
      sym (ap (substituted r) (value_none s j (ap (λ n. get_or s n None) i ∙ free)) ∙ substituted-Var r j)
  | inr p ↦ h j ∙ ap (λ entry. substituted r (unwrap_or entry (Var j))) (bound_there s k t j p)
]

pub bound_new : (s : List (Option Term)) (k : ℕ) (t : Term) → k < length s → (r : ℕ → Term) → Refines (bound s k t) r → r k ≡ substituted r t
bound_new s k t l r h = h k ∙ ap (substituted r) (value_some (bound s k t) k t (bound_here s k t l))

pub bound_refined : (s : List (Option Term)) (k : ℕ) (t : Term) → k < length s → (r : ℕ → Term) → Refines s r → r k ≡ substituted r t → Refines (bound s k t) r
bound_refined s k t l r h e j = elim (cases_Bool (nat_eq j k)) [
  | inl p ↦
      let i = eqb-true j k p in
      ap r i ∙ e ∙ ap (substituted r) (sym (value_some (bound s k t) k t (bound_here s k t l))) ∙ ap (λ n. substituted r (value (bound s k t) n)) (sym i)
  | inr p ↦ h j ∙ ap (λ entry. substituted r (unwrap_or entry (Var j))) (sym (bound_there s k t j p))
]

-- the most general substitution with t's for k
abbrev pub with_bound : (ℕ → Term) → ℕ → Term → ℕ → Term
with_bound m k t x = substituted (one k (substituted m t)) (m x)

with_bound_after : (m : ℕ → Term) (k : ℕ) (t u : Term) → substituted (one k (substituted m t)) (substituted m u) ≡ substituted (with_bound m k t) u
with_bound_after m k t u = after (one k (substituted m t)) m u

with_bound_refines : (s : List (Option Term)) (m : ℕ → Term) (k : ℕ) (t : Term) → IsSettledBy s m → k < length s → get_or s k None ≡ None → has_variable k (substituted m t) ≡ false → Refines (bound s k t) (with_bound m k t)
with_bound_refines s m k t ok l free absent =
    let o = one k (substituted m t) in
    bound_refined s k t l (with_bound m k t)
    (λ x. ap (substituted o) (ok.refines x) ∙ with_bound_after m k t (value s x))
    (ap (substituted o) (ok.free k free) ∙ substituted-Var o k ∙ one_same k (substituted m t)
    ∙ sym (one_absent k (substituted m t) (substituted m t) absent) ∙ with_bound_after m k t t)

with_bound_free : (s : List (Option Term)) (m : ℕ → Term) (k : ℕ) (t : Term) → IsSettledBy s m → k < length s → (x : ℕ) → get_or (bound s k t) x None ≡ None → with_bound m k t x ≡ Var x
with_bound_free s m k t ok l x e = elim (cases_Bool (nat_eq x k)) [
  | inl p ↦ absurd (
      let a = bound_here s k t l in
      let b = ap (λ n. get_or (bound s k t) n None) (eqb-true x k p) in cc)
  | inr p ↦
      let o = one k (substituted m t) in
      ap (substituted o) (ok.free x (sym (bound_there s k t x p) ∙ e)) ∙ substituted-Var o x ∙ one_other k (substituted m t) x p
]

with_bound_apart : (s : List (Option Term)) (m : ℕ → Term) (k : ℕ) (t : Term) → IsSettledBy s m → k < length s → has_variable k (substituted m t) ≡ false → (x j : ℕ) (u : Term) → get_or (bound s k t) j None ≡ Some u → has_variable j (with_bound m k t x) ≡ false
with_bound_apart s m k t ok l absent x j u e = false_from_ne_true (has_variable j (with_bound m k t x)) (λ h.
    elim (one_comes k (substituted m t) j (m x) h) [
      | inl p ↦ elim (bound_entry s k t l j u e) [
        | inl q ↦ true_not_false (has_variable j (substituted m t)) p (ap (λ n. has_variable n (substituted m t)) q.0 ∙ absent)
        | inr q ↦ true_not_false (has_variable j (substituted m t)) p (form_apart s m ok t j u q.1)
      ]
      | inr p ↦ elim (bound_entry s k t l j u e) [
        | inl q ↦ true_not_false (nat_eq j k) (eq-eqb j k q.0) p.1
        | inr q ↦ true_not_false (has_variable j (m x)) p.0 (ok.apart x j u q.1)
      ]
    ])

with_bound_within : (s : List (Option Term)) (m : ℕ → Term) (k : ℕ) (t : Term) → IsSettledBy s m → Below (length s) t → (x : ℕ) → x < length s → Below (length s) (with_bound m k t x)
with_bound_within s m k t ok low x l j h = elim (one_comes k (substituted m t) j (m x) h) [
  | inl p ↦ form_below s m ok t low j p
  | inr p ↦ ok.within x l j p.0
]

with_bound_general : (s : List (Option Term)) (m : ℕ → Term) (k : ℕ) (t : Term) → IsSettledBy s m → k < length s → get_or s k None ≡ None → (r : ℕ → Term) → Refines (bound s k t) r → (x : ℕ) → r x ≡ substituted r (with_bound m k t x)
with_bound_general s m k t ok l free r h x =
    let old = bound_old s k t l free r h in
    ok.general r old x
    ∙ sym (one_refined k (substituted m t) r (bound_new s k t l r h ∙ sym (form_general s m r ok old t)) (m x))

-- binding an unbound variable to a term in which it does not stand keeps bindings sound
pub bound_sound : (frozen : ℕ) (s : List (Option Term)) (k : ℕ) (t : Term) → Sound frozen s → frozen ≤ k → k < length s → get_or s k None ≡ None → Below (length s) t → ((m : ℕ → Term) → IsSettledBy s m → has_variable k (substituted m t) ≡ false) → Sound frozen (bound s k t)
bound_sound frozen s k t ok low l free below absent = record {
  unfrozen = λ j u e. elim (bound_entry s k t l j u e) [
    | inl p ↦ subst (λ n. frozen ≤ n) (sym p.0) low
    | inr p ↦ ok.unfrozen j u p.1
  ];
  below = λ j u e. subst (λ n. Below n u) (sym (bound_length s k t)) (elim (bound_entry s k t l j u e) [
    | inl p ↦ subst (Below (length s)) (sym p.1) below
    | inr p ↦ ok.below j u p.1
  ]);
  form = with_bound ok.form k t;
  settles = record {
    free = with_bound_free s ok.form k t ok.settles l;
    refines = with_bound_refines s ok.form k t ok.settles l free (absent ok.form ok.settles);
    general = with_bound_general s ok.form k t ok.settles l free;
    apart = with_bound_apart s ok.form k t ok.settles l (absent ok.form ok.settles);
    within = λ x lt. subst (λ n. Below n (with_bound ok.form k t x)) (sym (bound_length s k t))
        (with_bound_within s ok.form k t ok.settles below x (subst (λ n. x < n) (bound_length s k t) lt));
  };
}
