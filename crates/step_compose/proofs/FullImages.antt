-- The full map is a map of Skolem images, and leads to the full image.
use Rattle.std.proofs.Common.{◌≡◌, ◌<◌, ◌≤◌, ℕ, zero, suc, ◌+◌, nat_eq, Bool, true, false, not, List, [], ◌∷◌, ◌++◌, map, refl, sym, ap, ◌∙◌, subst, arith, eq-eqb, ◌⊎◌, inl, inr}
use Rattle.std.proofs.lemmas.Bool.{and_from, and_parts, eqb-true, or_cases, or_left, or_right}
use Rattle.dk_syntax.specs.declared.SymKey.{SymKey}
use Rattle.dk_syntax.specs.declared.Term.{Term}
use Rattle.dk_syntax.specs.declared.Term.TheVariants.{Var}
use Rattle.normal_form.specs.ClauseLists.{has_number}
use Rattle.normal_form.specs.Forms.{Form, form_of, yes, no, lit, and, or, all, ex, alls, exs}
use Rattle.normal_form.proofs.FormLaws.{tree_is_form}
use Rattle.step_compose.specs.Laws.{FullIsImage}
use Rattle.step_compose.specs.FullImages.{downward, full_entries, full_from, full_map}
use Rattle.step_skolem.specs.Images.{are_distinct, binder, i_all, i_and, i_lit, i_no, i_or, i_put, i_yes, Image, is_outside, Kept, universal}
use Rattle.step_skolem.specs.Substitutions.{applied, up, with_term}

-- the universals around have these numbers, the outermost first, all below u, and no other quantifier is around
pub record Around (g : List Kept) (numbers : List ℕ) (d u : ℕ) : Type 0 where
  pub bound : map (binder g) (downward d) ≡ map universal numbers
  pub once : are_distinct numbers ≡ true
  pub below : (k : ℕ) → has_number numbers k ≡ true → k < u
  pub alone : (i : ℕ) → is_outside (binder g i) ≡ false → has_number (downward d) i ≡ true

downward_suc : (d : ℕ) → downward (suc d) ≡ map (λ k. suc k) (downward d) ++ 0 ∷ []
downward_suc zero = refl
downward_suc (suc d) = ap (λ l. suc d ∷ l) (downward_suc d)

bound_up : (x : Kept) (g : List Kept) (ks : List ℕ) → map (binder (x ∷ g)) (map (λ k. suc k) ks ++ 0 ∷ []) ≡ map (binder g) ks ++ x ∷ []
bound_up x g [] = refl
bound_up x g (k ∷ ks) = ap (λ l. binder g k ∷ l) (bound_up x g ks)

each_universal : (ns : List ℕ) (n : ℕ) → map universal ns ++ universal n ∷ [] ≡ map universal (ns ++ n ∷ [])
each_universal [] n = refl
each_universal (m ∷ ns) n = ap (λ l. universal m ∷ l) (each_universal ns n)

has_up : (ks : List ℕ) (i : ℕ) → has_number ks i ≡ true → has_number (map (λ k. suc k) ks ++ 0 ∷ []) (suc i) ≡ true
has_up [] i h = cc
has_up (k ∷ ks) i h = elim (or_cases (nat_eq k i) (has_number ks i) h) [
  | inl e ↦ or_left (nat_eq (suc k) (suc i)) (has_number (map (λ k. suc k) ks ++ 0 ∷ []) (suc i)) (eq-eqb (suc k) (suc i) (ap suc (eqb-true k i e)))
  | inr w ↦ or_right (nat_eq (suc k) (suc i)) (has_number (map (λ k. suc k) ks ++ 0 ∷ []) (suc i)) (has_up ks i w)
]

has_zero : (ks : List ℕ) → has_number (map (λ k. suc k) ks ++ 0 ∷ []) 0 ≡ true
has_zero [] = refl
has_zero (k ∷ ks) = or_right (nat_eq (suc k) 0) (has_number (map (λ k. suc k) ks ++ 0 ∷ []) 0) (has_zero ks)

end_cases : (ns : List ℕ) (u k : ℕ) → has_number (ns ++ u ∷ []) k ≡ true → (has_number ns k ≡ true) ⊎ (u ≡ k)
end_cases [] u k h = elim (or_cases (nat_eq u k) false h) [ inl e ↦ inr (eqb-true u k e) | inr w ↦ absurd (not_false w) ]
  where
    not_false : false ≡ true → ⊥
    not_false w = cc
end_cases (n ∷ ns) u k h = elim (or_cases (nat_eq n k) (has_number (ns ++ u ∷ []) k) h) [
  | inl e ↦ inl (or_left (nat_eq n k) (has_number ns k) e)
  | inr w ↦ elim (end_cases ns u k w) [ inl v ↦ inl (or_right (nat_eq n k) (has_number ns k) v) | inr e ↦ inr e ]
]

not_by : (b : Bool) → (b ≡ true → ⊥) → not b ≡ true
not_by true h = absurd (h refl)
not_by false h = refl

not_both : (b : Bool) → not b ≡ true → b ≡ true → ⊥
not_both b h k = cc

distinct_end : (ns : List ℕ) (u : ℕ) → ((k : ℕ) → has_number ns k ≡ true → k < u) → are_distinct ns ≡ true → are_distinct (ns ++ u ∷ []) ≡ true
distinct_end [] u low h = refl
distinct_end (n ∷ ns) u low h =
    let parts = and_parts (not (has_number ns n)) (are_distinct ns) h in
    let less : n < u = low n (or_left (nat_eq n n) (has_number ns n) (eq-eqb n n refl)) in
    and_from (not (has_number (ns ++ u ∷ []) n)) (are_distinct (ns ++ u ∷ []))
    (not_by (has_number (ns ++ u ∷ []) n) (λ w. elim (end_cases ns u n w) [ inl v ↦ not_both (has_number ns n) parts.0 v | inr e ↦ omega (arith, less, e) ]))
    (distinct_end ns u (λ k w. low k (or_right (nat_eq n k) (has_number ns k) w)) parts.1)

around_up : (g : List Kept) (ns : List ℕ) (d u : ℕ) → Around g ns d u → Around (universal u ∷ g) (ns ++ u ∷ []) (suc d) (suc u)
around_up g ns d u a = record {
  bound = ap (map (binder (universal u ∷ g))) (downward_suc d) ∙ bound_up (universal u) g (downward d) ∙ ap (λ l. l ++ universal u ∷ []) a.bound ∙ each_universal ns u;
  once = distinct_end ns u a.below a.once;
  below = λ k h. elim (end_cases ns u k h) [ inl w ↦ let l = a.below k w in omega arith | inr e ↦ omega arith ];
  alone = alone_up;
}
  where
    alone_up : (i : ℕ) → is_outside (binder (universal u ∷ g) i) ≡ false → has_number (downward (suc d)) i ≡ true
    alone_up zero h = ap (λ l. has_number l 0) (downward_suc d) ∙ has_zero (downward d)
    alone_up (suc i) h = ap (λ l. has_number l (suc i)) (downward_suc d) ∙ has_up (downward d) i (a.alone i h)

around_on : (g : List Kept) (ns : List ℕ) (d u v : ℕ) → u ≤ v → Around g ns d u → Around g ns d v
around_on g ns d u v h a = record { bound = a.bound; once = a.once; below = λ k w. let l = a.below k w in omega arith; alone = a.alone }

pub full_leads : (symbols : ℕ → SymKey) (g : List Kept) (s : ℕ → Term) (ns : List ℕ) (d u e : ℕ) (n : Form) → Around g ns d u
    → Image g s u e n (full_entries symbols ns u e n) (full_from symbols s d e n)
full_leads symbols g s ns d u e yes a = i_yes g s u e
full_leads symbols g s ns d u e no a = i_no g s u e
full_leads symbols g s ns d u e (lit l) a = i_lit g s u e l
full_leads symbols g s ns d u e (and b c) a =
    i_and g s u e b c _ _ _ _ (full_leads symbols g s ns d u e b a) (full_leads symbols g s ns d (alls b + u) (exs b + e) c (around_on g ns d u (alls b + u) (omega arith) a))
full_leads symbols g s ns d u e (or b c) a =
    i_or g s u e b c _ _ _ _ (full_leads symbols g s ns d u e b a) (full_leads symbols g s ns d (alls b + u) (exs b + e) c (around_on g ns d u (alls b + u) (omega arith) a))
full_leads symbols g s ns d u e (all b) a = i_all g s u e b _ _ (full_leads symbols (universal u ∷ g) (up s) (ns ++ u ∷ []) (suc d) (suc u) e b (around_up g ns d u a))
full_leads symbols g s ns d u e (ex b) a =
    i_put g s u e b _ _ (symbols e) ns (downward d) (record { universals = a.bound; once = a.once; covered = λ k i f h o. a.alone i o })
    (full_leads symbols g (with_term (applied (symbols e) (downward d)) s) ns d u (suc e) b a)

none_around : Around [] [] 0 0
none_around = record { bound = refl; once = refl; below = λ k h. cc; alone = λ i h. cc }

pub full_is_image : FullIsImage
full_is_image symbols n =
    subst (λ x. Image [] Var 0 0 (form_of n) (full_map symbols n) x) (sym (tree_is_form (full_from symbols Var 0 0 (form_of n)))) (full_leads symbols [] Var [] 0 0 0 (form_of n) none_around)
