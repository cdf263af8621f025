-- Two clauses have one exact resolvent by a link, with one justification.
use Rattle.std.proofs.Common.{◌≡◌, ◌<◌, ℕ, zero, suc, ◌+◌, cond, List, [], ◌∷◌, ◌++◌, map, length, Some, slice_get, Contains, refl, sym, ap, ap₂, ◌∙◌, subst, arith, rules}
use Rattle.std.specs.List.{range_with_len}
use Rattle.dk_syntax.proofs.TermLaws.{term_induction}
use Rattle.dk_syntax.proofs.ListLaws.{ForEach, for_each}
use Rattle.dk_syntax.specs.Symbols.{joined}
use Rattle.dk_syntax.specs.declared.Clause.{Clause}
use Rattle.dk_syntax.specs.declared.Literal.{Literal}
use Rattle.dk_syntax.specs.declared.SymKey.{SymKey}
use Rattle.dk_syntax.specs.declared.Term.{Term, the_lemmas as of_terms}
use Rattle.dk_syntax.specs.declared.Term.TheVariants.{Any, App, Var}
use Rattle.normal_form.specs.ClauseLists.{clause_over, literal_variables, quants_of, variables_of, with_numbers}
use Rattle.normal_form.specs.Renaming.{place_of, renamed, renamed_literal}
use Rattle.dk_syntax.proofs.SubstitutionLaws.{substituted-Any, substituted-App, substituted-Var}
use Rattle.dk_syntax.specs.Terms.{instance, substituted}
use Rattle.step_chain.proofs.BackAndForth.{Back, follow, follow_all, has_new, new, numbers_back, numbers_new, place_new, Returns, vars_back, vars_back_all, vars_map, vars_map_all}
use Rattle.step_chain.proofs.Items.{same_some}
use Rattle.step_chain.specs.Resolvents.{again, closed_over, closed_terms_over, IsOnce, new as is_new, none}

-- ---- renaming is a substitution

renamed-Var : (p : ℕ → ℕ) (k : ℕ) → renamed p (Var k) ≡ Var (p k)
renamed-Var p k = search (rules, of_terms)

renamed-App : (p : ℕ → ℕ) (h : SymKey) (args : List Term) → renamed p (App h args) ≡ App h (map (renamed p) args)
renamed-App p h args = search (rules, of_terms)

renamed-Any : (p : ℕ → ℕ) → renamed p Any ≡ Any
renamed-Any p = search (rules, of_terms)

renames_all : (p : ℕ → ℕ) (args : List Term) → ForEach (λ a. renamed p a ≡ substituted (λ k. Var (p k)) a) args → map (renamed p) args ≡ map (substituted (λ k. Var (p k))) args
renames_all p [] known = refl
renames_all p (a ∷ args) known = ap₂ (λ x y. x ∷ y) known.0 (renames_all p args known.1)

pub renames : (p : ℕ → ℕ) (a : Term) → renamed p a ≡ substituted (λ k. Var (p k)) a
renames p = term_induction (λ a. renamed p a ≡ substituted (λ k. Var (p k)) a)
    (λ k. renamed-Var p k ∙ sym (substituted-Var (λ k. Var (p k)) k))
    (λ f args known. renamed-App p f args ∙ ap (App f) (renames_all p args known) ∙ sym (substituted-App (λ k. Var (p k)) f args))
    (renamed-Any p ∙ sym (substituted-Any (λ k. Var (p k))))

abbrev pub with_args : Literal → List Term → Literal
with_args l args = record l { args = args }

renames_literal : (p : ℕ → ℕ) (l : Literal) → renamed_literal p l ≡ instance (λ k. Var (p k)) l
renames_literal p l = ap (with_args l) (renames_all p l.args (for_each (λ a. renamed p a ≡ substituted (λ k. Var (p k)) a) (renames p) l.args))

pub length_map : {A B : Type 0} (f : A → B) (xs : List A) → length (map f xs) ≡ length xs
length_map f [] = refl
length_map f (x ∷ xs) = ap suc (length_map f xs)

pub each_join : {A : Type 0} (P : A → Type 0) (xs ys : List A) → ForEach P xs → ForEach P ys → ForEach P (xs ++ ys)
each_join P [] ys h k = k
each_join P (x ∷ xs) ys h k = (h.0, each_join P xs ys h.1 k)

pub map_join : {A B : Type 0} (f : A → B) (xs ys : List A) → map f (xs ++ ys) ≡ map f xs ++ map f ys
map_join f [] ys = refl
map_join f (x ∷ xs) ys = ap (λ l. f x ∷ l) (map_join f xs ys)

-- ---- each literal once

module _ (F G : Literal → Literal) where
  abbrev pub Undone : Literal → Type 0
  Undone l = G (F l) ≡ l

  contains_forth : (seen : List Literal) (l : Literal) → Contains seen l → Contains (map F seen) (F l)
  contains_forth [] l (k, less, is) = absurd (omega (arith, less))
  contains_forth (x ∷ seen) l (zero, less, is) = (zero, omega arith, ap F is)
  contains_forth (x ∷ seen) l (suc k, less, is) = let w = contains_forth seen l (k, omega (arith, less), is) in (suc w.0, omega (arith, w.1), w.2)

  contains_back : (seen : List Literal) (l : Literal) → ForEach Undone seen → Undone l → Contains (map F seen) (F l) → Contains seen l
  contains_back [] l h u (k, less, is) = absurd (omega (arith, less))
  contains_back (x ∷ seen) l h u (zero, less, is) = (zero, omega arith, sym h.0 ∙ ap G is ∙ u)
  contains_back (x ∷ seen) l h u (suc k, less, is) = let w = contains_back seen l h.1 u (k, omega (arith, less), is) in (suc w.0, omega (arith, w.1), w.2)

  pub once_new : {seen lits once : List Literal} → IsOnce seen lits once → (images : List Literal) → IsOnce (map F seen) (map F lits) images → ForEach Undone seen → ForEach Undone lits → images ≡ map F once
  once_new (none seen) images e h k = nothing images e
    where
      nothing : (images : List Literal) {seen : List Literal} → IsOnce seen [] images → images ≡ []
      nothing _ (none _) = refl
  once_new (again seen l rest once there w) images (again _ _ _ _ there' w') h k = once_new w images w' h k.1
  once_new (again seen l rest once there w) _ (is_new _ _ _ images absent w') h k = absurd (absent (contains_forth seen l there))
  once_new (is_new seen l rest once absent w) images (again _ _ _ _ there' w') h k = absurd (absent (contains_back seen l h k.0 there'))
  once_new (is_new seen l rest once absent w) _ (is_new _ _ _ images absent' w') h k =
      ap (λ x. F l ∷ x) (once_new w images (subst (λ x. IsOnce x (map F rest) images) (sym (map_join F seen (l ∷ []))) w') (each_join Undone seen (l ∷ []) h (k.0, tt)) k.1)

pub once_each : (P : Literal → Type 0) {seen lits once : List Literal} → IsOnce seen lits once → ForEach P lits → ForEach P once
once_each P (none seen) k = tt
once_each P (again seen l rest once there w) k = once_each P w k.1
once_each P (is_new seen l rest once absent w) k = (k.0, once_each P w k.1)

-- no literal stands twice, nor among those seen
contains_more : (seen : List Literal) (l x : Literal) → Contains seen l → Contains (seen ++ x ∷ []) l
contains_more [] l x (k, less, is) = absurd (omega (arith, less))
contains_more (y ∷ seen) l x (zero, less, is) = (zero, omega arith, is)
contains_more (y ∷ seen) l x (suc k, less, is) = let w = contains_more seen l x (k, omega (arith, less), is) in (suc w.0, omega (arith, w.1), w.2)

contains_end : (seen : List Literal) (x : Literal) → Contains (seen ++ x ∷ []) x
contains_end [] x = (zero, omega arith, refl)
contains_end (y ∷ seen) x = let w = contains_end seen x in (suc w.0, omega (arith, w.1), w.2)

not_seen : {seen lits once : List Literal} → IsOnce seen lits once → (l : Literal) (i : ℕ) → slice_get once i ≡ Some l → Contains seen l → ⊥
not_seen (none seen) l i at there = cc
not_seen (again seen x rest once h w) l i at there = not_seen w l i at there
not_seen (is_new seen x rest once h w) l zero at there = h (subst (λ y. Contains seen y) (sym (same_some (Some x) x l refl at)) there)
not_seen (is_new seen x rest once h w) l (suc i) at there = not_seen w l i at (contains_more seen l x there)

pub one_place : {seen lits once : List Literal} → IsOnce seen lits once → (l : Literal) (i j : ℕ) → slice_get once i ≡ Some l → slice_get once j ≡ Some l → i ≡ j
one_place (none seen) l i j a b = cc
one_place (again seen x rest once h w) l i j a b = one_place w l i j a b
one_place (is_new seen x rest once h w) l zero zero a b = refl
one_place (is_new seen x rest once h w) l zero (suc j) a b = absurd (not_seen w l j b (subst (λ y. Contains (seen ++ x ∷ []) y) (same_some (Some x) x l refl a) (contains_end seen x)))
one_place (is_new seen x rest once h w) l (suc i) zero a b = absurd (not_seen w l i a (subst (λ y. Contains (seen ++ x ∷ []) y) (same_some (Some x) x l refl b) (contains_end seen x)))
one_place (is_new seen x rest once h w) l (suc i) (suc j) a b = ap suc (one_place w l i j a b)

-- ---- literals that come back

module _ (r b : ℕ → Term) where
  abbrev pub LitReturns : Literal → Type 0
  LitReturns l = instance b (instance r l) ≡ l

  lit_back : (l : Literal) → LitReturns l → ForEach (Back r b) (literal_variables l)
  lit_back l h = vars_back_all r b l.args (for_each (λ a. Returns r b a → ForEach (Back r b) (variables_of a)) (vars_back r b) l.args) (ap (λ x. x.args) h)

  lit_vars : (l : Literal) → LitReturns l → literal_variables (instance r l) ≡ map (new r b) (literal_variables l)
  lit_vars l h = vars_map_all r b l.args (for_each (λ a. ForEach (Back r b) (variables_of a) → variables_of (substituted r a) ≡ map (new r b) (variables_of a)) (vars_map r b) l.args) (lit_back l h)

  all_back : (lits : List Literal) → ForEach LitReturns lits → ForEach (Back r b) (joined (map literal_variables lits))
  all_back [] h = tt
  all_back (l ∷ lits) h = each_join (Back r b) (literal_variables l) (joined (map literal_variables lits)) (lit_back l h.0) (all_back lits h.1)

  all_vars : (lits : List Literal) → ForEach LitReturns lits → joined (map literal_variables (map (instance r) lits)) ≡ map (new r b) (joined (map literal_variables lits))
  all_vars [] h = refl
  all_vars (l ∷ lits) h = ap₂ (λ x y. x ++ y) (lit_vars l h.0) (all_vars lits h.1) ∙ sym (map_join (new r b) (literal_variables l) (joined (map literal_variables lits)))

  pub quants_new : (lits : List Literal) → ForEach LitReturns lits → quants_of (map (instance r) lits) ≡ map (new r b) (quants_of lits)
  quants_new lits h = ap (with_numbers []) (all_vars lits h) ∙ numbers_new r b [] (joined (map literal_variables lits)) tt (all_back lits h)

  pub quants_back : (lits : List Literal) → ForEach LitReturns lits → ForEach (Back r b) (quants_of lits)
  quants_back lits h = numbers_back r b [] (joined (map literal_variables lits)) tt (all_back lits h)

  module _ (there here : ℕ → Term) (agrees : (x : ℕ) → Back r b x → there (new r b x) ≡ here x) where
    lit_follow : (l : Literal) → LitReturns l → instance there (instance r l) ≡ instance here l
    lit_follow l h = ap (with_args l) (follow_all r b there here agrees l.args
        (for_each (λ a. ForEach (Back r b) (variables_of a) → substituted there (substituted r a) ≡ substituted here a) (follow r b there here agrees) l.args) (lit_back l h))

  over_new : (q : List ℕ) → ForEach (Back r b) q → (lits : List Literal) → ForEach LitReturns lits
      → map (renamed_literal (place_of (map (new r b) q))) (map (instance r) lits) ≡ map (renamed_literal (place_of q)) lits
  over_new q back [] h = refl
  over_new q back (l ∷ lits) h =
      ap₂ (λ x y. x ∷ y)
      (renames_literal (place_of (map (new r b) q)) (instance r l)
      ∙ lit_follow (λ k. Var (place_of (map (new r b) q) k)) (λ k. Var (place_of q k)) (λ x k. ap Var (place_new r b q x back k)) l h.0
      ∙ sym (renames_literal (place_of q) l))
      (over_new q back lits h.1)

  abbrev clause_with : ℕ → List Literal → Clause
  clause_with vars lits = record { vars = vars; lits = lits }

  pub clause_new : (lits : List Literal) → ForEach LitReturns lits → clause_over (quants_of (map (instance r) lits)) (map (instance r) lits) ≡ clause_over (quants_of lits) lits
  clause_new lits h =
      ap (λ q. clause_over q (map (instance r) lits)) (quants_new lits h)
      ∙ ap (λ v. clause_with v (map (renamed_literal (place_of (map (new r b) (quants_of lits)))) (map (instance r) lits))) (length_map (new r b) (quants_of lits))
      ∙ ap (clause_with (length (quants_of lits))) (over_new (quants_of lits) (quants_back lits h) lits h)

  range_same : (f g : ℕ → Term) (a n : ℕ) → ((j : ℕ) → j < a + n → f j ≡ g j) → map f (range_with_len a n) ≡ map g (range_with_len a n)
  range_same f g a zero h = refl
  range_same f g a (suc n) h =
      let x = h a (omega arith) in
      let y = range_same f g (a + 1) n (λ j l. h j (omega arith)) in cc

  pub terms_new : (q : List ℕ) → ForEach (Back r b) q → (v : ℕ) (t t' : ℕ → Term) → ((j : ℕ) → j < v → t' j ≡ substituted r (t j)) → ((j : ℕ) → j < v → Returns r b (t j))
      → closed_terms_over (map (new r b) q) v t' ≡ closed_terms_over q v t
  terms_new q back v t t' to returns =
      range_same (λ j. substituted (closed_over (map (new r b) q)) (t' j)) (λ j. substituted (closed_over q) (t j)) 0 v (λ j less.
      let l : j < v = omega arith in
      ap (substituted (closed_over (map (new r b) q))) (to j l)
      ∙ follow r b (closed_over (map (new r b) q)) (closed_over q) (λ x k. ap₂ (λ c p. cond c (Var p) Any) (has_new r b q x back k) (place_new r b q x back k)) (t j) (vars_back r b (t j) (returns j l)))
