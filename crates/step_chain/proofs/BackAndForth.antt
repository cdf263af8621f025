-- Substitutions that are undone by another: on what comes back they rename variables, and numbers by first occurrence
-- don't see that.
use Rattle.std.proofs.Common.{◌≡◌, ℕ, ◌+◌, nat_eq, Bool, true, false, ◌||◌, if◌then◌else◌, List, [], ◌∷◌, ◌++◌, map, refl, sym, ap, ap₂, ◌∙◌, subst, rules, eq-eqb, inl, inr}
use Rattle.std.proofs.lemmas.Bool.{cases_eq, ne_eqb}
use Rattle.dk_syntax.proofs.TermLaws.{App-injective, term_induction, Var-injective, Var-not-Any, Var-not-App}
use Rattle.dk_syntax.proofs.ListLaws.{ForEach}
use Rattle.dk_syntax.specs.Symbols.{joined}
use Rattle.dk_syntax.specs.declared.SymKey.{SymKey}
use Rattle.dk_syntax.specs.declared.Term.{Term, Term-F, fold-Term, the_lemmas as of_terms}
use Rattle.dk_syntax.specs.declared.Term.TheOpen as layer
use Rattle.dk_syntax.specs.declared.Term.TheVariants.{Any, App, Var}
use Rattle.normal_form.specs.ClauseLists.{has_number, variables_of, with_number, with_numbers}
use Rattle.normal_form.specs.Renaming.{place_of}
use Rattle.dk_syntax.proofs.SubstitutionLaws.{substituted-Any, substituted-App, substituted-Var}
use Rattle.dk_syntax.specs.Terms.{substituted}

abbrev number_at : Term-F ℕ → ℕ
number_at (layer.Var k) = k
number_at (layer.App symbol args) = 0
number_at layer.Any = 0

abbrev number : Term → ℕ
number = fold-Term ℕ number_at

number-Var : (k : ℕ) → number (Var k) ≡ k
number-Var k = search (rules, of_terms)

pub variables-Var : (k : ℕ) → variables_of (Var k) ≡ k ∷ []
variables-Var k = search (rules, of_terms)

pub variables-App : (h : SymKey) (args : List Term) → variables_of (App h args) ≡ joined (map variables_of args)
variables-App h args = search (rules, of_terms)

variables-Any : variables_of Any ≡ []
variables-Any = search (rules, of_terms)

each_append : (P : ℕ → Type 0) (xs ys : List ℕ) → ForEach P xs → ForEach P ys → ForEach P (xs ++ ys)
each_append P [] ys h k = k
each_append P (x ∷ xs) ys h k = (h.0, each_append P xs ys h.1 k)

each_front : (P : ℕ → Type 0) (xs ys : List ℕ) → ForEach P (xs ++ ys) → ForEach P xs
each_front P [] ys h = tt
each_front P (x ∷ xs) ys h = (h.0, each_front P xs ys h.1)

each_end : (P : ℕ → Type 0) (xs ys : List ℕ) → ForEach P (xs ++ ys) → ForEach P ys
each_end P [] ys h = h
each_end P (x ∷ xs) ys h = each_end P xs ys h.1

map_append : (f : ℕ → ℕ) (xs ys : List ℕ) → map f (xs ++ ys) ≡ map f xs ++ map f ys
map_append f [] ys = refl
map_append f (x ∷ xs) ys = ap (λ l. f x ∷ l) (map_append f xs ys)

first_term : (x y : Term) (xs ys : List Term) → x ∷ xs ≡ y ∷ ys → x ≡ y
first_term x y xs ys h = cc

rest_terms : (x y : Term) (xs ys : List Term) → x ∷ xs ≡ y ∷ ys → xs ≡ ys
rest_terms x y xs ys h = cc

is_var : (b : ℕ → Term) (k : ℕ) (a : Term) → substituted b a ≡ Var k → (y : ℕ) × (a ≡ Var y)
is_var b k = term_induction (λ a. substituted b a ≡ Var k → (y : ℕ) × (a ≡ Var y))
    (λ n e. (n, refl))
    (λ f args known e. absurd (Var-not-App k f (map (substituted b) args) (sym e ∙ substituted-App b f args)))
    (λ e. absurd (Var-not-Any k (sym e ∙ substituted-Any b)))

module _ (r b : ℕ → Term) where
  -- the variable comes back; the term does
  abbrev pub Back : ℕ → Type 0
  Back x = substituted b (r x) ≡ Var x

  abbrev pub Returns : Term → Type 0
  Returns a = substituted b (substituted r a) ≡ a

  -- the new number of a variable
  abbrev pub new : ℕ → ℕ
  new x = number (r x)

  pub r_is : (x : ℕ) → Back x → r x ≡ Var (new x)
  r_is x h = let w = is_var b x (r x) h in w.1 ∙ ap Var (sym (ap number w.1 ∙ number-Var w.0))

  pub new_apart : (x y : ℕ) → Back x → Back y → new x ≡ new y → x ≡ y
  new_apart x y h k e = Var-injective x y (sym h ∙ ap (substituted b) (r_is x h ∙ ap Var e ∙ sym (r_is y k)) ∙ k)

  same_test : (x y : ℕ) → Back x → Back y → nat_eq (new x) (new y) ≡ nat_eq x y
  same_test x y h k = elim (cases_eq x y) [
    | inl e ↦ eq-eqb (new x) (new y) (ap new e) ∙ sym (eq-eqb x y e)
    | inr differs ↦ ne_eqb (new x) (new y) (λ e. differs (new_apart x y h k e)) ∙ sym (ne_eqb x y differs)
  ]

  -- ---- terms

  pub vars_back_all : (args : List Term) → ForEach (λ a. Returns a → ForEach Back (variables_of a)) args → map (substituted b) (map (substituted r) args) ≡ args → ForEach Back (joined (map variables_of args))
  vars_back_all [] known e = tt
  vars_back_all (a ∷ args) known e =
      each_append Back (variables_of a) (joined (map variables_of args))
      (known.0 (first_term (substituted b (substituted r a)) a (map (substituted b) (map (substituted r) args)) args e))
      (vars_back_all args known.1 (rest_terms (substituted b (substituted r a)) a (map (substituted b) (map (substituted r) args)) args e))

  pub vars_back : (a : Term) → Returns a → ForEach Back (variables_of a)
  vars_back = term_induction (λ a. Returns a → ForEach Back (variables_of a))
      (λ k e. subst (ForEach Back) (sym (variables-Var k)) (sym (ap (substituted b) (substituted-Var r k)) ∙ e, tt))
      (λ f args known e. subst (ForEach Back) (sym (variables-App f args))
      (vars_back_all args known (App-injective f f (map (substituted b) (map (substituted r) args)) args
      (sym (ap (substituted b) (substituted-App r f args) ∙ substituted-App b f (map (substituted r) args)) ∙ e)).1))
      (λ e. subst (ForEach Back) (sym variables-Any) tt)

  pub vars_map_all : (args : List Term) → ForEach (λ a. ForEach Back (variables_of a) → variables_of (substituted r a) ≡ map new (variables_of a)) args → ForEach Back (joined (map variables_of args))
      → joined (map variables_of (map (substituted r) args)) ≡ map new (joined (map variables_of args))
  vars_map_all [] known h = refl
  vars_map_all (a ∷ args) known h =
      ap₂ (λ x y. x ++ y) (known.0 (each_front Back (variables_of a) (joined (map variables_of args)) h)) (vars_map_all args known.1 (each_end Back (variables_of a) (joined (map variables_of args)) h))
      ∙ sym (map_append new (variables_of a) (joined (map variables_of args)))

  pub vars_map : (a : Term) → ForEach Back (variables_of a) → variables_of (substituted r a) ≡ map new (variables_of a)
  vars_map = term_induction (λ a. ForEach Back (variables_of a) → variables_of (substituted r a) ≡ map new (variables_of a))
      (λ k h. ap variables_of (substituted-Var r k ∙ r_is k (subst (ForEach Back) (variables-Var k) h).0) ∙ variables-Var (new k) ∙ sym (ap (map new) (variables-Var k)))
      (λ f args known h. ap variables_of (substituted-App r f args) ∙ variables-App f (map (substituted r) args)
      ∙ vars_map_all args known (subst (ForEach Back) (variables-App f args) h) ∙ sym (ap (map new) (variables-App f args)))
      (λ h. ap variables_of (substituted-Any r) ∙ variables-Any ∙ sym (ap (map new) variables-Any))

  module _ (there here : ℕ → Term) (agree : (x : ℕ) → Back x → there (new x) ≡ here x) where
    pub follow_all : (args : List Term) → ForEach (λ a. ForEach Back (variables_of a) → substituted there (substituted r a) ≡ substituted here a) args → ForEach Back (joined (map variables_of args))
        → map (substituted there) (map (substituted r) args) ≡ map (substituted here) args
    follow_all [] known h = refl
    follow_all (a ∷ args) known h =
        ap₂ (λ x y. x ∷ y) (known.0 (each_front Back (variables_of a) (joined (map variables_of args)) h)) (follow_all args known.1 (each_end Back (variables_of a) (joined (map variables_of args)) h))

    pub follow : (a : Term) → ForEach Back (variables_of a) → substituted there (substituted r a) ≡ substituted here a
    follow = term_induction (λ a. ForEach Back (variables_of a) → substituted there (substituted r a) ≡ substituted here a)
        (λ k h. let w = (subst (ForEach Back) (variables-Var k) h).0 in
        ap (substituted there) (substituted-Var r k ∙ r_is k w) ∙ substituted-Var there (new k) ∙ agree k w ∙ sym (substituted-Var here k))
        (λ f args known h. ap (substituted there) (substituted-App r f args) ∙ substituted-App there f (map (substituted r) args)
        ∙ ap (App f) (follow_all args known (subst (ForEach Back) (variables-App f args) h)) ∙ sym (substituted-App here f args))
        (λ h. ap (substituted there) (substituted-Any r) ∙ substituted-Any there ∙ sym (substituted-Any here))

  -- ---- numbers by first occurrence

  pub has_new : (q : List ℕ) (x : ℕ) → ForEach Back q → Back x → has_number (map new q) (new x) ≡ has_number q x
  has_new [] x h k = refl
  has_new (y ∷ q) x h k = ap₂ (λ a c. a || c) (same_test y x h.0 k) (has_new q x h.1 k)

  pub place_new : (q : List ℕ) (x : ℕ) → ForEach Back q → Back x → place_of (map new q) (new x) ≡ place_of q x
  place_new [] x h k = refl
  place_new (y ∷ q) x h k = ap₂ (λ a c. if a then 0 else 1 + c) (same_test y x h.0 k) (place_new q x h.1 k)

  with_new : (seen : List ℕ) (x : ℕ) → ForEach Back seen → Back x → with_number (map new seen) (new x) ≡ map new (with_number seen x)
  with_new seen x h k = ap (λ c. if c then map new seen else map new seen ++ new x ∷ []) (has_new seen x h k) ∙ by_test (has_number seen x)
    where
      by_test : (c : Bool) → (if c then map new seen else map new seen ++ new x ∷ []) ≡ map new (if c then seen else seen ++ x ∷ [])
      by_test true = refl
      by_test false = sym (map_append new seen (x ∷ []))

  pub with_back : (seen : List ℕ) (x : ℕ) → ForEach Back seen → Back x → ForEach Back (with_number seen x)
  with_back seen x h k = by_test (has_number seen x)
    where
      by_test : (c : Bool) → ForEach Back (if c then seen else seen ++ x ∷ [])
      by_test true = h
      by_test false = each_append Back seen (x ∷ []) h (k, tt)

  pub numbers_new : (seen xs : List ℕ) → ForEach Back seen → ForEach Back xs → with_numbers (map new seen) (map new xs) ≡ map new (with_numbers seen xs)
  numbers_new seen [] h k = refl
  numbers_new seen (x ∷ xs) h k = ap (λ l. with_numbers l (map new xs)) (with_new seen x h k.0) ∙ numbers_new (with_number seen x) xs (with_back seen x h k.0) k.1

  pub numbers_back : (seen xs : List ℕ) → ForEach Back seen → ForEach Back xs → ForEach Back (with_numbers seen xs)
  numbers_back seen [] h k = h
  numbers_back seen (x ∷ xs) h k = numbers_back (with_number seen x) xs (with_back seen x h k.0) k.1
