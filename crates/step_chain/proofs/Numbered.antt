-- Clauses over the variables of their literals are numbered.
use Rattle.std.proofs.Common.{◌≡◌, ◌<◌, ℕ, zero, suc, ◌+◌, nat_eq, Bool, true, false, if◌then◌else◌, cond, List, [], ◌∷◌, ◌++◌, map, length, refl, sym, ap, ap₂, ◌∙◌, subst, arith, inl, inr, eq-eqb}
use Rattle.std.proofs.lemmas.Bool.{eqb-true, or_cases}
use Rattle.std.specs.List.{All}
use Rattle.dk_syntax.proofs.TermLaws.{term_induction}
use Rattle.dk_syntax.proofs.ListLaws.{ForEach}
use Rattle.dk_syntax.specs.Symbols.{joined}
use Rattle.dk_syntax.specs.declared.Literal.{Literal}
use Rattle.dk_syntax.specs.declared.Term.{Term}
use Rattle.dk_syntax.specs.declared.Term.TheVariants.{Any, Var}
use Rattle.normal_form.specs.ClauseLists.{clause_over, has_number, literal_variables, quants_of, variables_of, with_number, with_numbers}
use Rattle.normal_form.specs.Renaming.{place_of, renamed, renamed_literal}
use Rattle.step_clause.specs.Justifications.{IsNumbered}
use Rattle.dk_syntax.proofs.SubstitutionLaws.{agree, comes, has_variable-Any, has_variable-App, has_variable-Var}
use Rattle.std.proofs.lemmas.Bool.{or_left, or_right}
use Rattle.dk_syntax.specs.Terms.{any_true, EachBelow, has_variable, instance, substituted}
use Rattle.step_chain.proofs.BackAndForth.{variables-App, variables-Var}
use Rattle.step_chain.proofs.SameLiterals.{renames, with_args}
use Rattle.step_chain.specs.Resolvents.{closed_over}

has_left : (xs ys : List ℕ) (x : ℕ) → has_number xs x ≡ true → has_number (xs ++ ys) x ≡ true
has_left [] ys x h = cc
has_left (y ∷ xs) ys x h = elim (or_cases (nat_eq y x) (has_number xs x) h) [
  | inl e ↦ or_left (nat_eq y x) (has_number (xs ++ ys) x) e
  | inr w ↦ or_right (nat_eq y x) (has_number (xs ++ ys) x) (has_left xs ys x w)
]

has_right : (xs ys : List ℕ) (x : ℕ) → has_number ys x ≡ true → has_number (xs ++ ys) x ≡ true
has_right [] ys x h = h
has_right (y ∷ xs) ys x h = or_right (nat_eq y x) (has_number (xs ++ ys) x) (has_right xs ys x h)

in_all : (x : ℕ) (args : List Term) → ForEach (λ a. has_variable x a ≡ true → has_number (variables_of a) x ≡ true) args → any_true (map (has_variable x) args) ≡ true
    → has_number (joined (map variables_of args)) x ≡ true
in_all x [] known h = cc
in_all x (a ∷ args) known h = elim (or_cases (has_variable x a) (any_true (map (has_variable x) args)) h) [
  | inl e ↦ has_left (variables_of a) (joined (map variables_of args)) x (known.0 e)
  | inr w ↦ has_right (variables_of a) (joined (map variables_of args)) x (in_all x args known.1 w)
]

in_vars : (x : ℕ) (a : Term) → has_variable x a ≡ true → has_number (variables_of a) x ≡ true
in_vars x = term_induction (λ a. has_variable x a ≡ true → has_number (variables_of a) x ≡ true)
    (λ k e. ap (λ l. has_number l x) (variables-Var k) ∙ or_left (nat_eq k x) false (sym (has_variable-Var x k) ∙ e))
    (λ f args known e. ap (λ l. has_number l x) (variables-App f args) ∙ in_all x args known (sym (has_variable-App x f args) ∙ e))
    (λ e. absurd (let a = has_variable-Any x in cc))

kept : (seen : List ℕ) (n x : ℕ) → has_number seen x ≡ true → has_number (with_number seen n) x ≡ true
kept seen n x h = by_test (has_number seen n)
  where
    by_test : (c : Bool) → has_number (if c then seen else seen ++ n ∷ []) x ≡ true
    by_test true = h
    by_test false = has_left seen (n ∷ []) x h

put : (seen : List ℕ) (n x : ℕ) → n ≡ x → has_number (with_number seen n) x ≡ true
put seen n x e = by_test (has_number seen n) refl
  where
    by_test : (c : Bool) → has_number seen n ≡ c → has_number (if c then seen else seen ++ n ∷ []) x ≡ true
    by_test true h = subst (λ z. has_number seen z ≡ true) e h
    by_test false h = has_right seen (n ∷ []) x (or_left (nat_eq n x) false (eq-eqb n x e))

keeps : (seen xs : List ℕ) (x : ℕ) → has_number seen x ≡ true → has_number (with_numbers seen xs) x ≡ true
keeps seen [] x h = h
keeps seen (n ∷ xs) x h = keeps (with_number seen n) xs x (kept seen n x h)

adds : (seen xs : List ℕ) (x : ℕ) → has_number xs x ≡ true → has_number (with_numbers seen xs) x ≡ true
adds seen [] x h = cc
adds seen (n ∷ xs) x h = elim (or_cases (nat_eq n x) (has_number xs x) h) [
  | inl e ↦ keeps (with_number seen n) xs x (put seen n x (eqb-true n x e))
  | inr w ↦ adds (with_number seen n) xs x w
]

place_less : (q : List ℕ) (x : ℕ) → has_number q x ≡ true → place_of q x < length q
place_less [] x h = cc
place_less (y ∷ q) x h = by_test (nat_eq y x) refl (place_less q x)
  where
    by_test : (c : Bool) → nat_eq y x ≡ c → (has_number q x ≡ true → place_of q x < length q) → (if c then 0 else 1 + place_of q x) < suc (length q)
    by_test true e later = omega arith
    by_test false e later = elim (or_cases (nat_eq y x) (has_number q x) h) [
      | inl w ↦ absurd (let z : true ≡ false = sym w ∙ e in cc)
      | inr w ↦ let l = later w in omega arith
    ]

renamed_below : (q : List ℕ) (a : Term) → ((x : ℕ) → has_number (variables_of a) x ≡ true → has_number q x ≡ true) → (k : ℕ) → has_variable k (renamed (place_of q) a) ≡ true → k < length q
renamed_below q a inside k h =
    let w = comes (λ j. Var (place_of q j)) k a (ap (has_variable k) (sym (renames (place_of q) a)) ∙ h) in
    let e : place_of q w.0 ≡ k = eqb-true (place_of q w.0) k (sym (has_variable-Var k (place_of q w.0)) ∙ w.2) in
    let l = place_less q w.0 (inside w.0 (in_vars w.0 a w.1)) in omega arith

args_below : (q : List ℕ) (args : List Term) → ((x : ℕ) → has_number (joined (map variables_of args)) x ≡ true → has_number q x ≡ true) → EachBelow (length q) (map (renamed (place_of q)) args)
args_below q [] inside k h = cc
args_below q (a ∷ args) inside k h =
    elim (or_cases (has_variable k (renamed (place_of q) a)) (any_true (map (has_variable k) (map (renamed (place_of q)) args))) h) [
      | inl e ↦ renamed_below q a (λ x w. inside x (has_left (variables_of a) (joined (map variables_of args)) x w)) k e
      | inr w ↦ args_below q args (λ x v. inside x (has_right (variables_of a) (joined (map variables_of args)) x v)) k w
    ]

over_below : (q : List ℕ) (lits : List Literal) → ((x : ℕ) → has_number (joined (map literal_variables lits)) x ≡ true → has_number q x ≡ true)
    → All (λ l. EachBelow (length q) l.args) (map (renamed_literal (place_of q)) lits)
over_below q [] inside k d less = absurd (omega (arith, less))
over_below q (l ∷ lits) inside zero d less = args_below q l.args (λ x w. inside x (has_left (literal_variables l) (joined (map literal_variables lits)) x w))
over_below q (l ∷ lits) inside (suc k) d less = over_below q lits (λ x w. inside x (has_right (literal_variables l) (joined (map literal_variables lits)) x w)) k d (omega (arith, less))

-- a clause made of literals is numbered
pub over_numbered : (lits : List Literal) → IsNumbered (clause_over (quants_of lits) lits)
over_numbered lits = over_below (quants_of lits) lits (λ x w. adds [] (joined (map literal_variables lits)) x w)

-- ---- variables that are closed over are renamed

closed_term : (q : List ℕ) (a : Term) → ((x : ℕ) → has_number (variables_of a) x ≡ true → has_number q x ≡ true) → substituted (closed_over q) a ≡ renamed (place_of q) a
closed_term q a inside =
    agree (closed_over q) (λ k. Var (place_of q k)) a (λ k e. ap (λ b. cond b (Var (place_of q k)) Any) (inside k (in_vars k a e))) ∙ sym (renames (place_of q) a)

closed_args : (q : List ℕ) (args : List Term) → ((x : ℕ) → has_number (joined (map variables_of args)) x ≡ true → has_number q x ≡ true) → map (substituted (closed_over q)) args ≡ map (renamed (place_of q)) args
closed_args q [] inside = refl
closed_args q (a ∷ args) inside =
    ap₂ (λ x y. x ∷ y) (closed_term q a (λ x w. inside x (has_left (variables_of a) (joined (map variables_of args)) x w)))
    (closed_args q args (λ x w. inside x (has_right (variables_of a) (joined (map variables_of args)) x w)))

closed_all : (q : List ℕ) (lits : List Literal) → ((x : ℕ) → has_number (joined (map literal_variables lits)) x ≡ true → has_number q x ≡ true) → map (instance (closed_over q)) lits ≡ map (renamed_literal (place_of q)) lits
closed_all q [] inside = refl
closed_all q (l ∷ lits) inside =
    ap₂ (λ x y. x ∷ y)
    (ap (with_args l) (closed_args q l.args (λ x w. inside x (has_left (literal_variables l) (joined (map literal_variables lits)) x w))))
    (closed_all q lits (λ x w. inside x (has_right (literal_variables l) (joined (map literal_variables lits)) x w)))

-- the literals closed over their variables are those of the clause made of them
pub closed_literals : (lits : List Literal) → map (instance (closed_over (quants_of lits))) lits ≡ (clause_over (quants_of lits) lits).lits
closed_literals lits = closed_all (quants_of lits) lits (λ x w. adds [] (joined (map literal_variables lits)) x w)
