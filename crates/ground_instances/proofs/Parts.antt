-- Parts of terms, and terms that stand in clauses.
use Rattle.std.proofs.Common.{◌≡◌, ℕ, zero, suc, true, List, [], ◌∷◌, ◌++◌, map, All, Contains, arith, refl, sym, ap, ◌∙◌, subst, inl, inr}
use Rattle.std.proofs.lemmas.Bool.{eqb-true, or_cases}
use Rattle.std.proofs.lemmas.List.Elements.{Contains-append_left, Contains-append_right}
use Rattle.dk_syntax.proofs.ListLaws.{ForEach}
use Rattle.dk_syntax.proofs.SubstitutionLaws.{has_variable-Any, has_variable-App, has_variable-Var, substituted-App, substituted-Var}
use Rattle.dk_syntax.proofs.TermLaws.{term_induction}
use Rattle.dk_syntax.specs.Terms.{any_true, has_variable, instance, substituted}
use Rattle.dk_syntax.specs.declared.clause.Literal.{Literal}
use Rattle.dk_syntax.specs.declared.term.Term.{Term}
use Rattle.dk_syntax.specs.declared.term.Term.TheVariants.{App}
use Rattle.ground_instances.specs.Weights.{inside, IsInClauses, IsPart, IsPartOf, whole}

-- ---- elements of lists

pub there : {A : Type 0} (x : A) (xs : List A) → Contains (x ∷ xs) x
there x xs = (0, omega arith, refl)

pub beyond : {A : Type 0} (y x : A) (xs : List A) → Contains xs x → Contains (y ∷ xs) x
beyond y x xs (k, l, e) = (suc k, omega arith, e)

-- what holds of each element holds of an element
pub all_at : {A : Type 0} (P : A → Type 0) (xs : List A) (x : A) → All P xs → Contains xs x → P x
all_at P xs x all (k, l, e) = subst P e (all k x l)

pub mapped : {A B : Type 0} (f : A → B) (xs : List A) (x : A) → Contains xs x → Contains (map f xs) (f x)
mapped f [] x (k, l, e) = absurd (omega arith)
mapped f (y ∷ ys) x (zero, l, e) = (0, omega arith, ap f e)
mapped f (y ∷ ys) x (suc k, l, e) = beyond (f y) (f x) (map f ys) (mapped f ys x (k, omega arith, e))

-- an element of the image is the image of an element
pub mapped_from : {A B : Type 0} (f : A → B) (xs : List A) (y : B) → Contains (map f xs) y → (x : A) × Contains xs x × (f x ≡ y)
mapped_from f [] y (k, l, e) = absurd (omega arith)
mapped_from f (x ∷ xs) y (zero, l, e) = (x, there x xs, e)
mapped_from f (x ∷ xs) y (suc k, l, e) = let r = mapped_from f xs y (k, omega arith, e) in (r.0, beyond x r.0 xs r.1, r.2)

-- ---- parts

pub part_then : {t u w : Term} → IsPart t u → IsPart u w → IsPart t w
part_then {t = t} p (whole w e) = subst (λ x. IsPart t x) (sym e) p
part_then p (inside w arg f args e c q) = inside w arg f args e c (part_then p q)

-- a variable's term is a part of the term in which the variable stands
abbrev VariablePart : (ℕ → Term) → ℕ → Term → Type 0
VariablePart s k t = has_variable k t ≡ true → IsPart (s k) (substituted s t)

argument_with : (s : ℕ → Term) (k : ℕ) (args : List Term) → ForEach (VariablePart s k) args → any_true (map (has_variable k) args) ≡ true
    → (u : Term) × Contains (map (substituted s) args) u × IsPart (s k) u
argument_with s k [] known e = absurd (cc)
argument_with s k (x ∷ xs) known e = elim (or_cases (has_variable k x) (any_true (map (has_variable k) xs)) e) [
  | inl p ↦ (substituted s x, there (substituted s x) (map (substituted s) xs), known.0 p)
  | inr q ↦ let r = argument_with s k xs known.1 q in (r.0, beyond (substituted s x) r.0 (map (substituted s) xs) r.1, r.2)
]

pub variable_part : (s : ℕ → Term) (k : ℕ) (t : Term) → VariablePart s k t
variable_part s k = term_induction (VariablePart s k)
    (λ j e. let same : j ≡ k = eqb-true j k (sym (has_variable-Var k j) ∙ e) in
    subst (λ x. IsPart (s k) x) (sym (substituted-Var s j ∙ ap s same)) (whole (s k) refl))
    (λ f args known e.
    let r = argument_with s k args known (sym (has_variable-App k f args) ∙ e) in
    inside (substituted s (App f args)) r.0 f (map (substituted s) args) (substituted-App s f args) r.1 r.2)
    (λ e. absurd (let a = has_variable-Any k in cc))

each_part : (s : ℕ → Term) (k : ℕ) (args : List Term) → ForEach (VariablePart s k) args
each_part s k [] = tt
each_part s k (x ∷ xs) = (variable_part s k x, each_part s k xs)

-- a variable's term stands in the instance of a literal in which the variable stands
pub literal_part : (s : ℕ → Term) (k : ℕ) (literal : Literal) → any_true (map (has_variable k) literal.args) ≡ true → IsPartOf (instance s literal).args (s k)
literal_part s k literal e = argument_with s k literal.args (each_part s k literal.args) e

-- ---- clauses

pub clause_left : (xs ys : List (List Literal)) (t : Term) → IsInClauses xs t → IsInClauses (xs ++ ys) t
clause_left xs ys t (lits, c, p) = (lits, Contains-append_left xs ys lits c, p)

pub clause_right : (xs ys : List (List Literal)) (t : Term) → IsInClauses ys t → IsInClauses (xs ++ ys) t
clause_right xs ys t (lits, c, p) = (lits, Contains-append_right xs ys lits c, p)
