-- Laws of marks.
use Rattle.std.proofs.Common.{◌≡◌, ℕ, zero, suc, Bool, true, false, List, [], ◌∷◌, ◌++◌, map, get_or, slice_set, nat_eq, arith, refl, sym, ap, ◌∙◌, ◌⊎◌, inl, inr}
use Rattle.std.proofs.lemmas.Bool.{eq-eqb, or_cases, or_left, or_right}
use Rattle.std.proofs.lemmas.List.Elements.{Contains-append_left, Contains-append_right}
use Rattle.dk_syntax.proofs.SubstitutionLaws.{has_variable-App, has_variable-Var}
use Rattle.dk_syntax.specs.Terms.{any_true, has_variable}
use Rattle.dk_syntax.specs.declared.clause.Literal.{Literal}
use Rattle.dk_syntax.specs.declared.symbol.SymKey.{SymKey}
use Rattle.dk_syntax.specs.declared.term.Term.{Term}
use Rattle.dk_syntax.specs.declared.term.Term.TheVariants.{App, Var}
use Rattle.ground_instances.specs.Marks.{Marks}
use Rattle.ground_instances.specs.Naming.{HasVariable}

pub marks_none : (marks : List Bool) (ts : List Term) → Marks marks ts marks
marks_none marks ts k e = inl e

any_append : (k : ℕ) (ts us : List Term) → any_true (map (has_variable k) (ts ++ us)) ≡ true
    → (any_true (map (has_variable k) ts) ≡ true) ⊎ (any_true (map (has_variable k) us) ≡ true)
any_append k [] us e = inr e
any_append k (t ∷ ts) us e = elim (or_cases (has_variable k t) (any_true (map (has_variable k) (ts ++ us))) e) [
  | inl p ↦ inl (or_left (has_variable k t) (any_true (map (has_variable k) ts)) p)
  | inr q ↦ elim (any_append k ts us q) [ inl p ↦ inl (or_right (has_variable k t) (any_true (map (has_variable k) ts)) p) | inr r ↦ inr r ]
]

append_any_left : (k : ℕ) (ts us : List Term) → any_true (map (has_variable k) ts) ≡ true → any_true (map (has_variable k) (ts ++ us)) ≡ true
append_any_left k [] us e = absurd (cc)
append_any_left k (t ∷ ts) us e = elim (or_cases (has_variable k t) (any_true (map (has_variable k) ts)) e) [
  | inl p ↦ or_left (has_variable k t) (any_true (map (has_variable k) (ts ++ us))) p
  | inr q ↦ or_right (has_variable k t) (any_true (map (has_variable k) (ts ++ us))) (append_any_left k ts us q)
]

append_any_right : (k : ℕ) (ts us : List Term) → any_true (map (has_variable k) us) ≡ true → any_true (map (has_variable k) (ts ++ us)) ≡ true
append_any_right k [] us e = e
append_any_right k (t ∷ ts) us e = or_right (has_variable k t) (any_true (map (has_variable k) (ts ++ us))) (append_any_right k ts us e)

pub marks_then : (a b c : List Bool) (ts us : List Term) → Marks a ts b → Marks b us c → Marks a (ts ++ us) c
marks_then a b c ts us f g k e = elim (g k e) [
  | inl p ↦ elim (f k p) [ inl q ↦ inl q | inr q ↦ inr (append_any_left k ts us q) ]
  | inr q ↦ inr (append_any_right k ts us q)
]

-- an application has the variables of its arguments
pub marks_app : (a b : List Bool) (f : SymKey) (args : List Term) → Marks a args b → Marks a (App f args ∷ []) b
marks_app a b f args h k e = elim (h k e) [
  | inl p ↦ inl p
  | inr q ↦ inr (or_left (has_variable k (App f args)) false (has_variable-App k f args ∙ q))
]

set_other : (xs : List Bool) (j k : ℕ) → (j ≡ k → ⊥) → get_or (slice_set xs j true) k false ≡ get_or xs k false
set_other [] j k differs = refl
set_other (x ∷ xs) zero zero differs = absurd (differs refl)
set_other (x ∷ xs) zero (suc k) differs = refl
set_other (x ∷ xs) (suc j) zero differs = refl
set_other (x ∷ xs) (suc j) (suc k) differs = set_other xs j k (λ e. differs (ap suc e))

-- the variable's own mark
pub marks_variable : (old new : List Bool) (j : ℕ) → new ≡ slice_set old j true → Marks old (Var j ∷ []) new
marks_variable old new j is k e = by_test (nat_eq j k) refl
  where
    by_test : (b : Bool) → nat_eq j k ≡ b → (get_or old k false ≡ true) ⊎ (any_true (map (has_variable k) (Var j ∷ [])) ≡ true)
    by_test true p = inr (or_left (has_variable k (Var j)) false (has_variable-Var k j ∙ p))
    by_test false p =
        let differs : (j ≡ k → ⊥) = λ same. let q = eq-eqb j k same in cc in
        inl (sym (set_other old j k differs) ∙ (sym (ap (λ l. get_or l k false) is) ∙ e))

pub ruleset mark_steps = (marks_none, marks_variable)

-- a mark that stands now stood before, or its variable stands in the next literal
pub has_more : (lits : List Literal) (l : Literal) (old new : List Bool) → ((k : ℕ) → get_or old k false ≡ true → HasVariable lits k) → Marks old l.args new
    → (k : ℕ) → get_or new k false ≡ true → HasVariable (lits ++ l ∷ []) k
has_more lits l old new known marks k e = elim (marks k e) [
  | inl p ↦ let v = known k p in (v.0, Contains-append_left lits (l ∷ []) v.0 v.1, v.2)
  | inr q ↦ (l, Contains-append_right lits (l ∷ []) l (0, omega arith, refl), q)
]
