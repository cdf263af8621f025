-- A formula within the profile means a proper formula, where its free variables are bound.
use Rattle.std.proofs.Common.{◌≡◌, ℕ, suc, ◌+◌, lt-ltb, eq-eqb, Bool, true, false, ◌&&◌, if◌then◌else◌, List, [], ◌∷◌, ◌++◌, append_assoc, append-nil, map, length, length-append, Option, Some, None, refl, sym, ap, ap₂, ◌∙◌, arith}
use Rattle.std.proofs.lemmas.Bool.{and_parts}
use Rattle.std.proofs.lemmas.List.{length-map}
use Rattle.dk_syntax.proofs.ListLaws.{ForEach}
use Rattle.dk_syntax.specs.Symbols.{joined}
use Rattle.dk_syntax.specs.WellFormed.{all_true, fits_symbol}
use Rattle.dk_syntax.specs.declared.Formula.{Formula}
use Rattle.dk_syntax.specs.declared.Formula.TheVariants as formula
use Rattle.dk_syntax.specs.declared.Kind.{Kind}
use Rattle.dk_syntax.specs.declared.Kind.TheVariants.{Function, Predicate}
use Rattle.dk_syntax.specs.declared.Term.TheVariants as dk
use Rattle.tptp_formulas.proofs.BoundNames.{IsFoundBelow, all_bound, bound-left, bound-right, bound_in_both, number_found, with_names-bound}
use Rattle.tptp_formulas.proofs.RawEquations.{free-Atom, free-Binary, free-Chain, free-Unit, meaning-Apply, meaning-Atom, meaning-Binary, meaning-Chain, meaning-Dollar, meaning-Equation, meaning-Unit, meaning-Variable, outside-Apply, outside-Atom, outside-Binary, outside-Chain, outside-Distinct, outside-DollarTerm, outside-Number, outside-Unit, variables-Apply, variables-Variable}
use Rattle.tptp_formulas.proofs.RawInduction.{raw_induction, raw_term_induction}
use Rattle.tptp_formulas.proofs.ProperTrees.{proper_so, proper_term, proper_under, proper-All, proper-And, proper-App, proper-Atom, proper-Ex, proper-False, proper-Iff, proper-Imp, proper-Not, proper-Or, proper-True, proper-Var}
use Rattle.tptp_formulas.specs.Meaning.{body_of, body_or, chained, closed_formula, connected, exists, for_all, formula_of, linked, number, symbol, term_of, variable, wrapped}
use Rattle.tptp_formulas.specs.Outside.{first_of_two, first_some, is_true, outside_of, outside_term}
use Rattle.tptp_formulas.specs.Scopes.{Names, each, free_in, free_names, has_name, names_of, term_variables, unbound}
use Rattle.tptp_formulas.specs.Proper.{IfPlain, IsProper}
use Rattle.tptp_formulas.specs.declared.body.OutsideKind.{OutsideKind}
use Rattle.tptp_formulas.specs.declared.raw.Connective.{Connective}
use Rattle.tptp_formulas.specs.declared.raw.Connective.TheVariants as connective
use Rattle.tptp_formulas.specs.declared.raw.Link.{Link}
use Rattle.tptp_formulas.specs.declared.raw.Link.TheVariants as link
use Rattle.tptp_formulas.specs.declared.raw.Prefix.{Prefix}
use Rattle.tptp_formulas.specs.declared.raw.Prefix.TheVariants.{Exists, ForAll, Not}
use Rattle.tptp_formulas.specs.declared.raw.Raw.{Raw}
use Rattle.tptp_formulas.specs.declared.raw.RawTerm.{RawTerm}

first_none : {A : Type 0} (a b : Option A) → first_of_two a b ≡ None → a ≡ None
first_none None b e = refl
first_none (Some x) b e = e

second_none : {A : Type 0} (a b : Option A) → first_of_two a b ≡ None → b ≡ None
second_none None b e = e
second_none (Some x) b e = absurd cc

both_true : (x y : Bool) → x ≡ true → y ≡ true → (x && y) ≡ true
both_true x y e k = ap₂ (λ a b. a && b) e k

fits_itself : (name : List ℕ) (n m : ℕ) (kind : Kind) → m ≡ n → fits_symbol kind (symbol name n kind) m ≡ true
fits_itself name n m Function e = eq-eqb n m (sym e)
fits_itself name n m Predicate e = eq-eqb n m (sym e)

length-each : {A B : Type 0} (a : A) (xs : List (A → B)) → length (each a xs) ≡ length xs
length-each a [] = refl
length-each a (x ∷ xs) = ap suc (length-each a xs)

-- ---- terms

bound_one : (bound : Names) (name : List ℕ) → all_bound bound (name ∷ []) ≡ true → has_name bound name ≡ true
bound_one bound name e = (and_parts (has_name bound name) true e).0

abbrev ProperTerm : RawTerm → Type 0
ProperTerm x = (bound : Names) → outside_term x ≡ None → all_bound bound (term_variables x) ≡ true → proper_term (length bound) (term_of x bound) ≡ true

proper_variable : (o : Option ℕ) (level : ℕ) → IsFoundBelow o level → proper_term level (variable o) ≡ true
proper_variable None level h = absurd h
proper_variable (Some k) level h = proper-Var k level ∙ lt-ltb k level h

proper_each : (xs : List RawTerm) (bound : Names) → ForEach ProperTerm xs → first_some (map outside_term xs) ≡ None → all_bound bound (joined (map term_variables xs)) ≡ true
    → all_true (map (proper_term (length bound)) (each bound (map term_of xs))) ≡ true
proper_each [] bound known o b = refl
proper_each (x ∷ xs) bound known o b =
    both_true (proper_term (length bound) (term_of x bound)) (all_true (map (proper_term (length bound)) (each bound (map term_of xs))))
    (known.0 bound (first_none (outside_term x) (first_some (map outside_term xs)) o) (bound-left bound (term_variables x) (joined (map term_variables xs)) b))
    (proper_each xs bound known.1 (second_none (outside_term x) (first_some (map outside_term xs)) o) (bound-right bound (term_variables x) (joined (map term_variables xs)) b))

proper_application : (name : List ℕ) (args : List RawTerm) (bound : Names) → all_true (map (proper_term (length bound)) (each bound (map term_of args))) ≡ true
    → proper_term (length bound) (dk.App (symbol name (length (map term_of args)) Function) (each bound (map term_of args))) ≡ true
proper_application name args bound all =
    proper-App (symbol name (length (map term_of args)) Function) (each bound (map term_of args)) (length bound)
    ∙ both_true _ _ (fits_itself name (length (map term_of args)) (length (map (proper_term (length bound)) (each bound (map term_of args)))) Function
    (length-map (each bound (map term_of args)) (proper_term (length bound)) ∙ length-each bound (map term_of args))) all

pub proper_terms : (x : RawTerm) → ProperTerm x
proper_terms = raw_term_induction ProperTerm
    (λ name bound o b. ap (proper_term (length bound)) (meaning-Variable name bound)
    ∙ proper_variable (number name bound) (length bound) (number_found name bound (bound_one bound name (ap (all_bound bound) (sym (variables-Variable name)) ∙ b))))
    (λ name args known bound o b. ap (proper_term (length bound)) (meaning-Apply name args bound)
    ∙ proper_application name args bound (proper_each args bound known (sym (outside-Apply name args) ∙ o) (ap (all_bound bound) (sym (variables-Apply name args)) ∙ b)))
    (λ name bound o b. absurd (let h = sym (outside-Number name) ∙ o in cc))
    (λ name bound o b. absurd (let h = sym (outside-Distinct name) ∙ o in cc))
    (λ name args known bound o b. absurd (let h = sym (outside-DollarTerm name args) ∙ o in cc))

all_terms : (args : List RawTerm) → ForEach ProperTerm args
all_terms [] = tt
all_terms (x ∷ xs) = (proper_terms x, all_terms xs)

-- ---- formulas

proper-for_all : (names : Names) (f : Formula) (level : ℕ) → proper_under (for_all names f) level ≡ proper_under f (level + length names)
proper-for_all [] f level = ap (proper_under f) (let e : level ≡ level + 0 = omega arith in e)
proper-for_all (name ∷ names) f level = proper-All (for_all names f) level ∙ proper-for_all names f (level + 1) ∙ ap (proper_under f) (let e : (level + 1) + length names ≡ level + suc (length names) = omega arith in e)

proper-exists : (names : Names) (f : Formula) (level : ℕ) → proper_under (exists names f) level ≡ proper_under f (level + length names)
proper-exists [] f level = ap (proper_under f) (let e : level ≡ level + 0 = omega arith in e)
proper-exists (name ∷ names) f level = proper-Ex (exists names f) level ∙ proper-exists names f (level + 1) ∙ ap (proper_under f) (let e : (level + 1) + length names ≡ level + suc (length names) = omega arith in e)

more_names : (names : Names) (ps : List Prefix) (level : ℕ) → (level + length names) + length (names_of ps) ≡ level + length (names ++ names_of ps)
more_names names ps level = let e = length-append names (names_of ps) in omega arith

proper-wrapped : (ps : List Prefix) (f : Formula) (level : ℕ) → proper_under (wrapped ps f) level ≡ proper_under f (level + length (names_of ps))
proper-wrapped [] f level = ap (proper_under f) (let e : level ≡ level + 0 = omega arith in e)
proper-wrapped (Not ∷ ps) f level = proper-Not (wrapped ps f) level ∙ proper-wrapped ps f level
proper-wrapped (ForAll names ∷ ps) f level = proper-for_all names (wrapped ps f) level ∙ proper-wrapped ps f (level + length names) ∙ ap (proper_under f) (more_names names ps level)
proper-wrapped (Exists names ∷ ps) f level = proper-exists names (wrapped ps f) level ∙ proper-wrapped ps f (level + length names) ∙ ap (proper_under f) (more_names names ps level)

proper-linked : (l : Link) (a b : Formula) (level : ℕ) → proper_under a level ≡ true → proper_under b level ≡ true → proper_under (linked l a b) level ≡ true
proper-linked link.And a b level h k = proper-And a b level ∙ both_true _ _ h k
proper-linked link.Or a b level h k = proper-Or a b level ∙ both_true _ _ h k

proper-connected : (c : Connective) (a b : Formula) (level : ℕ) → proper_under a level ≡ true → proper_under b level ≡ true → proper_under (connected c a b) level ≡ true
proper-connected connective.Implies a b level h k = proper-Imp a b level ∙ both_true _ _ h k
proper-connected connective.ImpliedBy a b level h k = proper-Imp b a level ∙ both_true _ _ k h
proper-connected connective.Iff a b level h k = proper-Iff a b level ∙ both_true _ _ h k
proper-connected connective.Differs a b level h k = proper-Not (formula.Iff a b) level ∙ proper-Iff a b level ∙ both_true _ _ h k
proper-connected connective.Nor a b level h k = proper-Not (formula.Or a b) level ∙ proper-Or a b level ∙ both_true _ _ h k
proper-connected connective.Nand a b level h k = proper-Not (formula.And a b) level ∙ proper-And a b level ∙ both_true _ _ h k

proper-if : (b : Bool) (level : ℕ) → proper_under (if b then formula.True else formula.False) level ≡ true
proper-if true level = proper-True level
proper-if false level = proper-False level

-- the extra names are bound around the formula, and then the others
module _ (extra : Names) where
  abbrev pub ProperMeaning : Raw → Type 0
  ProperMeaning f = (bound : Names) → outside_of f ≡ None → all_bound extra (free_in f bound) ≡ true → proper_under (formula_of f (extra ++ bound)) (length (extra ++ bound)) ≡ true

  proper_atom : (name : List ℕ) (args : List RawTerm) (bound : Names) → first_some (map outside_term args) ≡ None → all_bound extra (unbound bound (joined (map term_variables args))) ≡ true
      → proper_under (formula.Atom (symbol name (length args) Predicate) (each (extra ++ bound) (map term_of args))) (length (extra ++ bound)) ≡ true
  proper_atom name args bound o b =
      proper-Atom (symbol name (length args) Predicate) (each (extra ++ bound) (map term_of args)) (length (extra ++ bound))
      ∙ both_true _ _ (fits_itself name (length args) (length (each (extra ++ bound) (map term_of args))) Predicate (length-each (extra ++ bound) (map term_of args) ∙ length-map args term_of))
      (proper_each args (extra ++ bound) (all_terms args) o (bound_in_both extra bound (joined (map term_variables args)) b))

  proper_unit : (ps : List Prefix) (f : Raw) → ProperMeaning f → (bound : Names) → outside_of f ≡ None → all_bound extra (free_in f (bound ++ names_of ps)) ≡ true
      → proper_under (wrapped ps (formula_of f ((extra ++ bound) ++ names_of ps))) (length (extra ++ bound)) ≡ true
  proper_unit ps f known bound o b =
      proper-wrapped ps (formula_of f ((extra ++ bound) ++ names_of ps)) (length (extra ++ bound))
      ∙ ap (proper_under (formula_of f ((extra ++ bound) ++ names_of ps))) (sym (length-append (extra ++ bound) (names_of ps)))
      ∙ ap (λ (ns : Names). proper_under (formula_of f ns) (length ns)) (append_assoc extra bound (names_of ps))
      ∙ known (bound ++ names_of ps) o b

  proper_chain : (l : Link) (fs : List Raw) (bound : Names) → ForEach ProperMeaning fs → first_some (map outside_of fs) ≡ None → all_bound extra (joined (each bound (map free_in fs))) ≡ true
      → (f : Formula) → proper_under f (length (extra ++ bound)) ≡ true → proper_under (chained l f (each (extra ++ bound) (map formula_of fs))) (length (extra ++ bound)) ≡ true
  proper_chain l [] bound known o b f h = h
  proper_chain l (g ∷ gs) bound known o b f h =
      proper_chain l gs bound known.1 (second_none (outside_of g) (first_some (map outside_of gs)) o) (bound-right extra (free_in g bound) (joined (each bound (map free_in gs))) b)
      (linked l f (formula_of g (extra ++ bound)))
      (proper-linked l f (formula_of g (extra ++ bound)) (length (extra ++ bound)) h
      (known.0 bound (first_none (outside_of g) (first_some (map outside_of gs)) o) (bound-left extra (free_in g bound) (joined (each bound (map free_in gs))) b)))

  pub proper_meaning : (f : Raw) → ProperMeaning f
  proper_meaning = raw_induction ProperMeaning
      (λ name args bound o b. ap (λ f. proper_under f (length (extra ++ bound))) (meaning-Atom name args (extra ++ bound))
      ∙ proper_atom name args bound (sym (outside-Atom name args) ∙ o) (ap (all_bound extra) (sym (free-Atom name args bound)) ∙ b))
      (λ name args bound o b. ap (λ f. proper_under f (length (extra ++ bound))) (meaning-Dollar name args (extra ++ bound)) ∙ proper-if (is_true name) (length (extra ++ bound)))
      (λ c x y bound o b. ap (λ f. proper_under f (length (extra ++ bound))) (meaning-Equation c x y (extra ++ bound)) ∙ proper-False (length (extra ++ bound)))
      (λ ps f known bound o b. ap (λ f. proper_under f (length (extra ++ bound))) (meaning-Unit ps f (extra ++ bound))
      ∙ proper_unit ps f known bound (sym (outside-Unit ps f) ∙ o) (ap (all_bound extra) (sym (free-Unit ps f bound)) ∙ b))
      (λ c x y left right bound o b. let none = sym (outside-Binary c x y) ∙ o in let free = ap (all_bound extra) (sym (free-Binary c x y bound)) ∙ b in
      ap (λ f. proper_under f (length (extra ++ bound))) (meaning-Binary c x y (extra ++ bound))
      ∙ proper-connected c (formula_of x (extra ++ bound)) (formula_of y (extra ++ bound)) (length (extra ++ bound))
      (left bound (first_none (outside_of x) (outside_of y) none) (bound-left extra (free_in x bound) (free_in y bound) free))
      (right bound (second_none (outside_of x) (outside_of y) none) (bound-right extra (free_in x bound) (free_in y bound) free)))
      (λ l f fs first others bound o b. let none = sym (outside-Chain l f fs) ∙ o in let free = ap (all_bound extra) (sym (free-Chain l f fs bound)) ∙ b in
      ap (λ f. proper_under f (length (extra ++ bound))) (meaning-Chain l f fs (extra ++ bound))
      ∙ proper_chain l fs bound others (second_none (outside_of f) (first_some (map outside_of fs)) none) (bound-right extra (free_in f bound) (joined (each bound (map free_in fs))) free)
      (formula_of f (extra ++ bound)) (first bound (first_none (outside_of f) (first_some (map outside_of fs)) none) (bound-left extra (free_in f bound) (joined (each bound (map free_in fs))) free)))

-- the closed formula of what is within the profile is proper
pub closed_proper : (f : Raw) → outside_of f ≡ None → IsProper (closed_formula f)
closed_proper f o = proper_so (closed_formula f)
    (proper-for_all (free_names f) (formula_of f (free_names f)) 0
    ∙ ap (proper_under (formula_of f (free_names f))) (let e : 0 + length (free_names f) ≡ length (free_names f) = omega arith in e)
    ∙ ap (λ (ns : Names). proper_under (formula_of f ns) (length ns)) (sym (append-nil (free_names f)))
    ∙ proper_meaning (free_names f) f [] o (with_names-bound [] (free_in f [])))

proper_or : (o : Option OutsideKind) (f : Raw) → outside_of f ≡ o → IfPlain (body_or o f) IsProper
proper_or None f e = closed_proper f e
proper_or (Some kind) f e = tt

-- the body's formula is proper
pub proper_body : (f : Raw) → IfPlain (body_of f) IsProper
proper_body f = proper_or (outside_of f) f refl
