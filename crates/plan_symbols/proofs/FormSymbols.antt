-- The symbols of a formula are those of the literals of its normal form of either sign.
use Rattle.std.proofs.Common.{◌≡◌, ℕ, zero, suc, ◌-◌, nat_lt, Bool, true, false, not, if◌then◌else◌, inl, inr, List, [], ◌∷◌, ◌++◌, map, refl, sym, ap, ap₂, ◌∙◌, subst}
use Rattle.dk_syntax.proofs.FormulaLaws.{formula_induction, occurrences-All, occurrences-And, occurrences-Atom, occurrences-Ex, occurrences-False, occurrences-Iff, occurrences-Imp, occurrences-Not, occurrences-Or, occurrences-True}
use Rattle.dk_syntax.proofs.ListLaws.{for_each, ForEach}
use Rattle.dk_syntax.proofs.TermLaws.{occurrences-App, occurrences-Var, term_induction}
use Rattle.dk_syntax.specs.Lists.{Every}
use Rattle.dk_syntax.specs.Symbols.{formula_occurrences, joined, term_occurrences}
use Rattle.dk_syntax.specs.WellFormed.{IsWellFormed}
use Rattle.dk_syntax.specs.declared.Formula.{Formula}
use Rattle.dk_syntax.specs.declared.Formula.TheVariants as formula
use Rattle.dk_syntax.specs.declared.clause.Literal.{Literal}
use Rattle.dk_syntax.specs.declared.symbol.SymKey.{SymKey}
use Rattle.dk_syntax.specs.declared.term.Term.{Term}
use Rattle.dk_syntax.specs.declared.term.Term.TheVariants.{Var}
use Rattle.normal_form.proofs.BoolLaws.{test_cases}
use Rattle.normal_form.proofs.FormEquations.{lowered-All, lowered-And, lowered-Any, lowered-App, lowered-Ex, lowered-False, lowered-Lit, lowered-Or, lowered-True, lowered-Var}
use Rattle.normal_form.proofs.FormInduction.{form_induction}
use Rattle.normal_form.proofs.FormLaws.{form-All, form-And, form-Ex, form-False, form-Lit, form-Or, form-True}
use Rattle.normal_form.proofs.FormulaEquations.{normal-All-false, normal-All-true, normal-And-false, normal-And-true, normal-Atom, normal-Ex-false, normal-Ex-true, normal-False-false, normal-False-true, normal-Iff-false, normal-Iff-true, normal-Imp-false, normal-Imp-true, normal-Not, normal-Or-false, normal-Or-true, normal-True-false, normal-True-true}
use Rattle.normal_form.proofs.NormalFacts.{well_formed_stays}
use Rattle.normal_form.specs.FormFacts.{HasWellFormedLiterals}
use Rattle.normal_form.specs.Forms.{Form, form_of}
use Rattle.normal_form.specs.Forms as form
use Rattle.normal_form.specs.Lowered.{lowered, lowered_literal, lowered_term}
use Rattle.normal_form.specs.Normal.{all_of, ex_of, literal_of, normal_of}
use Rattle.normal_form.specs.Occurrence.{in_form}
use Rattle.normal_form.specs.declared.form.Nf.{Nf}
use Rattle.normal_form.specs.declared.form.Nf.TheVariants as nf
use Rattle.plan_symbols.proofs.EveryLaws.{every_back, every_both, every_front}
use Rattle.plan_symbols.specs.Over.{IsListed, IsLiteralOver, literal_occurrences}

-- each symbol of the form's literals, from left to right
abbrev pub form_occurrences : Form → List SymKey
form_occurrences form.yes = []
form_occurrences form.no = []
form_occurrences (form.lit l) = literal_occurrences l
form_occurrences (form.and a b) = form_occurrences a ++ form_occurrences b
form_occurrences (form.or a b) = form_occurrences a ++ form_occurrences b
form_occurrences (form.all a) = form_occurrences a
form_occurrences (form.ex a) = form_occurrences a

-- each literal of the form is over the symbols
abbrev pub IsFormOver : List SymKey → Form → Type 0
IsFormOver symbols form.yes = Unit {0}
IsFormOver symbols form.no = Unit {0}
IsFormOver symbols (form.lit l) = IsLiteralOver symbols l
IsFormOver symbols (form.and a b) = IsFormOver symbols a × IsFormOver symbols b
IsFormOver symbols (form.or a b) = IsFormOver symbols a × IsFormOver symbols b
IsFormOver symbols (form.all a) = IsFormOver symbols a
IsFormOver symbols (form.ex a) = IsFormOver symbols a

pub form_over : (symbols : List SymKey) (a : Form) → HasWellFormedLiterals a → Every (IsListed symbols) (form_occurrences a) → IsFormOver symbols a
form_over symbols form.yes w h = tt
form_over symbols form.no w h = tt
form_over symbols (form.lit l) w h = record { formed = w; listed = h }
form_over symbols (form.and a b) w h =
    (form_over symbols a w.0 (every_front (form_occurrences a) (form_occurrences b) h), form_over symbols b w.1 (every_back (form_occurrences a) (form_occurrences b) h))
form_over symbols (form.or a b) w h =
    (form_over symbols a w.0 (every_front (form_occurrences a) (form_occurrences b) h), form_over symbols b w.1 (every_back (form_occurrences a) (form_occurrences b) h))
form_over symbols (form.all a) w h = form_over symbols a w h
form_over symbols (form.ex a) w h = form_over symbols a w h

-- ---- lowering keeps them

abbrev Stays : ℕ → Term → Type 0
Stays j t = term_occurrences (lowered_term j t) ≡ term_occurrences t

args_stay : (j : ℕ) (ts : List Term) → ForEach (Stays j) ts → joined (map term_occurrences (map (lowered_term j) ts)) ≡ joined (map term_occurrences ts)
args_stay j [] h = refl
args_stay j (t ∷ ts) h = ap₂ (λ x y. x ++ y) h.0 (args_stay j ts h.1)

term_stays : (j : ℕ) (t : Term) → Stays j t
term_stays j = term_induction (Stays j)
    (λ n. elim (test_cases (nat_lt j n)) [
      | inl p ↦ ap term_occurrences (lowered-Var j n ∙ ap (λ x. if x then Var (n - 1) else Var n) p) ∙ occurrences-Var (n - 1) ∙ sym (occurrences-Var n)
      | inr p ↦ ap term_occurrences (lowered-Var j n ∙ ap (λ x. if x then Var (n - 1) else Var n) p)
    ])
    (λ s args h. ap term_occurrences (lowered-App j s args) ∙ occurrences-App s (map (lowered_term j) args) ∙ ap (λ l. s ∷ l) (args_stay j args h) ∙ sym (occurrences-App s args))
    (ap term_occurrences (lowered-Any j))

literal_stays : (j : ℕ) (l : Literal) → literal_occurrences (lowered_literal j l) ≡ literal_occurrences l
literal_stays j l = ap (λ x. l.pred ∷ x) (args_stay j l.args (for_each (Stays j) (term_stays j) l.args))

-- the symbols of the normal form's literals
abbrev pub symbols_in : Nf → List SymKey
symbols_in n = form_occurrences (form_of n)

in-True : symbols_in nf.True ≡ []
in-True = ap form_occurrences form-True

in-False : symbols_in nf.False ≡ []
in-False = ap form_occurrences form-False

in-Lit : (l : Literal) → symbols_in (nf.Lit l) ≡ literal_occurrences l
in-Lit l = ap form_occurrences (form-Lit l)

in-And : (a b : Nf) → symbols_in (nf.And a b) ≡ symbols_in a ++ symbols_in b
in-And a b = ap form_occurrences (form-And a b)

in-Or : (a b : Nf) → symbols_in (nf.Or a b) ≡ symbols_in a ++ symbols_in b
in-Or a b = ap form_occurrences (form-Or a b)

in-All : (a : Nf) → symbols_in (nf.All a) ≡ symbols_in a
in-All a = ap form_occurrences (form-All a)

in-Ex : (a : Nf) → symbols_in (nf.Ex a) ≡ symbols_in a
in-Ex a = ap form_occurrences (form-Ex a)

form_stays : (a : Nf) (j : ℕ) → symbols_in (lowered a j) ≡ symbols_in a
form_stays = form_induction (λ a. (j : ℕ) → symbols_in (lowered a j) ≡ symbols_in a)
    (λ j. ap symbols_in (lowered-True j))
    (λ j. ap symbols_in (lowered-False j))
    (λ l j. ap symbols_in (lowered-Lit j l) ∙ in-Lit (lowered_literal j l) ∙ literal_stays j l ∙ sym (in-Lit l))
    (λ a b g h j. ap symbols_in (lowered-And j a b) ∙ in-And (lowered a j) (lowered b j) ∙ ap₂ (λ x y. x ++ y) (g j) (h j) ∙ sym (in-And a b))
    (λ a b g h j. ap symbols_in (lowered-Or j a b) ∙ in-Or (lowered a j) (lowered b j) ∙ ap₂ (λ x y. x ++ y) (g j) (h j) ∙ sym (in-Or a b))
    (λ a g j. ap symbols_in (lowered-All j a) ∙ in-All (lowered a (suc j)) ∙ g (suc j) ∙ sym (in-All a))
    (λ a g j. ap symbols_in (lowered-Ex j a) ∙ in-Ex (lowered a (suc j)) ∙ g (suc j) ∙ sym (in-Ex a))

all_of_stays : (a : Nf) → symbols_in (all_of a) ≡ symbols_in a
all_of_stays a = elim (test_cases (in_form a zero)) [
  | inl p ↦ ap (λ x. symbols_in (if x then nf.All a else lowered a zero)) p ∙ in-All a
  | inr p ↦ ap (λ x. symbols_in (if x then nf.All a else lowered a zero)) p ∙ form_stays a zero
]

ex_of_stays : (a : Nf) → symbols_in (ex_of a) ≡ symbols_in a
ex_of_stays a = elim (test_cases (in_form a zero)) [
  | inl p ↦ ap (λ x. symbols_in (if x then nf.Ex a else lowered a zero)) p ∙ in-Ex a
  | inr p ↦ ap (λ x. symbols_in (if x then nf.Ex a else lowered a zero)) p ∙ form_stays a zero
]

-- ---- formulas and their normal forms

module _ (K : SymKey → Type 0) where
  -- each symbol of the formula has the property exactly where each one of the form has it
  abbrev IsAlike : List SymKey → List SymKey → Type 0
  IsAlike l m = (Every K l → Every K m) × (Every K m → Every K l)

  abbrev HasAlike : Formula → Type 0
  HasAlike f = (sign : Bool) → IsAlike (formula_occurrences f) (symbols_in (normal_of f sign))

  moved : (l l' m m' : List SymKey) → l ≡ l' → m ≡ m' → IsAlike l' m' → IsAlike l m
  moved l l' m m' e k h = (λ x. subst (Every K) (sym k) (h.0 (subst (Every K) e x)), λ x. subst (Every K) (sym e) (h.1 (subst (Every K) k x)))

  pairs : (a b c d : List SymKey) → IsAlike a c → IsAlike b d → IsAlike (a ++ b) (c ++ d)
  pairs a b c d g h = (
    λ x. every_both (g.0 (every_front a b x)) (h.0 (every_back a b x)),
    λ x. every_both (g.1 (every_front c d x)) (h.1 (every_back c d x)),
  )

  -- two formulas joined each way, as the halves of an equivalence are
  fours : (a b c d e f : List SymKey) → IsAlike a c → IsAlike b d → IsAlike b e → IsAlike a f → IsAlike (a ++ b) ((c ++ d) ++ (e ++ f))
  fours a b c d e f g h i j = (
    λ x. every_both (every_both (g.0 (every_front a b x)) (h.0 (every_back a b x))) (every_both (i.0 (every_back a b x)) (j.0 (every_front a b x))),
    λ x. let y = every_front (c ++ d) (e ++ f) x in every_both (g.1 (every_front c d y)) (h.1 (every_back c d y)),
  )

  turned : (a b c d e f : List SymKey) → IsAlike a c → IsAlike b d → IsAlike a e → IsAlike b f → IsAlike (a ++ b) ((c ++ d) ++ (e ++ f))
  turned a b c d e f g h i j = (
    λ x. every_both (every_both (g.0 (every_front a b x)) (h.0 (every_back a b x))) (every_both (i.0 (every_front a b x)) (j.0 (every_back a b x))),
    λ x. let y = every_front (c ++ d) (e ++ f) x in every_both (g.1 (every_front c d y)) (h.1 (every_back c d y)),
  )

  none : (l m : List SymKey) → l ≡ [] → m ≡ [] → IsAlike l m
  none l m e k = moved l [] m [] e k (λ x. x, λ x. x)

  two_signs : (f : Formula) → IsAlike (formula_occurrences f) (symbols_in (normal_of f true)) → IsAlike (formula_occurrences f) (symbols_in (normal_of f false)) → HasAlike f
  two_signs f h k true = h
  two_signs f h k false = k

  at_constant : (f : Formula) → formula_occurrences f ≡ [] → symbols_in (normal_of f true) ≡ [] → symbols_in (normal_of f false) ≡ [] → HasAlike f
  at_constant f e h k = two_signs f (none _ _ e h) (none _ _ e k)

  at_atom : (s : SymKey) (args : List Term) → HasAlike (formula.Atom s args)
  at_atom s args sign =
      moved _ (s ∷ joined (map term_occurrences args)) _ (s ∷ joined (map term_occurrences args)) (occurrences-Atom s args)
      (ap symbols_in (normal-Atom s args sign) ∙ in-Lit (literal_of sign s args)) (λ x. x, λ x. x)

  -- a formula of two parts whose normal form has one form of each part
  at_two : (f : Formula) (a b : Formula) (sign i j : Bool) → formula_occurrences f ≡ formula_occurrences a ++ formula_occurrences b
      → symbols_in (normal_of f sign) ≡ symbols_in (normal_of a i) ++ symbols_in (normal_of b j) → HasAlike a → HasAlike b → IsAlike (formula_occurrences f) (symbols_in (normal_of f sign))
  at_two f a b sign i j e k g h =
      moved _ (formula_occurrences a ++ formula_occurrences b) _ (symbols_in (normal_of a i) ++ symbols_in (normal_of b j)) e k
      (pairs (formula_occurrences a) (formula_occurrences b) (symbols_in (normal_of a i)) (symbols_in (normal_of b j)) (g i) (h j))

  at_and : (a b : Formula) → HasAlike a → HasAlike b → HasAlike (formula.And a b)
  at_and a b g h =
      two_signs (formula.And a b)
      (at_two (formula.And a b) a b true true true (occurrences-And a b) (ap symbols_in (normal-And-true a b) ∙ in-And (normal_of a true) (normal_of b true)) g h)
      (at_two (formula.And a b) a b false false false (occurrences-And a b) (ap symbols_in (normal-And-false a b) ∙ in-Or (normal_of a false) (normal_of b false)) g h)

  at_or : (a b : Formula) → HasAlike a → HasAlike b → HasAlike (formula.Or a b)
  at_or a b g h =
      two_signs (formula.Or a b)
      (at_two (formula.Or a b) a b true true true (occurrences-Or a b) (ap symbols_in (normal-Or-true a b) ∙ in-Or (normal_of a true) (normal_of b true)) g h)
      (at_two (formula.Or a b) a b false false false (occurrences-Or a b) (ap symbols_in (normal-Or-false a b) ∙ in-And (normal_of a false) (normal_of b false)) g h)

  at_imp : (a b : Formula) → HasAlike a → HasAlike b → HasAlike (formula.Imp a b)
  at_imp a b g h =
      two_signs (formula.Imp a b)
      (at_two (formula.Imp a b) a b true false true (occurrences-Imp a b) (ap symbols_in (normal-Imp-true a b) ∙ in-Or (normal_of a false) (normal_of b true)) g h)
      (at_two (formula.Imp a b) a b false true false (occurrences-Imp a b) (ap symbols_in (normal-Imp-false a b) ∙ in-And (normal_of a true) (normal_of b false)) g h)

  at_iff : (a b : Formula) → HasAlike a → HasAlike b → HasAlike (formula.Iff a b)
  at_iff a b g h =
      let p = normal_of a true in
      let q = normal_of b true in
      let m = normal_of a false in
      let n = normal_of b false in
      two_signs (formula.Iff a b)
      (moved _ (formula_occurrences a ++ formula_occurrences b) _ ((symbols_in m ++ symbols_in q) ++ (symbols_in n ++ symbols_in p)) (occurrences-Iff a b)
      (ap symbols_in (normal-Iff-true a b) ∙ in-And (nf.Or m q) (nf.Or n p) ∙ ap₂ (λ x y. x ++ y) (in-Or m q) (in-Or n p))
      (fours _ _ _ _ _ _ (g false) (h true) (h false) (g true)))
      (moved _ (formula_occurrences a ++ formula_occurrences b) _ ((symbols_in p ++ symbols_in q) ++ (symbols_in m ++ symbols_in n)) (occurrences-Iff a b)
      (ap symbols_in (normal-Iff-false a b) ∙ in-And (nf.Or p q) (nf.Or m n) ∙ ap₂ (λ x y. x ++ y) (in-Or p q) (in-Or m n))
      (turned _ _ _ _ _ _ (g true) (h true) (g false) (h false)))

  at_one : (f a : Formula) (sign i : Bool) → formula_occurrences f ≡ formula_occurrences a → symbols_in (normal_of f sign) ≡ symbols_in (normal_of a i) → HasAlike a
      → IsAlike (formula_occurrences f) (symbols_in (normal_of f sign))
  at_one f a sign i e k g = moved _ (formula_occurrences a) _ (symbols_in (normal_of a i)) e k (g i)

  at_not : (a : Formula) → HasAlike a → HasAlike (formula.Not a)
  at_not a g sign = at_one (formula.Not a) a sign (not sign) (occurrences-Not a) (ap symbols_in (normal-Not a sign)) g

  at_all : (a : Formula) → HasAlike a → HasAlike (formula.All a)
  at_all a g =
      two_signs (formula.All a) (at_one (formula.All a) a true true (occurrences-All a) (ap symbols_in (normal-All-true a) ∙ all_of_stays (normal_of a true)) g)
      (at_one (formula.All a) a false false (occurrences-All a) (ap symbols_in (normal-All-false a) ∙ ex_of_stays (normal_of a false)) g)

  at_ex : (a : Formula) → HasAlike a → HasAlike (formula.Ex a)
  at_ex a g =
      two_signs (formula.Ex a) (at_one (formula.Ex a) a true true (occurrences-Ex a) (ap symbols_in (normal-Ex-true a) ∙ ex_of_stays (normal_of a true)) g)
      (at_one (formula.Ex a) a false false (occurrences-Ex a) (ap symbols_in (normal-Ex-false a) ∙ all_of_stays (normal_of a false)) g)

  alike : (f : Formula) → HasAlike f
  alike = formula_induction HasAlike
      (at_constant formula.True occurrences-True (ap symbols_in normal-True-true ∙ in-True) (ap symbols_in normal-True-false ∙ in-False))
      (at_constant formula.False occurrences-False (ap symbols_in normal-False-true ∙ in-False) (ap symbols_in normal-False-false ∙ in-True))
      at_atom at_not at_and at_or at_imp at_iff at_all at_ex

  -- what the formula's symbols have, those of its normal form have
  pub to_normal : (f : Formula) (sign : Bool) → Every K (formula_occurrences f) → Every K (form_occurrences (form_of (normal_of f sign)))
  to_normal f sign = (alike f sign).0

  -- and the other way round
  pub from_normal : (f : Formula) (sign : Bool) → Every K (form_occurrences (form_of (normal_of f sign))) → Every K (formula_occurrences f)
  from_normal f sign = (alike f sign).1

-- the literals of a well-formed formula's normal forms are over the formula's symbols
pub normal_over : (symbols : List SymKey) (f : Formula) (sign : Bool) → IsWellFormed f → Every (IsListed symbols) (formula_occurrences f) → IsFormOver symbols (form_of (normal_of f sign))
normal_over symbols f sign w h =
    form_over symbols (form_of (normal_of f sign)) (well_formed_stays f sign w) (to_normal (IsListed symbols) f sign h)
