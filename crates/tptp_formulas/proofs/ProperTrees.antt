-- Terms and formulas as they are read, judged in one fold, and what that says of each kind of them: they are closed, well-formed and without Any.
use Rattle.std.proofs.Common.{◌≡◌, ℕ, ◌+◌, nat_lt, Bool, true, false, ◌&&◌, List, [], ◌∷◌, map, length, refl, sym, ap, ap₂, ◌∙◌, rules}
use Rattle.std.proofs.lemmas.Bool.{and_parts}
use Rattle.std.proofs.lemmas.List.{length-map}
use Rattle.dk_syntax.specs.WellFormed.{all_true, closed_under, fits_symbol, has_no_any, term_closed_under, term_has_no_any, well_formed, well_formed_term}
use Rattle.dk_syntax.proofs.ListLaws.{ForEach}
use Rattle.dk_syntax.proofs.TermLaws.{term_induction}
use Rattle.dk_syntax.proofs.FormulaLaws.{formula_induction}
use Rattle.dk_syntax.proofs.WellFormedLaws as law
use Rattle.dk_syntax.specs.declared.Formula.{Formula, Formula-F, fold-Formula, the_lemmas as of_formulas}
use Rattle.dk_syntax.specs.declared.Formula.TheOpen as layer
use Rattle.dk_syntax.specs.declared.Formula.TheVariants as formula
use Rattle.dk_syntax.specs.declared.Kind.TheVariants.{Function, Predicate}
use Rattle.dk_syntax.specs.declared.SymKey.{SymKey}
use Rattle.dk_syntax.specs.declared.Term.{Term, Term-F, fold-Term, the_lemmas as of_terms}
use Rattle.dk_syntax.specs.declared.Term.TheOpen as term_layer
use Rattle.dk_syntax.specs.declared.Term.TheVariants as term
use Rattle.tptp_formulas.specs.Proper.{IsProper}

-- whether a term is proper under so many quantifiers, from the same of its arguments
abbrev pub proper_term_at : ℕ → Term-F Bool → Bool
proper_term_at level (term_layer.Var n) = nat_lt n level
proper_term_at level (term_layer.App symbol args) = fits_symbol Function symbol (length args) && all_true args
proper_term_at level term_layer.Any = false

-- the term's variables belong to the quantifiers around it, it is well-formed and has no Any
abbrev pub proper_term : ℕ → Term → Bool
proper_term level = fold-Term Bool (proper_term_at level)

-- whether a formula is proper under so many quantifiers, from the same of its parts
abbrev pub proper_at : Formula-F (ℕ → Bool) → ℕ → Bool
proper_at layer.True level = true
proper_at layer.False level = true
proper_at (layer.Atom symbol args) level = fits_symbol Predicate symbol (length args) && all_true (map (proper_term level) args)
proper_at (layer.Not a) level = a level
proper_at (layer.And a b) level = a level && b level
proper_at (layer.Or a b) level = a level && b level
proper_at (layer.Imp a b) level = a level && b level
proper_at (layer.Iff a b) level = a level && b level
proper_at (layer.All a) level = a (level + 1)
proper_at (layer.Ex a) level = a (level + 1)

-- each variable belongs to a quantifier of the formula or to one of so many around it, and it is well-formed and has no Any
abbrev pub proper_under : Formula → ℕ → Bool
proper_under = fold-Formula (ℕ → Bool) proper_at

pub proper-Var : (n level : ℕ) → proper_term level (term.Var n) ≡ nat_lt n level
proper-Var n level = search (rules, of_terms)

pub proper-App : (symbol : SymKey) (args : List Term) (level : ℕ) → proper_term level (term.App symbol args) ≡ (fits_symbol Function symbol (length (map (proper_term level) args)) && all_true (map (proper_term level) args))
proper-App symbol args level = search (rules, of_terms)

pub proper-True : (level : ℕ) → proper_under formula.True level ≡ true
proper-True level = search (rules, of_formulas)

pub proper-False : (level : ℕ) → proper_under formula.False level ≡ true
proper-False level = search (rules, of_formulas)

pub proper-Atom : (symbol : SymKey) (args : List Term) (level : ℕ) → proper_under (formula.Atom symbol args) level ≡ (fits_symbol Predicate symbol (length args) && all_true (map (proper_term level) args))
proper-Atom symbol args level = search (rules, of_formulas)

pub proper-Not : (a : Formula) (level : ℕ) → proper_under (formula.Not a) level ≡ proper_under a level
proper-Not a level = search (rules, of_formulas)

pub proper-And : (a b : Formula) (level : ℕ) → proper_under (formula.And a b) level ≡ (proper_under a level && proper_under b level)
proper-And a b level = search (rules, of_formulas)

pub proper-Or : (a b : Formula) (level : ℕ) → proper_under (formula.Or a b) level ≡ (proper_under a level && proper_under b level)
proper-Or a b level = search (rules, of_formulas)

pub proper-Imp : (a b : Formula) (level : ℕ) → proper_under (formula.Imp a b) level ≡ (proper_under a level && proper_under b level)
proper-Imp a b level = search (rules, of_formulas)

pub proper-Iff : (a b : Formula) (level : ℕ) → proper_under (formula.Iff a b) level ≡ (proper_under a level && proper_under b level)
proper-Iff a b level = search (rules, of_formulas)

pub proper-All : (a : Formula) (level : ℕ) → proper_under (formula.All a) level ≡ proper_under a (level + 1)
proper-All a level = search (rules, of_formulas)

pub proper-Ex : (a : Formula) (level : ℕ) → proper_under (formula.Ex a) level ≡ proper_under a (level + 1)
proper-Ex a level = search (rules, of_formulas)

pub proper-Any : (level : ℕ) → proper_term level term.Any ≡ false
proper-Any level = search (rules, of_terms)

-- ---- the three together

-- what the fold gives is what the three properties give
record Joins (whole closed formed no_any : Bool) : Type 0 where
  is : whole ≡ (closed && (formed && no_any))

joins_by : (whole closed formed no_any w c d n : Bool) → whole ≡ w → closed ≡ c → formed ≡ d → no_any ≡ n → Joins w c d n → Joins whole closed formed no_any
joins_by whole closed formed no_any w c d n e f g i j = record { is = e ∙ j.is ∙ sym (ap₂ (λ x y. x && y) f (ap₂ (λ x y. x && y) g i)) }

join_two : (a b c d e f g i : Bool) → Joins a b c d → Joins e f g i → Joins (a && e) (b && f) (c && g) (d && i)
join_two a true true true e f g i h k = record { is = ap₂ (λ x y. x && y) h.is k.is }
join_two a true true false e true true i h k = record { is = ap₂ (λ x y. x && y) h.is k.is }
join_two a true true false e true false i h k = record { is = ap₂ (λ x y. x && y) h.is k.is }
join_two a true true false e false g i h k = record { is = ap₂ (λ x y. x && y) h.is k.is }
join_two a true false d e true g i h k = record { is = ap₂ (λ x y. x && y) h.is k.is }
join_two a true false d e false g i h k = record { is = ap₂ (λ x y. x && y) h.is k.is }
join_two a false c d e f g i h k = record { is = ap₂ (λ x y. x && y) h.is k.is }

join_fits : (fits a b c d : Bool) → Joins a b c d → Joins (fits && a) b (fits && c) d
join_fits true a b c d h = record { is = h.is }
join_fits false a true c d h = record { is = refl }
join_fits false a false c d h = record { is = refl }

abbrev JoinsTerm : Term → Type 0
JoinsTerm x = (level : ℕ) → Joins (proper_term level x) (term_closed_under level x) (well_formed_term x) (term_has_no_any x)

join_below : (bound : Bool) → Joins bound bound true true
join_below true = record { is = refl }
join_below false = record { is = refl }

join_args : (args : List Term) → ForEach JoinsTerm args → (level : ℕ) → Joins (all_true (map (proper_term level) args)) (all_true (map (term_closed_under level) args)) (all_true (map well_formed_term args)) (all_true (map term_has_no_any args))
join_args [] known level = record { is = refl }
join_args (x ∷ args) known level = join_two _ _ _ _ _ _ _ _ (known.0 level) (join_args args known.1 level)

join_terms : (x : Term) → JoinsTerm x
join_terms = term_induction JoinsTerm
    (λ n level. joins_by _ _ _ _ (nat_lt n level) (nat_lt n level) true true (proper-Var n level) (law.closed-Var n level) (law.well_formed-Var n) (law.no_any-Var n) (join_below (nat_lt n level)))
    (λ symbol args known level.
    joins_by _ _ _ _ (fits_symbol Function symbol (length args) && all_true (map (proper_term level) args)) (all_true (map (term_closed_under level) args))
    (fits_symbol Function symbol (length args) && all_true (map well_formed_term args)) (all_true (map term_has_no_any args))
    (proper-App symbol args level ∙ ap (λ n. fits_symbol Function symbol n && all_true (map (proper_term level) args)) (length-map args (proper_term level)))
    (law.closed-App symbol args level) (law.well_formed-App symbol args) (law.no_any-App symbol args)
    (join_fits (fits_symbol Function symbol (length args)) _ _ _ _ (join_args args known level)))
    (λ level. joins_by _ _ _ _ false true true false (proper-Any level) (law.closed-Any level) law.well_formed-Any law.no_any-Any (record { is = refl }))

each_joins : (args : List Term) → ForEach JoinsTerm args
each_joins [] = tt
each_joins (x ∷ args) = (join_terms x, each_joins args)

abbrev JoinsFormula : Formula → Type 0
JoinsFormula f = (level : ℕ) → Joins (proper_under f level) (closed_under f level) (well_formed f) (has_no_any f)

join_formulas : (f : Formula) → JoinsFormula f
join_formulas = formula_induction JoinsFormula
    (λ level. joins_by _ _ _ _ true true true true (proper-True level) (law.closed-True level) law.well_formed-True law.no_any-True (record { is = refl }))
    (λ level. joins_by _ _ _ _ true true true true (proper-False level) (law.closed-False level) law.well_formed-False law.no_any-False (record { is = refl }))
    (λ symbol args level.
    joins_by _ _ _ _ _ _ _ _ (proper-Atom symbol args level) (law.closed-Atom symbol args level) (law.well_formed-Atom symbol args) (law.no_any-Atom symbol args)
    (join_fits (fits_symbol Predicate symbol (length args)) _ _ _ _ (join_args args (each_joins args) level)))
    (λ a known level. joins_by _ _ _ _ _ _ _ _ (proper-Not a level) (law.closed-Not a level) (law.well_formed-Not a) (law.no_any-Not a) (known level))
    (λ a b left right level. joins_by _ _ _ _ _ _ _ _ (proper-And a b level) (law.closed-And a b level) (law.well_formed-And a b) (law.no_any-And a b) (join_two _ _ _ _ _ _ _ _ (left level) (right level)))
    (λ a b left right level. joins_by _ _ _ _ _ _ _ _ (proper-Or a b level) (law.closed-Or a b level) (law.well_formed-Or a b) (law.no_any-Or a b) (join_two _ _ _ _ _ _ _ _ (left level) (right level)))
    (λ a b left right level. joins_by _ _ _ _ _ _ _ _ (proper-Imp a b level) (law.closed-Imp a b level) (law.well_formed-Imp a b) (law.no_any-Imp a b) (join_two _ _ _ _ _ _ _ _ (left level) (right level)))
    (λ a b left right level. joins_by _ _ _ _ _ _ _ _ (proper-Iff a b level) (law.closed-Iff a b level) (law.well_formed-Iff a b) (law.no_any-Iff a b) (join_two _ _ _ _ _ _ _ _ (left level) (right level)))
    (λ a known level. joins_by _ _ _ _ _ _ _ _ (proper-All a level) (law.closed-All a level) (law.well_formed-All a) (law.no_any-All a) (known (level + 1)))
    (λ a known level. joins_by _ _ _ _ _ _ _ _ (proper-Ex a level) (law.closed-Ex a level) (law.well_formed-Ex a) (law.no_any-Ex a) (known (level + 1)))

-- a formula that the fold passes has the three properties
pub proper_so : (f : Formula) → proper_under f 0 ≡ true → IsProper f
proper_so f e =
    let both = and_parts (closed_under f 0) (well_formed f && has_no_any f) (sym (join_formulas f 0).is ∙ e) in
    let rest = and_parts (well_formed f) (has_no_any f) both.1 in
    record { closed = both.0; well_formed = rest.0; no_any = rest.1 }

-- and the fold passes each that has them
pub proper_since : (f : Formula) → IsProper f → proper_under f 0 ≡ true
proper_since f h = (join_formulas f 0).is ∙ ap₂ (λ x y. x && y) h.closed (ap₂ (λ x y. x && y) h.well_formed h.no_any)
