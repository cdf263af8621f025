-- What it says of each kind of tree to be closed, well-formed and without Any. Induction over them is term_induction and formula_induction.
use Rattle.std.proofs.Common.{◌≡◌, ℕ, ◌+◌, nat_lt, true, false, ◌&&◌, List, map, length, rules, ap, ◌∙◌}
use Rattle.std.proofs.lemmas.List.{length-map}
use Rattle.dk_syntax.specs.WellFormed.{all_true, closed_under, fits_symbol, has_no_any, term_closed_under, term_has_no_any, well_formed, well_formed_atom, well_formed_term}
use Rattle.dk_syntax.specs.declared.formula.Formula.{Formula, the_lemmas as of_formulas}
use Rattle.dk_syntax.specs.declared.formula.Formula.TheVariants as formula
use Rattle.dk_syntax.specs.declared.symbol.Kind.TheVariants.{Function}
use Rattle.dk_syntax.specs.declared.symbol.SymKey.{SymKey}
use Rattle.dk_syntax.specs.declared.term.Term.{Term, the_lemmas as of_terms}
use Rattle.dk_syntax.specs.declared.term.Term.TheVariants as term

-- ---- closed

pub closed-Var : (number level : ℕ) → term_closed_under level (term.Var number) ≡ nat_lt number level
closed-Var number level = search (rules, of_terms)

pub closed-App : (symbol : SymKey) (args : List Term) (level : ℕ) → term_closed_under level (term.App symbol args) ≡ all_true (map (term_closed_under level) args)
closed-App symbol args level = search (rules, of_terms)

pub closed-Any : (level : ℕ) → term_closed_under level term.Any ≡ true
closed-Any level = search (rules, of_terms)

pub closed-True : (level : ℕ) → closed_under formula.True level ≡ true
closed-True level = search (rules, of_formulas)

pub closed-False : (level : ℕ) → closed_under formula.False level ≡ true
closed-False level = search (rules, of_formulas)

pub closed-Atom : (symbol : SymKey) (args : List Term) (level : ℕ) → closed_under (formula.Atom symbol args) level ≡ all_true (map (term_closed_under level) args)
closed-Atom symbol args level = search (rules, of_formulas)

pub closed-Not : (a : Formula) (level : ℕ) → closed_under (formula.Not a) level ≡ closed_under a level
closed-Not a level = search (rules, of_formulas)

pub closed-And : (a b : Formula) (level : ℕ) → closed_under (formula.And a b) level ≡ (closed_under a level && closed_under b level)
closed-And a b level = search (rules, of_formulas)

pub closed-Or : (a b : Formula) (level : ℕ) → closed_under (formula.Or a b) level ≡ (closed_under a level && closed_under b level)
closed-Or a b level = search (rules, of_formulas)

pub closed-Imp : (a b : Formula) (level : ℕ) → closed_under (formula.Imp a b) level ≡ (closed_under a level && closed_under b level)
closed-Imp a b level = search (rules, of_formulas)

pub closed-Iff : (a b : Formula) (level : ℕ) → closed_under (formula.Iff a b) level ≡ (closed_under a level && closed_under b level)
closed-Iff a b level = search (rules, of_formulas)

pub closed-All : (a : Formula) (level : ℕ) → closed_under (formula.All a) level ≡ closed_under a (level + 1)
closed-All a level = search (rules, of_formulas)

pub closed-Ex : (a : Formula) (level : ℕ) → closed_under (formula.Ex a) level ≡ closed_under a (level + 1)
closed-Ex a level = search (rules, of_formulas)

-- ---- well-formed

pub well_formed-Var : (number : ℕ) → well_formed_term (term.Var number) ≡ true
well_formed-Var number = search (rules, of_terms)

counted-App : (symbol : SymKey) (args : List Term) → well_formed_term (term.App symbol args) ≡ (fits_symbol Function symbol (length (map well_formed_term args)) && all_true (map well_formed_term args))
counted-App symbol args = search (rules, of_terms)

pub well_formed-App : (symbol : SymKey) (args : List Term) → well_formed_term (term.App symbol args) ≡ (fits_symbol Function symbol (length args) && all_true (map well_formed_term args))
well_formed-App symbol args = counted-App symbol args ∙ ap (λ n. fits_symbol Function symbol n && all_true (map well_formed_term args)) (length-map args well_formed_term)

pub well_formed-Any : well_formed_term term.Any ≡ true
well_formed-Any = search (rules, of_terms)

pub well_formed-True : well_formed formula.True ≡ true
well_formed-True = search (rules, of_formulas)

pub well_formed-False : well_formed formula.False ≡ true
well_formed-False = search (rules, of_formulas)

pub well_formed-Atom : (symbol : SymKey) (args : List Term) → well_formed (formula.Atom symbol args) ≡ well_formed_atom symbol args
well_formed-Atom symbol args = search (rules, of_formulas)

pub well_formed-Not : (a : Formula) → well_formed (formula.Not a) ≡ well_formed a
well_formed-Not a = search (rules, of_formulas)

pub well_formed-And : (a b : Formula) → well_formed (formula.And a b) ≡ (well_formed a && well_formed b)
well_formed-And a b = search (rules, of_formulas)

pub well_formed-Or : (a b : Formula) → well_formed (formula.Or a b) ≡ (well_formed a && well_formed b)
well_formed-Or a b = search (rules, of_formulas)

pub well_formed-Imp : (a b : Formula) → well_formed (formula.Imp a b) ≡ (well_formed a && well_formed b)
well_formed-Imp a b = search (rules, of_formulas)

pub well_formed-Iff : (a b : Formula) → well_formed (formula.Iff a b) ≡ (well_formed a && well_formed b)
well_formed-Iff a b = search (rules, of_formulas)

pub well_formed-All : (a : Formula) → well_formed (formula.All a) ≡ well_formed a
well_formed-All a = search (rules, of_formulas)

pub well_formed-Ex : (a : Formula) → well_formed (formula.Ex a) ≡ well_formed a
well_formed-Ex a = search (rules, of_formulas)

-- ---- without Any

pub no_any-Var : (number : ℕ) → term_has_no_any (term.Var number) ≡ true
no_any-Var number = search (rules, of_terms)

pub no_any-App : (symbol : SymKey) (args : List Term) → term_has_no_any (term.App symbol args) ≡ all_true (map term_has_no_any args)
no_any-App symbol args = search (rules, of_terms)

pub no_any-Any : term_has_no_any term.Any ≡ false
no_any-Any = search (rules, of_terms)

pub no_any-True : has_no_any formula.True ≡ true
no_any-True = search (rules, of_formulas)

pub no_any-False : has_no_any formula.False ≡ true
no_any-False = search (rules, of_formulas)

pub no_any-Atom : (symbol : SymKey) (args : List Term) → has_no_any (formula.Atom symbol args) ≡ all_true (map term_has_no_any args)
no_any-Atom symbol args = search (rules, of_formulas)

pub no_any-Not : (a : Formula) → has_no_any (formula.Not a) ≡ has_no_any a
no_any-Not a = search (rules, of_formulas)

pub no_any-And : (a b : Formula) → has_no_any (formula.And a b) ≡ (has_no_any a && has_no_any b)
no_any-And a b = search (rules, of_formulas)

pub no_any-Or : (a b : Formula) → has_no_any (formula.Or a b) ≡ (has_no_any a && has_no_any b)
no_any-Or a b = search (rules, of_formulas)

pub no_any-Imp : (a b : Formula) → has_no_any (formula.Imp a b) ≡ (has_no_any a && has_no_any b)
no_any-Imp a b = search (rules, of_formulas)

pub no_any-Iff : (a b : Formula) → has_no_any (formula.Iff a b) ≡ (has_no_any a && has_no_any b)
no_any-Iff a b = search (rules, of_formulas)

pub no_any-All : (a : Formula) → has_no_any (formula.All a) ≡ has_no_any a
no_any-All a = search (rules, of_formulas)

pub no_any-Ex : (a : Formula) → has_no_any (formula.Ex a) ≡ has_no_any a
no_any-Ex a = search (rules, of_formulas)
