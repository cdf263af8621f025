-- The tokens of a printed formula are derived by the grammar, and what they mean is the formula.
use Rattle.std.proofs.Common.{◌≡◌, ℕ, ◌+◌, ◌-◌, List, [], ◌∷◌, map, inl, inr, refl, rules, codes}
use Rattle.std.proofs.lemmas.Bool.{cases_Bool}
use Rattle.dk_syntax.proofs.FormulaLaws.{formula_induction}
use Rattle.dk_syntax.proofs.ListLaws.{ForEach, for_each}
use Rattle.dk_syntax.proofs.TermLaws.{term_induction}
use Rattle.dk_syntax.specs.declared.Formula.{Formula, the_lemmas as of_formulas}
use Rattle.dk_syntax.specs.declared.Formula.TheVariants as formula
use Rattle.dk_syntax.specs.declared.SymKey.{SymKey}
use Rattle.dk_syntax.specs.declared.Term.{Term, the_lemmas as of_terms}
use Rattle.dk_syntax.specs.declared.Term.TheVariants as term
use Rattle.tptp_tokens.specs.declared.Token.{Token}
use Rattle.tptp_tokens.specs.declared.Token.TheVariants as t
use Rattle.tptp_formulas.specs.Grammar.{link_mark, connective_mark, OneUnit, IsName, LowerName, QuotedName, IsTerm, Variable, Application, DollarTerm, IsArguments, NoArguments, Bracketed, IsTerms, LastTerm, MoreTerms, Atom, DollarAtom, LastVariable, IsPrefixes, NoPrefix, Negated, Universal, Existential, IsFormula, Binary, Chain, LastUnit, IsUnit, Prefixed, IsCore, Bare, InBrackets}
use Rattle.tptp_formulas.specs.Scopes.{each}
use Rattle.tptp_formulas.specs.declared.Connective.{Connective}
use Rattle.tptp_formulas.specs.declared.Connective.TheVariants as connective
use Rattle.tptp_formulas.specs.declared.Link.{Link}
use Rattle.tptp_formulas.specs.declared.Link.TheVariants as link
use Rattle.tptp_formulas.specs.declared.Prefix.TheVariants as prefix
use Rattle.tptp_formulas.specs.declared.Raw.{Raw}
use Rattle.tptp_formulas.specs.declared.Raw.TheVariants as raw
use Rattle.tptp_formulas.specs.declared.RawTerm.TheVariants as raw_term
use Rattle.tptp_text.specs.Printed.{is_lower_word, variable_text}
use Rattle.tptp_text.specs.PrintedTokens.{name_token, list_tokens, arguments_tokens, term_tokens, formula_tokens}
use Rattle.tptp_text.specs.PrintedForms.{term_form, UnitParts, whole, bare, behind, parts_of}
use Rattle.tptp_text.proofs.PrintedTokenLaws.{tokens-Var, tokens-App, tokens-Any, tokens-True, tokens-False, tokens-Atom, tokens-Not, tokens-And, tokens-Or, tokens-Imp, tokens-Iff, tokens-All, tokens-Ex}

-- ---- terms

pub form-Var : (n level : ℕ) → term_form (term.Var n) level ≡ raw_term.Variable (variable_text (level - 1 - n))
form-Var n level = search (rules, of_terms)

pub form-App : (s : SymKey) (args : List Term) (level : ℕ) → term_form (term.App s args) level ≡ raw_term.Apply s.name (each level (map term_form args))
form-App s args level = search (rules, of_terms)

pub form-Any : (level : ℕ) → term_form term.Any level ≡ raw_term.Dollar (codes "$any") []
form-Any level = search (rules, of_terms)

name_is : (name : List ℕ) → IsName (name_token name) name
name_is name = elim (cases_Bool (is_lower_word name)) [
  | inl e ↦ rw e (LowerName name)
  | inr e ↦ rw e (QuotedName name)
]

abbrev TermIs : Term → Type 0
TermIs x = (level : ℕ) (after : List Token) → IsTerm (term_tokens x level after) (term_form x level) after

terms_are : (x : Term) (xs : List Term) → TermIs x → ForEach TermIs xs → (level : ℕ) (after : List Token) → IsTerms (term_tokens x level (list_tokens t.Comma (map term_tokens xs) level after)) (term_form x level ∷ each level (map term_form xs)) after
terms_are x [] first known level after = LastTerm _ _ _ (first level (t.CloseRound ∷ after))
terms_are x (y ∷ xs) first known level after =
    let mid : List Token = term_tokens y level (list_tokens t.Comma (map term_tokens xs) level after) in
    MoreTerms _ _ mid _ _ (first level (t.Comma ∷ mid)) (terms_are y xs known.0 known.1 level after)

arguments_are : (xs : List Term) → ForEach TermIs xs → (level : ℕ) (after : List Token) → IsArguments (arguments_tokens (map term_tokens xs) level after) (each level (map term_form xs)) after
arguments_are [] known level after = NoArguments after
arguments_are (x ∷ xs) known level after = Bracketed _ _ _ (terms_are x xs known.0 known.1 level after)

pub term_is : (x : Term) → TermIs x
term_is = term_induction TermIs
    (λ n level after. rw (tokens-Var n level after, form-Var n level) (Variable (variable_text (level - 1 - n)) after))
    (λ s args known level after. rw (tokens-App s args level after, form-App s args level) (Application (name_token s.name) s.name _ _ after (name_is s.name) (arguments_are args known level after)))
    (λ level after. rw (tokens-Any level after, form-Any level) (DollarTerm (codes "$any") after [] after (NoArguments after)))

-- ---- formulas

pub parts-True : (level : ℕ) → parts_of formula.True level ≡ bare (raw.Dollar (codes "$true") [])
parts-True level = search (rules, of_formulas)

pub parts-False : (level : ℕ) → parts_of formula.False level ≡ bare (raw.Dollar (codes "$false") [])
parts-False level = search (rules, of_formulas)

pub parts-Atom : (s : SymKey) (args : List Term) (level : ℕ) → parts_of (formula.Atom s args) level ≡ bare (raw.Atom s.name (each level (map term_form args)))
parts-Atom s args level = search (rules, of_formulas)

pub parts-Not : (a : Formula) (level : ℕ) → parts_of (formula.Not a) level ≡ behind prefix.Not (parts_of a level)
parts-Not a level = search (rules, of_formulas)

pub parts-And : (a b : Formula) (level : ℕ) → parts_of (formula.And a b) level ≡ bare (raw.Chain link.And (whole (parts_of a level)) (whole (parts_of b level) ∷ []))
parts-And a b level = search (rules, of_formulas)

pub parts-Or : (a b : Formula) (level : ℕ) → parts_of (formula.Or a b) level ≡ bare (raw.Chain link.Or (whole (parts_of a level)) (whole (parts_of b level) ∷ []))
parts-Or a b level = search (rules, of_formulas)

pub parts-Imp : (a b : Formula) (level : ℕ) → parts_of (formula.Imp a b) level ≡ bare (raw.Binary connective.Implies (whole (parts_of a level)) (whole (parts_of b level)))
parts-Imp a b level = search (rules, of_formulas)

pub parts-Iff : (a b : Formula) (level : ℕ) → parts_of (formula.Iff a b) level ≡ bare (raw.Binary connective.Iff (whole (parts_of a level)) (whole (parts_of b level)))
parts-Iff a b level = search (rules, of_formulas)

pub parts-All : (a : Formula) (level : ℕ) → parts_of (formula.All a) level ≡ behind (prefix.ForAll (variable_text level ∷ [])) (parts_of a (level + 1))
parts-All a level = search (rules, of_formulas)

pub parts-Ex : (a : Formula) (level : ℕ) → parts_of (formula.Ex a) level ≡ behind (prefix.Exists (variable_text level ∷ [])) (parts_of a (level + 1))
parts-Ex a level = search (rules, of_formulas)

abbrev PartsAre : List Token → UnitParts → List Token → Type 0
PartsAre before parts after = (mid : List Token) × IsPrefixes before parts.prefixes mid × IsCore mid parts.core after

abbrev FormulaIs : Formula → Type 0
FormulaIs f = (level : ℕ) (after : List Token) → PartsAre (formula_tokens f level after) (parts_of f level) after

unit_of : (before : List Token) (parts : UnitParts) (after : List Token) → PartsAre before parts after → IsUnit before (whole parts) after
unit_of before parts after p = Prefixed before parts.prefixes p.0 parts.core after p.1 p.2

bare_core : (before : List Token) (core : Raw) (after : List Token) → IsCore before core after → PartsAre before (bare core) after
bare_core before core after c = (before, NoPrefix before, c)

chain_is : (l : Link) (mark : Token) → link_mark l ≡ mark → (a b : Formula) → FormulaIs a → FormulaIs b → (level : ℕ) (after : List Token)
    → IsCore (t.OpenRound ∷ formula_tokens a level (mark ∷ formula_tokens b level (t.CloseRound ∷ after))) (raw.Chain l (whole (parts_of a level)) (whole (parts_of b level) ∷ [])) after
chain_is l mark e a b left right level after =
    let second = formula_tokens b level (t.CloseRound ∷ after) in
    let first : IsUnit (formula_tokens a level (mark ∷ second)) (whole (parts_of a level)) (link_mark l ∷ second) = rw e (unit_of _ (parts_of a level) (mark ∷ second) (left level (mark ∷ second))) in
    InBrackets _ _ after (Chain l _ _ second _ _ first (LastUnit l second (whole (parts_of b level)) (t.CloseRound ∷ after) (unit_of second (parts_of b level) (t.CloseRound ∷ after) (right level (t.CloseRound ∷ after)))))

binary_is : (c : Connective) (mark : Token) → connective_mark c ≡ mark → (a b : Formula) → FormulaIs a → FormulaIs b → (level : ℕ) (after : List Token)
    → IsCore (t.OpenRound ∷ formula_tokens a level (mark ∷ formula_tokens b level (t.CloseRound ∷ after))) (raw.Binary c (whole (parts_of a level)) (whole (parts_of b level))) after
binary_is c mark e a b left right level after =
    let second = formula_tokens b level (t.CloseRound ∷ after) in
    let first : IsUnit (formula_tokens a level (mark ∷ second)) (whole (parts_of a level)) (connective_mark c ∷ second) = rw e (unit_of _ (parts_of a level) (mark ∷ second) (left level (mark ∷ second))) in
    InBrackets _ _ after (Binary c _ _ second _ _ first (unit_of second (parts_of b level) (t.CloseRound ∷ after) (right level (t.CloseRound ∷ after))))

pub formula_is : (f : Formula) → FormulaIs f
formula_is = formula_induction FormulaIs
    (λ level after. rw (tokens-True level after, parts-True level) (bare_core _ _ after (Bare _ _ after (DollarAtom _ (codes "$true") [] after (DollarTerm (codes "$true") after [] after (NoArguments after))))))
    (λ level after. rw (tokens-False level after, parts-False level) (bare_core _ _ after (Bare _ _ after (DollarAtom _ (codes "$false") [] after (DollarTerm (codes "$false") after [] after (NoArguments after))))))
    (λ s args level after. rw (tokens-Atom s args level after, parts-Atom s args level) (bare_core _ _ after (Bare _ _ after (Atom _ s.name _ after (Application (name_token s.name) s.name _ _ after (name_is s.name) (arguments_are args (for_each TermIs term_is args) level after))))))
    (λ a known level after. let k = known level after in rw (tokens-Not a level after, parts-Not a level) (k.0, Negated _ _ k.0 k.1, k.2))
    (λ a b left right level after. rw (tokens-And a b level after, parts-And a b level) (bare_core _ _ after (chain_is link.And t.And refl a b left right level after)))
    (λ a b left right level after. rw (tokens-Or a b level after, parts-Or a b level) (bare_core _ _ after (chain_is link.Or t.Or refl a b left right level after)))
    (λ a b left right level after. rw (tokens-Imp a b level after, parts-Imp a b level) (bare_core _ _ after (binary_is connective.Implies t.Implies refl a b left right level after)))
    (λ a b left right level after. rw (tokens-Iff a b level after, parts-Iff a b level) (bare_core _ _ after (binary_is connective.Iff t.Iff refl a b left right level after)))
    (λ a known level after. let k = known (level + 1) after in rw (tokens-All a level after, parts-All a level) (k.0, Universal _ (variable_text level ∷ []) _ _ k.0 (LastVariable (variable_text level) _) k.1, k.2))
    (λ a known level after. let k = known (level + 1) after in rw (tokens-Ex a level after, parts-Ex a level) (k.0, Existential _ (variable_text level ∷ []) _ _ k.0 (LastVariable (variable_text level) _) k.1, k.2))

-- the tokens of a printed formula are one by the grammar
pub formula_written : (f : Formula) (level : ℕ) (after : List Token) → IsFormula (formula_tokens f level after) (whole (parts_of f level)) after
formula_written f level after = OneUnit _ _ after (unit_of _ (parts_of f level) after (formula_is f level after))
