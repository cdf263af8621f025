-- What the definitions say of each kind of term and formula as it is written.
use Rattle.std.proofs.Common.{◌≡◌, ℕ, ◌+◌, List, [], ◌∷◌, ◌++◌, map, length, Some, rules}
use Rattle.dk_syntax.specs.Depth.{greatest}
use Rattle.dk_syntax.specs.Symbols.{joined}
use Rattle.dk_syntax.specs.declared.Formula.TheVariants as formula
use Rattle.dk_syntax.specs.declared.Kind.TheVariants.{Function, Predicate}
use Rattle.dk_syntax.specs.declared.Term.TheVariants as dk
use Rattle.tptp_formulas.specs.Meaning.{chained, connected, constant, formula_of, number, symbol, term_of, variable, wrapped}
use Rattle.tptp_formulas.specs.Outside.{first_of_two, first_some, outside_of, outside_term}
use Rattle.tptp_formulas.specs.RawDepth.{chain_depth, connective_depth, prefix_depth, raw_depth, raw_term_depth}
use Rattle.tptp_formulas.specs.Scopes.{Names, each, free_in, names_of, term_variables, unbound}
use Rattle.tptp_formulas.specs.declared.body.OutsideKind.TheVariants as kind
use Rattle.tptp_formulas.specs.declared.raw.Comparison.{Comparison}
use Rattle.tptp_formulas.specs.declared.raw.Connective.{Connective}
use Rattle.tptp_formulas.specs.declared.raw.Link.{Link}
use Rattle.tptp_formulas.specs.declared.raw.Prefix.{Prefix}
use Rattle.tptp_formulas.specs.declared.raw.Raw.{Raw, the_lemmas as of_raw}
use Rattle.tptp_formulas.specs.declared.raw.Raw.TheVariants as raw
use Rattle.tptp_formulas.specs.declared.raw.RawTerm.{RawTerm, the_lemmas as of_terms}
use Rattle.tptp_formulas.specs.declared.raw.RawTerm.TheVariants as term

-- ---- meanings

pub meaning-Variable : (name : List ℕ) (bound : Names) → term_of (term.Variable name) bound ≡ variable (number name bound)
meaning-Variable name bound = search (rules, of_terms)

pub meaning-Apply : (name : List ℕ) (args : List RawTerm) (bound : Names) → term_of (term.Apply name args) bound ≡ dk.App (symbol name (length (map term_of args)) Function) (each bound (map term_of args))
meaning-Apply name args bound = search (rules, of_terms)

pub meaning-Number : (name : List ℕ) (bound : Names) → term_of (term.Number name) bound ≡ dk.Any
meaning-Number name bound = search (rules, of_terms)

pub meaning-Distinct : (name : List ℕ) (bound : Names) → term_of (term.Distinct name) bound ≡ dk.Any
meaning-Distinct name bound = search (rules, of_terms)

pub meaning-DollarTerm : (name : List ℕ) (args : List RawTerm) (bound : Names) → term_of (term.Dollar name args) bound ≡ dk.Any
meaning-DollarTerm name args bound = search (rules, of_terms)

pub meaning-Atom : (name : List ℕ) (args : List RawTerm) (bound : Names) → formula_of (raw.Atom name args) bound ≡ formula.Atom (symbol name (length args) Predicate) (each bound (map term_of args))
meaning-Atom name args bound = search (rules, of_raw)

pub meaning-Dollar : (name : List ℕ) (args : List RawTerm) (bound : Names) → formula_of (raw.Dollar name args) bound ≡ constant name
meaning-Dollar name args bound = search (rules, of_raw)

pub meaning-Equation : (c : Comparison) (a b : RawTerm) (bound : Names) → formula_of (raw.Equation c a b) bound ≡ formula.False
meaning-Equation c a b bound = search (rules, of_raw)

pub meaning-Unit : (ps : List Prefix) (f : Raw) (bound : Names) → formula_of (raw.Unit ps f) bound ≡ wrapped ps (formula_of f (bound ++ names_of ps))
meaning-Unit ps f bound = search (rules, of_raw)

pub meaning-Binary : (c : Connective) (a b : Raw) (bound : Names) → formula_of (raw.Binary c a b) bound ≡ connected c (formula_of a bound) (formula_of b bound)
meaning-Binary c a b bound = search (rules, of_raw)

pub meaning-Chain : (l : Link) (f : Raw) (fs : List Raw) (bound : Names) → formula_of (raw.Chain l f fs) bound ≡ chained l (formula_of f bound) (each bound (map formula_of fs))
meaning-Chain l f fs bound = search (rules, of_raw)

-- ---- depths

pub depth-Variable : (name : List ℕ) → raw_term_depth (term.Variable name) ≡ 1
depth-Variable name = search (rules, of_terms)

pub depth-Apply : (name : List ℕ) (args : List RawTerm) → raw_term_depth (term.Apply name args) ≡ 1 + greatest (map raw_term_depth args)
depth-Apply name args = search (rules, of_terms)

pub depth-Number : (name : List ℕ) → raw_term_depth (term.Number name) ≡ 1
depth-Number name = search (rules, of_terms)

pub depth-Distinct : (name : List ℕ) → raw_term_depth (term.Distinct name) ≡ 1
depth-Distinct name = search (rules, of_terms)

pub depth-DollarTerm : (name : List ℕ) (args : List RawTerm) → raw_term_depth (term.Dollar name args) ≡ 1
depth-DollarTerm name args = search (rules, of_terms)

pub depth-Atom : (name : List ℕ) (args : List RawTerm) → raw_depth (raw.Atom name args) ≡ 1 + greatest (map raw_term_depth args)
depth-Atom name args = search (rules, of_raw)

pub depth-Dollar : (name : List ℕ) (args : List RawTerm) → raw_depth (raw.Dollar name args) ≡ 1
depth-Dollar name args = search (rules, of_raw)

pub depth-Equation : (c : Comparison) (a b : RawTerm) → raw_depth (raw.Equation c a b) ≡ 1
depth-Equation c a b = search (rules, of_raw)

pub depth-Unit : (ps : List Prefix) (f : Raw) → raw_depth (raw.Unit ps f) ≡ prefix_depth ps + raw_depth f
depth-Unit ps f = search (rules, of_raw)

pub depth-Binary : (c : Connective) (a b : Raw) → raw_depth (raw.Binary c a b) ≡ connective_depth c (raw_depth a) (raw_depth b)
depth-Binary c a b = search (rules, of_raw)

pub depth-Chain : (l : Link) (f : Raw) (fs : List Raw) → raw_depth (raw.Chain l f fs) ≡ chain_depth (raw_depth f) (map raw_depth fs)
depth-Chain l f fs = search (rules, of_raw)

-- ---- variables

pub variables-Variable : (name : List ℕ) → term_variables (term.Variable name) ≡ name ∷ []
variables-Variable name = search (rules, of_terms)

pub variables-Apply : (name : List ℕ) (args : List RawTerm) → term_variables (term.Apply name args) ≡ joined (map term_variables args)
variables-Apply name args = search (rules, of_terms)

pub free-Atom : (name : List ℕ) (args : List RawTerm) (bound : Names) → free_in (raw.Atom name args) bound ≡ unbound bound (joined (map term_variables args))
free-Atom name args bound = search (rules, of_raw)

pub free-Unit : (ps : List Prefix) (f : Raw) (bound : Names) → free_in (raw.Unit ps f) bound ≡ free_in f (bound ++ names_of ps)
free-Unit ps f bound = search (rules, of_raw)

pub free-Binary : (c : Connective) (a b : Raw) (bound : Names) → free_in (raw.Binary c a b) bound ≡ free_in a bound ++ free_in b bound
free-Binary c a b bound = search (rules, of_raw)

pub free-Chain : (l : Link) (f : Raw) (fs : List Raw) (bound : Names) → free_in (raw.Chain l f fs) bound ≡ free_in f bound ++ joined (each bound (map free_in fs))
free-Chain l f fs bound = search (rules, of_raw)

-- ---- what is outside

pub outside-Apply : (name : List ℕ) (args : List RawTerm) → outside_term (term.Apply name args) ≡ first_some (map outside_term args)
outside-Apply name args = search (rules, of_terms)

pub outside-Number : (name : List ℕ) → outside_term (term.Number name) ≡ Some kind.Number
outside-Number name = search (rules, of_terms)

pub outside-Distinct : (name : List ℕ) → outside_term (term.Distinct name) ≡ Some kind.Distinct
outside-Distinct name = search (rules, of_terms)

pub outside-DollarTerm : (name : List ℕ) (args : List RawTerm) → outside_term (term.Dollar name args) ≡ Some kind.Dollar
outside-DollarTerm name args = search (rules, of_terms)

pub outside-Atom : (name : List ℕ) (args : List RawTerm) → outside_of (raw.Atom name args) ≡ first_some (map outside_term args)
outside-Atom name args = search (rules, of_raw)

pub outside-Unit : (ps : List Prefix) (f : Raw) → outside_of (raw.Unit ps f) ≡ outside_of f
outside-Unit ps f = search (rules, of_raw)

pub outside-Binary : (c : Connective) (a b : Raw) → outside_of (raw.Binary c a b) ≡ first_of_two (outside_of a) (outside_of b)
outside-Binary c a b = search (rules, of_raw)

pub outside-Chain : (l : Link) (f : Raw) (fs : List Raw) → outside_of (raw.Chain l f fs) ≡ first_of_two (outside_of f) (first_some (map outside_of fs))
outside-Chain l f fs = search (rules, of_raw)
