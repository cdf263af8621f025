-- The depth that is counted is that of the formula that is meant.
use Rattle.std.proofs.Common.{◌≡◌, ℕ, ◌+◌, max, List, [], ◌∷◌, ◌++◌, map, length, Option, Some, None, if◌then◌else◌, refl, sym, ap, ap₂, ◌∙◌, Bool, true, false, arith}
use Rattle.dk_syntax.proofs.FormulaLaws as dk
use Rattle.dk_syntax.proofs.ListLaws.{ForEach}
use Rattle.dk_syntax.proofs.TermLaws.{depth-Any, depth-App, depth-Var}
use Rattle.dk_syntax.specs.Depth.{formula_depth, greatest, term_depth_of}
use Rattle.dk_syntax.specs.declared.Formula.{Formula}
use Rattle.dk_syntax.specs.declared.Formula.TheVariants as formula
use Rattle.dk_syntax.specs.declared.Kind.TheVariants.{Function, Predicate}
use Rattle.tptp_formulas.proofs.RawEquations.{depth-Apply, depth-Atom, depth-Binary, depth-Chain, depth-Distinct, depth-Dollar, depth-DollarTerm, depth-Equation, depth-Number, depth-Unit, depth-Variable, meaning-Apply, meaning-Atom, meaning-Binary, meaning-Chain, meaning-Distinct, meaning-Dollar, meaning-DollarTerm, meaning-Equation, meaning-Number, meaning-Unit, meaning-Variable}
use Rattle.tptp_formulas.proofs.RawInduction.{raw_induction, raw_term_induction}
use Rattle.tptp_formulas.specs.Meaning.{chained, connected, exists, for_all, formula_of, linked, number, symbol, term_of, variable, wrapped}
use Rattle.tptp_formulas.specs.Outside.{is_true}
use Rattle.tptp_formulas.specs.RawDepth.{chain_depth, connective_depth, prefix_depth, raw_depth, raw_term_depth}
use Rattle.tptp_formulas.specs.Scopes.{Names, each, names_of}
use Rattle.tptp_formulas.specs.declared.raw.Connective.{Connective}
use Rattle.tptp_formulas.specs.declared.raw.Connective.TheVariants as connective
use Rattle.tptp_formulas.specs.declared.raw.Link.{Link}
use Rattle.tptp_formulas.specs.declared.raw.Link.TheVariants as link
use Rattle.tptp_formulas.specs.declared.raw.Prefix.{Prefix}
use Rattle.tptp_formulas.specs.declared.raw.Prefix.TheVariants.{Exists, ForAll, Not}
use Rattle.tptp_formulas.specs.declared.raw.Raw.{Raw}
use Rattle.tptp_formulas.specs.declared.raw.RawTerm.{RawTerm}

-- ---- terms

abbrev TermDepth : RawTerm → Type 0
TermDepth x = (bound : Names) → term_depth_of (term_of x bound) ≡ raw_term_depth x

depth-variable : (o : Option ℕ) → term_depth_of (variable o) ≡ 1
depth-variable None = depth-Any
depth-variable (Some k) = depth-Var k

depths-each : (xs : List RawTerm) (bound : Names) → ForEach TermDepth xs → greatest (map term_depth_of (each bound (map term_of xs))) ≡ greatest (map raw_term_depth xs)
depths-each [] bound known = refl
depths-each (x ∷ xs) bound known = ap₂ max (known.0 bound) (depths-each xs bound known.1)

pub depth-term_of : (x : RawTerm) → TermDepth x
depth-term_of = raw_term_induction TermDepth
    (λ name bound. ap term_depth_of (meaning-Variable name bound) ∙ depth-variable (number name bound) ∙ sym (depth-Variable name))
    (λ name args known bound. ap term_depth_of (meaning-Apply name args bound) ∙ depth-App (symbol name (length (map term_of args)) Function) (each bound (map term_of args))
    ∙ ap (λ n. 1 + n) (depths-each args bound known) ∙ sym (depth-Apply name args))
    (λ name bound. ap term_depth_of (meaning-Number name bound) ∙ depth-Any ∙ sym (depth-Number name))
    (λ name bound. ap term_depth_of (meaning-Distinct name bound) ∙ depth-Any ∙ sym (depth-Distinct name))
    (λ name args known bound. ap term_depth_of (meaning-DollarTerm name args bound) ∙ depth-Any ∙ sym (depth-DollarTerm name args))

-- ---- formulas

abbrev FormulaDepth : Raw → Type 0
FormulaDepth f = (bound : Names) → formula_depth (formula_of f bound) ≡ raw_depth f

pub depth-for_all : (names : Names) (f : Formula) → formula_depth (for_all names f) ≡ length names + formula_depth f
depth-for_all [] f = omega arith
depth-for_all (name ∷ names) f = dk.depth-All (for_all names f) ∙ (let h = depth-for_all names f in omega arith)

depth-exists : (names : Names) (f : Formula) → formula_depth (exists names f) ≡ length names + formula_depth f
depth-exists [] f = omega arith
depth-exists (name ∷ names) f = dk.depth-Ex (exists names f) ∙ (let h = depth-exists names f in omega arith)

depth-wrapped : (ps : List Prefix) (f : Formula) → formula_depth (wrapped ps f) ≡ prefix_depth ps + formula_depth f
depth-wrapped [] f = omega arith
depth-wrapped (Not ∷ ps) f = dk.depth-Not (wrapped ps f) ∙ (let h = depth-wrapped ps f in omega arith)
depth-wrapped (ForAll names ∷ ps) f = depth-for_all names (wrapped ps f) ∙ (let h = depth-wrapped ps f in omega arith)
depth-wrapped (Exists names ∷ ps) f = depth-exists names (wrapped ps f) ∙ (let h = depth-wrapped ps f in omega arith)

depth-linked : (l : Link) (a b : Formula) → formula_depth (linked l a b) ≡ 1 + max (formula_depth a) (formula_depth b)
depth-linked link.And a b = dk.depth-And a b
depth-linked link.Or a b = dk.depth-Or a b

depth-connected : (c : Connective) (a b : Formula) → formula_depth (connected c a b) ≡ connective_depth c (formula_depth a) (formula_depth b)
depth-connected connective.Implies a b = dk.depth-Imp a b
depth-connected connective.ImpliedBy a b = dk.depth-Imp b a ∙ omega arith
depth-connected connective.Iff a b = dk.depth-Iff a b
depth-connected connective.Differs a b = dk.depth-Not (formula.Iff a b) ∙ (let h = dk.depth-Iff a b in omega arith)
depth-connected connective.Nor a b = dk.depth-Not (formula.Or a b) ∙ (let h = dk.depth-Or a b in omega arith)
depth-connected connective.Nand a b = dk.depth-Not (formula.And a b) ∙ (let h = dk.depth-And a b in omega arith)

depth-chained : (l : Link) (fs : List Raw) (bound : Names) → ForEach FormulaDepth fs → (f : Formula) (d : ℕ) → formula_depth f ≡ d → formula_depth (chained l f (each bound (map formula_of fs))) ≡ chain_depth d (map raw_depth fs)
depth-chained l [] bound known f d e = e
depth-chained l (g ∷ gs) bound known f d e =
    depth-chained l gs bound known.1 (linked l f (formula_of g bound)) (1 + max d (raw_depth g)) (depth-linked l f (formula_of g bound) ∙ ap₂ (λ m n. 1 + max m n) e (known.0 bound))

depth-if : (b : Bool) → formula_depth (if b then formula.True else formula.False) ≡ 1
depth-if true = dk.depth-True
depth-if false = dk.depth-False

all_terms : (args : List RawTerm) → ForEach TermDepth args
all_terms [] = tt
all_terms (x ∷ xs) = (depth-term_of x, all_terms xs)

-- a formula is as deep as was counted, wherever it stands
pub depth-formula_of : (f : Raw) → FormulaDepth f
depth-formula_of = raw_induction FormulaDepth
    (λ name args bound. ap formula_depth (meaning-Atom name args bound) ∙ dk.depth-Atom (symbol name (length args) Predicate) (each bound (map term_of args))
    ∙ ap (λ n. 1 + n) (depths-each args bound (all_terms args)) ∙ sym (depth-Atom name args))
    (λ name args bound. ap formula_depth (meaning-Dollar name args bound) ∙ depth-if (is_true name) ∙ sym (depth-Dollar name args))
    (λ c a b bound. ap formula_depth (meaning-Equation c a b bound) ∙ dk.depth-False ∙ sym (depth-Equation c a b))
    (λ ps f known bound. ap formula_depth (meaning-Unit ps f bound) ∙ depth-wrapped ps (formula_of f (bound ++ names_of ps))
    ∙ ap (λ n. prefix_depth ps + n) (known (bound ++ names_of ps)) ∙ sym (depth-Unit ps f))
    (λ c a b left right bound. ap formula_depth (meaning-Binary c a b bound) ∙ depth-connected c (formula_of a bound) (formula_of b bound)
    ∙ ap₂ (λ m n. connective_depth c m n) (left bound) (right bound) ∙ sym (depth-Binary c a b))
    (λ l f fs first others bound. ap formula_depth (meaning-Chain l f fs bound) ∙ depth-chained l fs bound others (formula_of f bound) (raw_depth f) (first bound) ∙ sym (depth-Chain l f fs))
