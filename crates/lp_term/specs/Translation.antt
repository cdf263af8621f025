-- Terms and formulas as terms of the lambda-Pi-calculus. A bound variable keeps its number, since each
-- quantifier has one binder.
use Rattle.std.specs.Prelude.{ℕ, List, [], ◌∷◌, map, codes}
use Rattle.dk_syntax.specs.declared.Formula.{Formula, Formula-F, fold-Formula}
use Rattle.dk_syntax.specs.declared.Formula.TheOpen as formula
use Rattle.dk_syntax.specs.declared.Term.{Term, Term-F, fold-Term}
use Rattle.dk_syntax.specs.declared.Term.TheOpen as term
use Rattle.lp_term.specs.Identifiers.{identifier_of}
use Rattle.lp_term.specs.Terms.{individuals, apply_two, negation_of}
use Rattle.lp_term.specs.declared.lp.Lp.{Lp}
use Rattle.lp_term.specs.declared.lp.Lp.TheVariants.{Sym, Var, App, Lam}

-- `t u1 .. un`
abbrev pub apply_each : Lp → List Lp → Lp
apply_each t [] = t
apply_each t (u ∷ rest) = apply_each (App t u) rest

-- a term, from its arguments' translations
abbrev pub translated_term_at : Term-F Lp → Lp
translated_term_at (term.Var number) = Var number
translated_term_at (term.App symbol args) = apply_each (Sym (identifier_of symbol)) args
translated_term_at term.Any = Sym (codes "any")

-- a variable, a symbol applied to the arguments, `any`
abbrev pub translated_term : Term → Lp
translated_term = fold-Term Lp translated_term_at

-- `NAME a b`
abbrev pub connected : List ℕ → Lp → Lp → Lp
connected name a b = apply_two (Sym name) a b

-- `NAME (λ (x : I), a)`
abbrev pub quantified : List ℕ → Lp → Lp
quantified name a = App (Sym name) (Lam individuals a)

-- a formula, from its parts' translations
abbrev pub translated_at : Formula-F Lp → Lp
translated_at formula.True = Sym (codes "top")
translated_at formula.False = Sym (codes "bot")
translated_at (formula.Atom symbol args) = apply_each (Sym (identifier_of symbol)) (map translated_term args)
translated_at (formula.Not a) = negation_of a
translated_at (formula.And a b) = connected (codes "and") a b
translated_at (formula.Or a b) = connected (codes "or") a b
translated_at (formula.Imp a b) = connected (codes "imp") a b
translated_at (formula.Iff a b) = connected (codes "iff") a b
translated_at (formula.All a) = quantified (codes "all") a
translated_at (formula.Ex a) = quantified (codes "ex") a

-- the proposition that a formula says
abbrev pub translated : Formula → Lp
translated = fold-Formula Lp translated_at
