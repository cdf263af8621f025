-- The algebra of terms: substitutions, in literals too, and the variables of a term.
use Rattle.std.specs.Prelude.{ℕ, ◌≡◌, ◌<◌, nat_eq, Bool, true, false, List, map, ◌+◌, sum}
pub use Rattle.dk_syntax.specs.Lists.{any_true}
use Rattle.dk_syntax.specs.declared.clause.Literal.{Literal}
use Rattle.dk_syntax.specs.declared.term.Term.{Term, Term-F, fold-Term}
use Rattle.dk_syntax.specs.declared.term.Term.TheOpen as term
use Rattle.dk_syntax.specs.declared.term.Term.TheVariants.{Any, App}

-- a term with each variable replaced, from its arguments with theirs replaced
abbrev pub substituted_at : (ℕ → Term) → Term-F Term → Term
substituted_at r (term.Var k) = r k
substituted_at r (term.App symbol args) = App symbol args
substituted_at r term.Any = Any

-- the term with r k for each variable k
abbrev pub substituted : (ℕ → Term) → Term → Term
substituted r = fold-Term Term (substituted_at r)

-- the literal with r k for each variable k
abbrev pub instance : (ℕ → Term) → Literal → Literal
instance r literal = record literal { args = map (substituted r) literal.args }

-- whether variable k stands in a term, from the same of its arguments
abbrev pub has_variable_at : ℕ → Term-F Bool → Bool
has_variable_at k (term.Var j) = nat_eq j k
has_variable_at k (term.App symbol args) = any_true args
has_variable_at k term.Any = false

-- variable k stands in the term
abbrev pub has_variable : ℕ → Term → Bool
has_variable k = fold-Term Bool (has_variable_at k)

-- all variables of the term are below n
abbrev pub Below : ℕ → Term → Type 0
Below n t = (k : ℕ) → has_variable k t ≡ true → k < n

-- all variables of the terms are below n
abbrev pub EachBelow : ℕ → List Term → Type 0
EachBelow n ts = (k : ℕ) → any_true (map (has_variable k) ts) ≡ true → k < n

-- the number of the term's symbols, variables and Any, from those of its arguments
abbrev pub term_size_at : Term-F ℕ → ℕ
term_size_at (term.Var k) = 1
term_size_at (term.App symbol sizes) = 1 + sum sizes
term_size_at term.Any = 1

-- the number of symbols, variables and Any in the tree
abbrev pub term_size : Term → ℕ
term_size = fold-Term ℕ term_size_at
