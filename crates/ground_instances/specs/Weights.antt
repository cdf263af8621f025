-- How much lists of ground clauses weigh.
use Rattle.std.specs.Prelude.{◌≡◌, ℕ, ◌+◌, ◌↔◌, List, length, slice_get, sum_by, Contains, Some}
use Rattle.dk_syntax.specs.Terms.{term_size}
use Rattle.dk_syntax.specs.declared.clause.Literal.{Literal}
use Rattle.dk_syntax.specs.declared.symbol.SymKey.{SymKey}
use Rattle.dk_syntax.specs.declared.term.Term.{Term}
use Rattle.dk_syntax.specs.declared.term.Term.TheVariants.{App}

-- the term stands in the other, which may be itself
pub data IsPart (t : Term) : Term → Type 0 where
  whole : (u : Term) → u ≡ t → IsPart t u
  inside : (u arg : Term) (f : SymKey) (args : List Term) → u ≡ App f args → Contains args arg → IsPart t arg → IsPart t u

-- the term stands in one of the terms
abbrev pub IsPartOf : List Term → Term → Type 0
IsPartOf terms t = (u : Term) × Contains terms u × IsPart t u

-- the term stands in the clause
abbrev pub IsInClause : List Literal → Term → Type 0
IsInClause lits t = (literal : Literal) × Contains lits literal × IsPartOf literal.args t

-- the term stands in one of the clauses
abbrev pub IsInClauses : List (List Literal) → Term → Type 0
IsInClauses clauses t = (lits : List Literal) × Contains clauses lits × IsInClause lits t

-- the list has each term of the clauses once, subterms included, and no other
pub record AreTermsOf (clauses : List (List Literal)) (terms : List Term) : Type 0 where
  pub once : (j k : ℕ) (t : Term) → slice_get terms j ≡ Some t → slice_get terms k ≡ Some t → j ≡ k
  pub same : (t : Term) → Contains terms t ↔ IsInClauses clauses t

-- how many literals the clauses have together
abbrev pub literals_in : List (List Literal) → ℕ
literals_in clauses = sum_by (λ lits. length lits) clauses

-- the number of the clauses, of their literals, and of the terms
abbrev pub weight_by : List (List Literal) → List Term → ℕ
weight_by clauses terms = length clauses + (literals_in clauses + length terms)

-- the number of the clauses, of their literals, and of the different terms that stand in them
abbrev pub IsWeight : List (List Literal) → ℕ → Type 0
IsWeight clauses weight = (terms : List Term) × AreTermsOf clauses terms × (weight ≡ weight_by clauses terms)

-- the predicate symbol, and the symbols and Any in the arguments
abbrev pub literal_size : Literal → ℕ
literal_size literal = 1 + sum_by term_size literal.args

-- 1, and the occurrences of predicate symbols, function symbols and Any in a ground clause
abbrev pub tree_weight : List Literal → ℕ
tree_weight lits = 1 + sum_by literal_size lits
