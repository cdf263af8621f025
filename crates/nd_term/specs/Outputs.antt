-- Ground terms of the program as the proof terms have them: a Skolem term is its eigenvariable.
use Rattle.std.specs.Prelude.{ℕ, Bool, true, false, cond, List, [], ◌∷◌, map, length, unwrap_or}
use Rattle.std.specs.List.{list_any, position}
use Rattle.std.specs.declared.cmp.Ordering.{Ordering}
use Rattle.std.specs.declared.cmp.Ordering.TheVariants.{Equal, Greater, Less}
use Rattle.dk_syntax.specs.Order.{order_of}
use Rattle.dk_syntax.specs.Symbols.{same_symbol}
use Rattle.dk_syntax.specs.declared.Literal.{Literal}
use Rattle.dk_syntax.specs.declared.SymKey.{SymKey}
use Rattle.dk_syntax.specs.declared.Term.{Term, Term-F, fold-Term}
use Rattle.dk_syntax.specs.declared.Term.TheOpen as term
use Rattle.dk_syntax.specs.declared.Term.TheVariants.{Any, App, Var}
use Rattle.lp_term.specs.Identifiers.{identifier_of}
use Rattle.lp_term.specs.Names.{any_name}
use Rattle.nd_term.specs.Formulas.{GroundTerm, eigenvariable, ground_applied, ground_symbol, literal, Literal as TheoryLiteral}

-- a ground term with the arguments one after the other
abbrev pub ground_applied_each : GroundTerm → List GroundTerm → GroundTerm
ground_applied_each t [] = t
ground_applied_each t (u ∷ rest) = ground_applied_each (ground_applied t u) rest

abbrev pub ground_of_at : Term-F GroundTerm → GroundTerm
ground_of_at (term.Var number) = eigenvariable number
ground_of_at (term.App head args) = ground_applied_each (ground_symbol (identifier_of head)) args
ground_of_at term.Any = ground_symbol any_name

-- a term in which the variable k stands for the k-th eigenvariable
abbrev pub ground_of : Term → GroundTerm
ground_of = fold-Term GroundTerm ground_of_at

abbrev pub is_equal : Ordering → Bool
is_equal Less = false
is_equal Equal = true
is_equal Greater = false

-- the place of a term in an order, and the order's length where it isn't there
abbrev pub place_of : List Term → Term → ℕ
place_of order t = unwrap_or (position (λ u. is_equal (order_of u t)) order) (length order)

-- a term, and what it is in a proof term
pub record Output : Type 0 where
  pub term : Term
  pub ground : GroundTerm

-- an application whose head is a Skolem symbol is its eigenvariable
abbrev pub output_of_application : List SymKey → List Term → SymKey → List Output → GroundTerm
output_of_application symbols order head args =
    cond (list_any (same_symbol head) symbols)
    (eigenvariable (place_of order (App head (map (λ one. one.term) args))))
    (ground_applied_each (ground_symbol (identifier_of head)) (map (λ one. one.ground) args))

abbrev pub output_at : List SymKey → List Term → Term-F Output → Output
output_at symbols order (term.Var number) = record { term = Var number; ground = ground_symbol any_name }
output_at symbols order (term.App head args) =
    record { term = App head (map (λ one. one.term) args); ground = output_of_application symbols order head args }
output_at symbols order term.Any = record { term = Any; ground = ground_symbol any_name }

-- what a ground term is in a proof term, where these are the Skolem symbols and this is the order of their terms
abbrev pub output : List SymKey → List Term → Term → GroundTerm
output symbols order t = (fold-Term Output (output_at symbols order) t).ground

-- the same of an atom and of a literal
abbrev pub output_atom : List SymKey → List Term → SymKey → List Term → GroundTerm
output_atom symbols order predicate args = ground_applied_each (ground_symbol (identifier_of predicate)) (map (output symbols order) args)

abbrev pub output_literal : List SymKey → List Term → Literal → TheoryLiteral
output_literal symbols order one = literal one.positive (output_atom symbols order one.pred one.args)

abbrev pub output_clause : List SymKey → List Term → List Literal → List TheoryLiteral
output_clause symbols order lits = map (output_literal symbols order) lits
