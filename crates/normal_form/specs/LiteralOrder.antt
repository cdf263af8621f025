-- The order of literals in sorted forms.
use Rattle.std.specs.Prelude.{ℕ, Bool, true, false, List}
use Rattle.std.specs.Cmp.Lexicographic.{slice_cmp}
use Rattle.std.specs.Ordering.{nat_cmp, ordering_then}
use Rattle.std.specs.declared.cmp.Ordering.{Ordering}
use Rattle.std.specs.declared.cmp.Ordering.TheVariants.{Equal, Greater, Less}
use Rattle.dk_syntax.specs.Order.{compared}
use Rattle.dk_syntax.specs.declared.Kind.{Kind}
use Rattle.dk_syntax.specs.declared.Kind.TheVariants.{Function, Predicate}
use Rattle.dk_syntax.specs.declared.Literal.{Literal}
use Rattle.dk_syntax.specs.declared.SymKey.{SymKey}
use Rattle.dk_syntax.specs.declared.Term.{Term, Term-F, fold-Term, out-Term}
use Rattle.dk_syntax.specs.declared.Term.TheOpen.{Any, App, Var}

-- functions before predicates
abbrev pub kind_order : Kind → Kind → Ordering
kind_order Function Function = Equal
kind_order Function Predicate = Less
kind_order Predicate Function = Greater
kind_order Predicate Predicate = Equal

-- by the bytes of the names, then by the numbers of arguments, then by the kinds
abbrev pub symbol_order : SymKey → SymKey → Ordering
symbol_order f g =
    ordering_then (slice_cmp nat_cmp f.name g.name) (ordering_then (nat_cmp f.arity g.arity) (kind_order f.kind g.kind))

-- a variable against another argument: variables come first, by their numbers
abbrev pub variable_order : ℕ → Term-F Term → Ordering
variable_order i (Var j) = nat_cmp i j
variable_order i Any = Less
variable_order i (App g ys) = Less

-- Any against another argument: it comes after the variables
abbrev pub any_order : Term-F Term → Ordering
any_order (Var j) = Greater
any_order Any = Equal
any_order (App g ys) = Less

-- an application against another argument: applications come last, by their symbols, then by their arguments from left to right
abbrev pub application_order : SymKey → List (Term → Ordering) → Term-F Term → Ordering
application_order f xs (Var j) = Greater
application_order f xs Any = Greater
application_order f xs (App g ys) = ordering_then (symbol_order f g) (slice_cmp compared xs ys)

-- an argument's order against others, from that of its own arguments
abbrev pub argument_order_at : Term-F (Term → Ordering) → Term → Ordering
argument_order_at (Var i) other = variable_order i (out-Term other)
argument_order_at Any other = any_order (out-Term other)
argument_order_at (App f xs) other = application_order f xs (out-Term other)

-- variables first, then Any, then applications
abbrev pub argument_order : Term → Term → Ordering
argument_order = fold-Term (Term → Ordering) argument_order_at

-- a negative sign before a positive one
abbrev pub sign_order : Bool → Bool → Ordering
sign_order false false = Equal
sign_order false true = Less
sign_order true false = Greater
sign_order true true = Equal

-- by the signs, then by the predicates, then by the arguments from left to right
abbrev pub literal_order : Literal → Literal → Ordering
literal_order l m =
    ordering_then (sign_order l.positive m.positive) (ordering_then (symbol_order l.pred m.pred) (slice_cmp argument_order l.args m.args))
