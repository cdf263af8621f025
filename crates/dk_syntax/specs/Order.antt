-- The order of terms.
use Rattle.std.specs.Prelude.{ℕ, List}
use Rattle.std.specs.Cmp.Lexicographic.{slice_cmp}
use Rattle.std.specs.Ordering.{nat_cmp, ordering_then}
use Rattle.std.specs.declared.cmp.Ordering.{Ordering}
use Rattle.std.specs.declared.cmp.Ordering.TheVariants.{Equal, Greater, Less}
use Rattle.dk_syntax.specs.declared.symbol.SymKey.{SymKey}
use Rattle.dk_syntax.specs.declared.term.Term.{Term, Term-F, fold-Term, out-Term}
use Rattle.dk_syntax.specs.declared.term.Term.TheOpen.{Any, App, Var}

-- heads: by the bytes of their names, then by their numbers of arguments
abbrev pub head_order : SymKey → SymKey → Ordering
head_order f g = ordering_then (slice_cmp nat_cmp f.name g.name) (nat_cmp f.arity g.arity)

-- a term's order against other terms, applied to one of them
abbrev pub compared : (Term → Ordering) → Term → Ordering
compared order other = order other

-- Any against another term: it is the first
abbrev pub any_order : Term-F Term → Ordering
any_order Any = Equal
any_order (Var j) = Less
any_order (App g ys) = Less

-- a variable against another term: variables follow Any, by their numbers
abbrev pub var_order : ℕ → Term-F Term → Ordering
var_order i Any = Greater
var_order i (Var j) = nat_cmp i j
var_order i (App g ys) = Less

-- an application against another term: applications come last, by their heads, then by their arguments from left to right
abbrev pub app_order : SymKey → List (Term → Ordering) → Term-F Term → Ordering
app_order f xs Any = Greater
app_order f xs (Var j) = Greater
app_order f xs (App g ys) = ordering_then (head_order f g) (slice_cmp compared xs ys)

-- a term's order against other terms, from that of its arguments
abbrev pub order_at : Term-F (Term → Ordering) → Term → Ordering
order_at Any other = any_order (out-Term other)
order_at (Var i) other = var_order i (out-Term other)
order_at (App f xs) other = app_order f xs (out-Term other)

-- Any first, then by the head's name and number of arguments, then by the arguments from left to right
abbrev pub order_of : Term → Term → Ordering
order_of = fold-Term (Term → Ordering) order_at
