-- One substitution after another, and `Any` for what is unbound.
use Rattle.std.specs.Prelude.{ℕ, nat_lt, if◌then◌else◌, List, get_or, Option, Some, None}
use Rattle.dk_syntax.specs.declared.Term.{Term}
use Rattle.dk_syntax.specs.declared.Term.TheVariants.{Any, Var}
use Rattle.unifier.specs.Substitution.{value}
use Rattle.dk_syntax.specs.Terms.{substituted}

-- a variable's entry where `next` comes after the first list: the entries of both lists are given
abbrev pub composed_entry : List (Option Term) → Option Term → Option Term → Option Term
composed_entry next (Some t) other = Some (substituted (value next) t)
composed_entry next None other = other

-- the variable where it is bound, else Any
abbrev pub any_or_variable : Option Term → ℕ → Term
any_or_variable None j = Any
any_or_variable (Some t) j = Var j

-- Any for each unbound variable from `frozen` on
abbrev pub closing : ℕ → List (Option Term) → ℕ → Term
closing frozen s j = if nat_lt j frozen then Var j else any_or_variable (get_or s j None) j

-- a variable's entry in the closed list, from its entry in the list
abbrev pub closed_entry : ℕ → List (Option Term) → ℕ → Option Term → Option Term
closed_entry frozen s k (Some t) = Some (substituted (closing frozen s) t)
closed_entry frozen s k None = if nat_lt k frozen then None else Some Any
