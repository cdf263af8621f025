-- What an identifier means.
use Rattle.std.specs.Prelude.{ℕ, Bool, true, false, List, Option, Some, None, nat_eq}
use Rattle.std.specs.Cmp.Lexicographic.{pointwise}
use Rattle.std.specs.List.{list_any}
use Rattle.lp_read.specs.Scopes.{Scope, binder_of}
use Rattle.lp_term.specs.declared.Lp.{Lp}
use Rattle.lp_term.specs.declared.Lp.TheVariants.{Pat, Sym, Var}

abbrev pub is_listed : List (List ℕ) → List ℕ → Bool
is_listed names name = list_any (pointwise nat_eq name) names

abbrev pub symbol_or : Bool → List ℕ → Lp
symbol_or true name = Pat name
symbol_or false name = Sym name

abbrev pub variable_or : List (List ℕ) → List ℕ → Option ℕ → Lp
variable_or patterns name None = symbol_or (is_listed patterns name) name
variable_or patterns name (Some number) = Var number

-- an identifier that is bound around its place is that variable, the nearest one; any other is a pattern variable where it is
-- one of its rule, else a symbol
abbrev pub meaning : List (List ℕ) → Scope → List ℕ → Lp
meaning patterns scope name = variable_or patterns name (binder_of scope name)
