-- What is bound around a place, and what an identifier means there.
use Rattle.std.specs.Prelude.{ℕ, suc, Bool, false, List, [], ◌∷◌, Option, Some, None, nat_eq, if◌then◌else◌, option_map}
use Rattle.std.specs.Cmp.Lexicographic.{pointwise}
use Rattle.lp_term.specs.declared.Lp.{Lp}
use Rattle.lp_term.specs.declared.Lp.TheVariants.{Sym, Var}

-- the names of the binders around a place, the nearest one first; an arrow binds no name
abbrev pub Scope : Type 0
Scope = List (Option (List ℕ))

-- whether a binder is of that name
abbrev pub is_bound : Option (List ℕ) → List ℕ → Bool
is_bound None name = false
is_bound (Some bound) name = pointwise nat_eq bound name

-- how many binders stand between the place and the nearest one of that name
abbrev pub binder_of : Scope → List ℕ → Option ℕ
binder_of [] name = None
binder_of (binder ∷ scope) name = if is_bound binder name then Some 0 else option_map suc (binder_of scope name)

abbrev pub variable_or : List ℕ → Option ℕ → Lp
variable_or name None = Sym name
variable_or name (Some number) = Var number

-- an identifier that is bound around its place is that variable, the nearest one, and any other is a symbol
abbrev pub meaning : Scope → List ℕ → Lp
meaning scope name = variable_or name (binder_of scope name)

-- one binder further out
abbrev pub tail_of : Scope → Scope
tail_of [] = []
tail_of (name ∷ scope) = scope
