-- Marks of the variables that stand in terms. Only private contracts cite this.
use Rattle.std.specs.Prelude.{◌≡◌, ◌⊎◌, ℕ, Bool, true, false, List, get_or, map}
use Rattle.dk_syntax.specs.Terms.{any_true, has_variable}
use Rattle.dk_syntax.specs.declared.term.Term.{Term}

-- a variable that is marked now was marked before or stands in the terms
abbrev pub Marks : List Bool → List Term → List Bool → Type 0
Marks old ts new = (k : ℕ) → get_or new k false ≡ true → (get_or old k false ≡ true) ⊎ (any_true (map (has_variable k) ts) ≡ true)
