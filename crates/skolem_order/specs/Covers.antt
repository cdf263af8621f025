-- What may be free in an existential that a map replaces.
use Rattle.std.specs.Prelude.{◌≡◌, ℕ, zero, suc, true, List, [], ◌∷◌}
use Rattle.std.specs.List.{Contains}
use Rattle.dk_syntax.specs.declared.SymKey.{SymKey}
use Rattle.normal_form.specs.ClauseLists.{has_number}
use Rattle.normal_form.specs.Occurrence.{in_formula}
use Rattle.skolem_order.specs.Spots.{Spot}
use Rattle.skolem_order.specs.declared.walk.Around.{Around}
use Rattle.skolem_order.specs.declared.walk.Around.TheVariants.{Existential, Universal, Vacant}
use Rattle.step_skolem.specs.Images.{entry}
use Rattle.step_skolem.specs.declared.SkEntry.{SkEntry}

-- the quantifier around that has the variable
abbrev pub IsAt : List Around → ℕ → Around → Type 0
IsAt [] k a = ⊥
IsAt (x ∷ around) zero a = x ≡ a
IsAt (x ∷ around) (suc k) a = IsAt around k a

-- a universal among the arguments, or an existential that the map replaces by a term over these
abbrev pub Good : List SkEntry → List ℕ → Around → Type 0
Good entries args (Universal n) = has_number args n ≡ true
Good entries args (Existential e) =
    (symbol : SymKey) × (numbers : List ℕ) × Contains entries (entry e symbol numbers) × ((n : ℕ) → has_number numbers n ≡ true → has_number args n ≡ true)
Good entries args Vacant = Unit {0}

-- each variable that occurs in the existential's formula belongs to such a quantifier
abbrev pub Covered : List SkEntry → List ℕ → Spot → Type 0
Covered entries args x = (k : ℕ) (a : Around) → in_formula x.formula k ≡ true → IsAt x.around k a → Good entries args a
