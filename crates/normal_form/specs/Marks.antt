-- Marks for the variables of the quantifiers around a formula.
use Rattle.std.specs.Prelude.{ℕ, ◌≡◌, ◌+◌, Bool, false, ◌||◌, List, get_or, length}

-- The marks stand in the order of the quantifiers, so that the last one is variable 0's. The new ones are
-- the old ones, and those of the variables that occur.
pub record Marked (occurs : ℕ → Bool) (old new : List Bool) : Type 0 where
  pub long : length new ≡ length old
  pub marks : (place k : ℕ) → place + k + 1 ≡ length old → get_or new place false ≡ (get_or old place false || occurs k)
