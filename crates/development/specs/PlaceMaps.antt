-- Places of hypotheses by their names.
use Rattle.std.specs.Prelude.{ℕ, ◌+◌, cond, List, [], ◌∷◌, Option, None, Some}
use Rattle.dk_syntax.specs.declared.Named.{Named}
use Rattle.step_check.specs.Steps.{has_name}

-- the place of the first of that name, where the first of all has this place
abbrev pub place_from : List ℕ → ℕ → List Named → Option ℕ
place_from name first [] = None
place_from name first (one ∷ rest) = cond (has_name name one) (Some first) (place_from name (first + 1) rest)
