-- Names of which no more than 1,001 are kept.
use Rattle.std.specs.Prelude.{ℕ, nat_lt, ◌||◌, if◌then◌else◌, List, [], ◌∷◌, ◌++◌, length}
use Rattle.tptp_formulas.specs.Scopes.{Names, has_name}

-- the list with the name at its end, unless the name is there or the list has more than 1,000
abbrev pub with_few : Names → List ℕ → Names
with_few names name = if nat_lt 1000 (length names) || has_name names name then names else names ++ name ∷ []

-- the list with each of the names, one by one, as far as there is room
abbrev pub few_names : Names → Names → Names
few_names names [] = names
few_names names (name ∷ rest) = few_names (with_few names name) rest
