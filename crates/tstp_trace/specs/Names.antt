-- Lists of names.
use Rattle.std.specs.Prelude.{◌≡◌, ℕ, nat_eq, Bool, if◌then◌else◌, List, [], ◌∷◌, ◌++◌, Some, slice_get, ◌⊎◌, ◌<◌, length, map, Vec}
use Rattle.std.specs.declared.alloc.Global.{Global}
use Rattle.std.specs.Cmp.Lexicographic.{pointwise}
use Rattle.std.specs.List.{list_any}

-- No two places of the list have one name.
abbrev pub AreDistinct : List (List ℕ) → Type 0
AreDistinct names = (j k : ℕ) (name : List ℕ) → slice_get names j ≡ Some name → slice_get names k ≡ Some name → j ≡ k

-- the name is one of the list
abbrev pub is_among : List (List ℕ) → List ℕ → Bool
is_among names name = list_any (pointwise nat_eq name) names

-- the list with the name at its end, unless it is there
abbrev pub with_name : List (List ℕ) → List ℕ → List (List ℕ)
with_name seen name = if is_among seen name then seen else seen ++ name ∷ []

-- the list with each of the names, one by one
abbrev pub with_names : List (List ℕ) → List (List ℕ) → List (List ℕ)
with_names seen [] = seen
with_names seen (name ∷ rest) = with_names (with_name seen name) rest

-- each name once, by first occurrence
abbrev pub each_once : List (List ℕ) → List (List ℕ)
each_once names = with_names [] names

-- Each name once, or, of more names than the limit, as many as show that. Only private contracts cite this.
abbrev pub AreOnce : ℕ → List (List ℕ) → List (List ℕ) → Type 0
AreOnce limit names once = (once ≡ each_once names) ⊎ ((limit < length once) × (limit < length (each_once names)))

-- the bytes of each vector
abbrev pub bytes_of : List (Vec ℕ Global) → List (List ℕ)
bytes_of keys = map (λ key. key.items) keys
