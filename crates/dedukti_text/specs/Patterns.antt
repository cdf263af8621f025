-- The pattern variables of a term, by first occurrence.
use Rattle.std.specs.Prelude.{ℕ, if◌then◌else◌, List, [], ◌∷◌, ◌++◌, bytes_eq}
use Rattle.std.specs.List.{list_any}
use Rattle.lp_term.specs.declared.Lp.{Lp, Lp-F, fold-Lp}
use Rattle.lp_term.specs.declared.Lp.TheOpen.{Sort, Sym, Var, Pat, App, Lam, Pi}

abbrev pub patterns_at : Lp-F (List (List ℕ)) → List (List ℕ)
patterns_at Sort = []
patterns_at (Sym name) = []
patterns_at (Var number) = []
patterns_at (Pat name) = name ∷ []
patterns_at (App function argument) = function ++ argument
patterns_at (Lam domain body) = domain ++ body
patterns_at (Pi domain body) = domain ++ body

-- each occurrence of a pattern variable, from left to right
abbrev pub patterns_in : Lp → List (List ℕ)
patterns_in = fold-Lp (List (List ℕ)) patterns_at

-- the list with the name at its end, unless the name is there
abbrev pub with_name : List (List ℕ) → List ℕ → List (List ℕ)
with_name seen name = if list_any (bytes_eq name) seen then seen else seen ++ name ∷ []

-- the list with each of the names, one by one
abbrev pub with_names : List (List ℕ) → List (List ℕ) → List (List ℕ)
with_names seen [] = seen
with_names seen (name ∷ rest) = with_names (with_name seen name) rest

-- each pattern variable once, by first occurrence
abbrev pub pattern_names : Lp → List (List ℕ)
pattern_names t = with_names [] (patterns_in t)
