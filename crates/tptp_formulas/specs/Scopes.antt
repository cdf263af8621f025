-- Names, where they are bound, and which variables are free.
use Rattle.std.specs.Prelude.{ℕ, Bool, if◌then◌else◌, List, [], ◌∷◌, ◌++◌, map, Option, Some, None, nat_eq}
use Rattle.std.specs.Cmp.Lexicographic.{pointwise}
use Rattle.std.specs.List.{list_any}
use Rattle.dk_syntax.specs.Symbols.{joined}
use Rattle.tptp_formulas.specs.declared.raw.Prefix.{Prefix}
use Rattle.tptp_formulas.specs.declared.raw.Prefix.TheVariants.{Exists, ForAll, Not}
use Rattle.tptp_formulas.specs.declared.raw.Raw.{Raw, Raw-F, fold-Raw}
use Rattle.tptp_formulas.specs.declared.raw.Raw.TheOpen as raw
use Rattle.tptp_formulas.specs.declared.raw.RawTerm.{RawTerm, RawTerm-F, fold-RawTerm}
use Rattle.tptp_formulas.specs.declared.raw.RawTerm.TheOpen as term

-- names of variables: of those that are bound around a place, the nearest last
abbrev pub Names : Type 0
Names = List (List ℕ)

-- the names that prefixes bind
abbrev pub names_of : List Prefix → Names
names_of [] = []
names_of (Not ∷ ps) = names_of ps
names_of (ForAll names ∷ ps) = names ++ names_of ps
names_of (Exists names ∷ ps) = names ++ names_of ps

-- the name is one of them
abbrev pub has_name : Names → List ℕ → Bool
has_name names name = list_any (pointwise nat_eq name) names

-- those of the names that are not bound
abbrev pub unbound : Names → Names → Names
unbound bound [] = []
unbound bound (name ∷ rest) = if has_name bound name then unbound bound rest else name ∷ unbound bound rest

-- the variables of a term, each as often as it occurs, from those of its arguments
abbrev pub term_variables_at : RawTerm-F Names → Names
term_variables_at (term.Variable name) = name ∷ []
term_variables_at (term.Apply name args) = joined args
term_variables_at (term.Number name) = []
term_variables_at (term.Distinct name) = []
term_variables_at (term.Dollar name args) = joined args

-- the variables of a term as they occur in the text
abbrev pub term_variables : RawTerm → Names
term_variables = fold-RawTerm Names term_variables_at

-- each of them where these names are bound
abbrev pub each : {A B : Type 0} → A → List (A → B) → List B
each bound [] = []
each bound (x ∷ xs) = x bound ∷ each bound xs

-- the free occurrences of variables, where names are bound around the formula, from those of its parts
abbrev pub free_at : Raw-F (Names → Names) → Names → Names
free_at (raw.Atom name args) bound = unbound bound (joined (map term_variables args))
free_at (raw.Dollar name args) bound = unbound bound (joined (map term_variables args))
free_at (raw.Equation comparison a b) bound = unbound bound (term_variables a ++ term_variables b)
free_at (raw.Unit prefixes inner) bound = inner (bound ++ names_of prefixes)
free_at (raw.Binary connective a b) bound = a bound ++ b bound
free_at (raw.Chain link first others) bound = first bound ++ joined (each bound others)

-- the free occurrences of variables in the order of the text, where these names are bound around the formula
abbrev pub free_in : Raw → Names → Names
free_in = fold-Raw (Names → Names) free_at

-- the list with the name at its end, unless the name is there
abbrev pub with_name : Names → List ℕ → Names
with_name names name = if has_name names name then names else names ++ name ∷ []

-- the list with each of the names, one by one
abbrev pub with_names : Names → Names → Names
with_names names [] = names
with_names names (name ∷ rest) = with_names (with_name names name) rest

-- the free variables, each once, in order of first occurrence in the text
abbrev pub free_names : Raw → Names
free_names f = with_names [] (free_in f [])

-- the first name, where there is one
abbrev pub first_name : Names → Option (List ℕ)
first_name [] = None
first_name (name ∷ rest) = Some name

-- the first free variable in the order of the text
abbrev pub first_free : Raw → Option (List ℕ)
first_free f = first_name (free_names f)
