-- Maps carried from a form to another with the same sorted form.
use Rattle.std.specs.Prelude.{ℕ, nat_lt, List, [], ◌∷◌, map, cond, get_or}
use Rattle.normal_form.specs.Renaming.{place_of}
use Rattle.normal_form.specs.Sorting.{existentials, sorted_form, universals}
use Rattle.normal_form.specs.declared.form.Nf.{Nf}
use Rattle.normal_form.specs.declared.sorting.Sorted.{Sorted}
use Rattle.step_skolem.specs.Images.{entry}
use Rattle.step_skolem.specs.declared.map.SkEntry.{SkEntry}

-- the number that stands in the second list where this one stands in the first
abbrev pub across : List ℕ → List ℕ → ℕ → ℕ
across from to n = get_or to (place_of from n) 0

-- an entry with other numbers for its existential and its universals
abbrev pub renumbered : (ℕ → ℕ) → (ℕ → ℕ) → SkEntry → SkEntry
renumbered universals existentials one = entry (existentials one.ex) one.symbol (map universals one.args)

-- the entry before the first that hasn't a smaller number
abbrev pub placed : SkEntry → List SkEntry → List SkEntry
placed one [] = one ∷ []
placed one (other ∷ rest) = cond (nat_lt other.ex one.ex) (other ∷ placed one rest) (one ∷ other ∷ rest)

-- the entries by their numbers
abbrev pub by_number : List SkEntry → List SkEntry
by_number [] = []
by_number (one ∷ rest) = placed one (by_number rest)

-- the map through the common form, with the entries in preorder of the new numbers
abbrev pub carried_by : Sorted → Sorted → List SkEntry → List SkEntry
carried_by from to entries = by_number (map (renumbered (across from.alls to.alls) (across from.exs to.exs)) entries)

-- the map of the first form, carried to the second, which has the same sorted form
abbrev pub carried : Nf → Nf → List SkEntry → List SkEntry
carried n r entries =
    by_number (map (renumbered (across (universals (sorted_form n)) (universals (sorted_form r))) (across (existentials (sorted_form n)) (existentials (sorted_form r)))) entries)
