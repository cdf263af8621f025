-- Two maps one after the other.
use Rattle.std.specs.Prelude.{◌≡◌, ℕ, suc, ◌+◌, nat_lt, List, [], ◌∷◌, ◌++◌, map, cond}
use Rattle.step_skolem.specs.Images.{entry}
use Rattle.step_skolem.specs.declared.map.SkEntry.{SkEntry}

-- the entry of an existential before which so many were replaced
abbrev pub raised : ℕ → SkEntry → SkEntry
raised replaced one = entry (one.ex + replaced) one.symbol one.args

-- the entries of the second map that come before an entry of the first, this entry, and the rest
abbrev pub joined_at : ℕ → SkEntry → (List SkEntry → List SkEntry) → List SkEntry → List SkEntry
joined_at replaced one join [] = one ∷ join []
joined_at replaced one join (other ∷ next) =
    cond (nat_lt (other.ex + replaced) one.ex) (raised replaced other ∷ joined_at replaced one join next) (one ∷ join (other ∷ next))

-- the entries of both maps by their numbers in the first form, of which so many were replaced before
abbrev pub joined_from : ℕ → List SkEntry → List SkEntry → List SkEntry
joined_from replaced [] next = map (raised replaced) next
joined_from replaced (one ∷ first) next = joined_at replaced one (joined_from (suc replaced) first) next

-- The map that leads from the first form to the image under both: the second map's numbers are those of existentials that
-- the first one keeps.
abbrev pub chained : List SkEntry → List SkEntry → List SkEntry
chained = joined_from 0

-- From what was put before and the entries left of the second map, what was put with all of them that come before an
-- entry of the first, and those that are left then: whatever joins the rest.
abbrev pub JoinsBefore : ℕ → SkEntry → List SkEntry → List SkEntry → List SkEntry → List SkEntry → Type 0
JoinsBefore replaced one before next after left =
    (join : List SkEntry → List SkEntry) → after ++ one ∷ join left ≡ before ++ joined_at replaced one join next
