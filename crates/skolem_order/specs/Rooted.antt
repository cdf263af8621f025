-- What is asked of origins.
use Rattle.std.specs.Prelude.{◌≡◌, ℕ, nat_eq, List, length, Option, Some, IsTrue}
use Rattle.std.specs.List.{Contains, find}
use Rattle.dk_syntax.specs.WellFormed.{IsClosed, has_no_any}
use Rattle.dk_syntax.specs.declared.Kind.TheVariants.{Function}
use Rattle.dk_syntax.specs.declared.SymKey.{SymKey}
use Rattle.dk_syntax.specs.declared.Term.{Term}
use Rattle.normal_form.specs.Normal.{normal_of}
use Rattle.normal_form.specs.declared.Nf.{Nf}
use Rattle.skolem_order.specs.Origins.{args_for, args_of, origin_for, origin_of_term}
use Rattle.skolem_order.specs.declared.origins.Origin.{Origin}
use Rattle.step_skolem.specs.Images.{entry, IsImage}
use Rattle.step_skolem.specs.declared.SkEntry.{SkEntry}

-- The origin's map leads from its leaf's normal form to an image, and has its own entry. For each entry of the map there is an
-- origin with its symbol, its number and the same signed leaf, and in the map of that origin the same entry stands.
pub record IsRooted (origins : List Origin) (origin : Origin) : Type 0 where
  pub image : Nf
  pub leads : IsImage (normal_of origin.leaf origin.sign) origin.map.entries image
  pub args : List ℕ
  pub own : Contains origin.map.entries (entry origin.ex origin.symbol args)
  pub others : (one : SkEntry) → Contains origin.map.entries one
      → (other : Origin) × (origin_for origins one.symbol ≡ Some other) × (other.leaf ≡ origin.leaf) × (other.sign ≡ origin.sign) × (other.ex ≡ one.ex) × Contains other.map.entries one

-- the same of the origin of each symbol
abbrev pub AreRooted : List Origin → Type 0
AreRooted origins = (symbol : SymKey) (origin : Origin) → origin_for origins symbol ≡ Some origin → IsRooted origins origin

-- the term has as many arguments as its symbol's own entry
abbrev pub IsSized : List Origin → Term → Type 0
IsSized origins t = (origin : Origin) → origin_of_term origins t ≡ Some origin → length (args_of t) ≡ length (args_for origin.map.entries origin.ex)

-- the symbols of the origins are functions
abbrev pub HaveFunctions : List Origin → Type 0
HaveFunctions origins = (origin : Origin) → Contains origins origin → origin.symbol.kind ≡ Function

-- the leaf of the term's origin is closed, and Any stands nowhere in it
abbrev pub HasProperLeaf : List Origin → Term → Type 0
HasProperLeaf origins t = (origin : Origin) → origin_of_term origins t ≡ Some origin → IsClosed origin.leaf × IsTrue (has_no_any origin.leaf)

-- the first entry for the existential
abbrev pub entry_for : List SkEntry → ℕ → Option SkEntry
entry_for entries e = find (λ one. nat_eq one.ex e) entries

-- the second map has the entries of the first one for the same existentials
abbrev pub IsLonger : List SkEntry → List SkEntry → Type 0
IsLonger entries longer = (e : ℕ) (one : SkEntry) → entry_for entries e ≡ Some one → entry_for longer e ≡ Some one
