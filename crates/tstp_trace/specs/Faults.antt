-- The first item at fault.
use Rattle.std.specs.Prelude.{◌≡◌, ℕ, ◌<◌, List, Option, Some, None, length, slice_get, take}
use Rattle.tptp_text.specs.declared.Item.{Item}

-- The faults of items: from the items before an item and from itself, its fault, where it has one.
abbrev pub Judgement : Type 0 → Type 0
Judgement Fault = List Item → Item → Option Fault

-- No item before the place is at fault.
abbrev pub AreSoundBefore : {Fault : Type 0} → Judgement Fault → List Item → ℕ → Type 0
AreSoundBefore judge items place =
    (earlier : ℕ) (item : Item) → earlier < place → slice_get items earlier ≡ Some item → judge (take earlier items) item ≡ None

-- No item is at fault.
abbrev pub AreSound : {Fault : Type 0} → Judgement Fault → List Item → Type 0
AreSound judge items = AreSoundBefore judge items (length items)

-- The fault is that of the first item at fault.
abbrev pub IsFirstFault : {Fault : Type 0} → Judgement Fault → List Item → Fault → Type 0
IsFirstFault judge items fault =
    (place : ℕ) × AreSoundBefore judge items place
    × ((item : Item) × (slice_get items place ≡ Some item) × (judge (take place items) item ≡ Some fault))
