-- Which bytes are items, and where the first fault is.
use Rattle.std.specs.Prelude.{◌≡◌, ℕ, ◌-◌, ◌<◌, ◌≤◌, ◌⊎◌, true, false, Bool, List, [], ◌∷◌, length, Result, Ok, Err}
use Rattle.tptp_tokens.specs.declared.Token.{Token}
use Rattle.tptp_tokens.specs.Matter.{Skips}
use Rattle.tptp_tokens.specs.Nesting.{IsTooDeep}
use Rattle.tptp_tokens.specs.TokenLists.{AreTokens}
use Rattle.tptp_formulas.specs.Meaning.{too_deep}
use Rattle.tptp_text.specs.declared.fault.TptpFault.{TptpFault}
use Rattle.tptp_text.specs.declared.fault.TptpFault.TheVariants.{NotTptp, TooDeep, TooMany, Memory}
use Rattle.tptp_text.specs.declared.item.Item.{Item}
use Rattle.tptp_text.specs.Items.{IsItem}

-- An item begins here, and these bytes stand behind its full stop.
pub record BeginsItem (here : List ℕ) (item : Item) (after : List ℕ) : Type 0 where
  pub tokens : List Token
  pub are : AreTokens here tokens (46 ∷ after)
  pub reads : IsItem tokens item

-- No more than 1,000 brackets are unclosed at once among the tokens from here on.
abbrev pub IsFlat : List ℕ → Type 0
IsFlat here = (tokens : List Token) (stop : List ℕ) → AreTokens here tokens stop → IsTooDeep tokens → ⊥

-- The item that begins here is within the limits.
pub record IsWithin (here : List ℕ) (item : Item) : Type 0 where
  pub flat : IsFlat here
  pub shallow : too_deep item.body ≡ false

-- Any item at any place.
abbrev pub IsAny : List ℕ → Item → Type 0
IsAny here item = Unit {0}

-- `AreItems Allowed start bytes items there`: from here, at the start of a line or not, the bytes are whole items, each allowed
-- at its place, up to where a token begins or the bytes end.
pub data AreItems (Allowed : List ℕ → Item → Type 0) : Bool → List ℕ → List Item → List ℕ → Type 0 where
  NoItem : (start : Bool) (bytes there : List ℕ) → Skips start bytes there → AreItems Allowed start bytes [] there
  ItemFirst : (start : Bool) (bytes here : List ℕ) (item : Item) (after : List ℕ) (items : List Item) (there : List ℕ)
      → Skips start bytes here → BeginsItem here item after → Allowed here item → AreItems Allowed false after items there → AreItems Allowed start bytes (item ∷ items) there

-- The bytes of a text spell the items, whatever the limits.
abbrev pub Spells : List ℕ → List Item → Type 0
Spells bytes items = AreItems IsAny true bytes items []

-- The place of a fault: whole items within the limits stand before it, it isn't the end, and the fault is there.
pub record FaultAt (Is : ℕ → List ℕ → Type 0) (bytes : List ℕ) (at : ℕ) : Type 0 where
  pub items : List Item
  pub here : List ℕ
  pub front : AreItems IsWithin true bytes items here
  pub some : 0 < length here
  pub place : at ≡ length bytes - length here
  pub is : Is (length items) here

-- So many items stand before that there is room for no other.
abbrev pub IsFull : ℕ → List ℕ → Type 0
IsFull count here = count ≡ 65536

-- There is room, and more than 1,000 brackets are unclosed at once.
abbrev pub HasDeepBrackets : ℕ → List ℕ → Type 0
HasDeepBrackets count here = (count < 65536) × ((tokens : List Token) × (stop : List ℕ) × AreTokens here tokens stop × IsTooDeep tokens)

-- There is room, the brackets are not too deep, and no item begins.
abbrev pub HasNoItem : ℕ → List ℕ → Type 0
HasNoItem count here = (count < 65536) × IsFlat here × ((item : Item) (after : List ℕ) → BeginsItem here item after → ⊥)

-- There is room, the brackets are not too deep, and an item begins whose formula is too deep.
abbrev pub HasDeepFormula : ℕ → List ℕ → Type 0
HasDeepFormula count here = (count < 65536) × IsFlat here × ((item : Item) × (after : List ℕ) × BeginsItem here item after × (too_deep item.body ≡ true))

-- What the reader of a text may answer: its items, its first fault, or want of memory.
abbrev pub IsReadAnswer : List ℕ → Result (List Item) TptpFault → Type 0
IsReadAnswer bytes (Ok items) = AreItems IsWithin true bytes items [] × (length items ≤ 65536)
IsReadAnswer bytes (Err (NotTptp at)) = FaultAt HasNoItem bytes at
IsReadAnswer bytes (Err (TooDeep at)) = FaultAt HasDeepBrackets bytes at ⊎ FaultAt HasDeepFormula bytes at
IsReadAnswer bytes (Err (TooMany at)) = FaultAt IsFull bytes at
IsReadAnswer bytes (Err Memory) = Unit {0}
