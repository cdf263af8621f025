-- What the signs and symbols of literals tell before any of them is made equal to another.
use Rattle.std.specs.Prelude.{◌≡◌, ℕ, ◌⊎◌, Bool, true, false, List, slice_get, Option, Some, None}
use Rattle.std.specs.List.{All}
use Rattle.dk_syntax.specs.declared.Literal.{Literal}
use Rattle.step_clause.specs.declared.slots.Pivots.{Pivots}
use Rattle.step_clause.specs.declared.slots.Slot.{Slot}

-- Some item has the property.
abbrev pub AnyOf : {X : Type 0} → (X → Type 0) → List X → Type 0
AnyOf Holds items = (k : ℕ) × (x : _) × (slice_get items k ≡ Some x) × Holds x

abbrev pub SameSymbol : Literal → Literal → Type 0
SameSymbol c d = (c.positive ≡ d.positive) × (c.pred ≡ d.pred)

-- The literal's symbol is that of the first pivot, where there was one.
abbrev pub HasPivotSymbol : Option Literal → Literal → Type 0
HasPivotSymbol None c = Unit {0}
HasPivotSymbol (Some e) c = c.pred ≡ e.pred

abbrev pub MayBePivot : Option Literal → Slot → Type 0
MayBePivot first slot = (slot.may_cut ≡ true) × HasPivotSymbol first slot.literal

-- A literal of the target has the literal's sign and symbol, or it may be a pivot.
abbrev pub MayBePicked : List Literal → Option Literal → Slot → Type 0
MayBePicked ds first slot = AnyOf (SameSymbol slot.literal) ds ⊎ MayBePivot first slot

abbrev pub MayBePivotOf : Bool → Option Literal → Slot → Type 0
MayBePivotOf sign first slot = MayBePivot first slot × (slot.literal.positive ≡ sign)

-- Each pivot that is wanted may still come.
abbrev pub PivotsMayCome : Pivots → List Slot → Type 0
PivotsMayCome pivots slots =
    (pivots.wants_positive ≡ true → AnyOf (MayBePivotOf true pivots.first) slots)
    × (pivots.wants_negative ≡ true → AnyOf (MayBePivotOf false pivots.first) slots)

-- All pivots may be of the literal's symbol: no other literal is in the way, and each wanted one may come.
abbrev pub AllowsPivot : List Literal → Pivots → List Slot → Literal → Type 0
AllowsPivot ds pivots slots e = All (MayBePicked ds (Some e)) slots × PivotsMayCome (record pivots { first = Some e }) slots

-- A literal that has none in the target of its sign and symbol has to be a pivot.
abbrev pub HasRoom : List Literal → Pivots → List Slot → Slot → Type 0
HasRoom ds pivots slots slot = AnyOf (SameSymbol slot.literal) ds ⊎ AllowsPivot ds pivots slots slot.literal
