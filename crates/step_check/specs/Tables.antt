-- Tables by the numbers of steps. Only private contracts cite this.
use Rattle.std.specs.Prelude.{◌≡◌, ◌≢◌, ℕ, List, Option, Some, None, get_or}

-- what stands at that number
abbrev pub at : {A : Type 0} → List (Option A) → ℕ → Option A
at slots i = get_or slots i None

-- what stands there is right
abbrev pub AreRight : {A : Type 0} → (ℕ → A → Type 0) → List (Option A) → Type 0
AreRight {A = A} IsRight slots = (i : ℕ) (item : A) → at slots i ≡ Some item → IsRight i item

-- something stands at that number
abbrev pub IsKnown : {A : Type 0} → List (Option A) → ℕ → Type 0
IsKnown {A = A} slots i = (item : A) × (at slots i ≡ Some item)

-- what stood there stands there still
abbrev pub Keeps : {A : Type 0} → List (Option A) → List (Option A) → Type 0
Keeps {A = A} old new = (i : ℕ) (item : A) → at old i ≡ Some item → at new i ≡ Some item
