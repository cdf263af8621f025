-- Words about lists that the standard library lacks.
use Rattle.std.specs.Prelude.{ℕ, zero, suc, Bool, true, false, ◌&&◌, ◌||◌, List, [], ◌∷◌}

-- each of the tests is true
abbrev pub all_true : List Bool → Bool
all_true [] = true
all_true (b ∷ rest) = b && all_true rest

-- one of the tests is true
abbrev pub any_true : List Bool → Bool
any_true [] = false
any_true (b ∷ rest) = b || any_true rest

-- each element of a list has the property
pub data Every {A : Type 0} (p : A → Type 0) : List A → Type 0 where
  every_nil : Every p []
  every_cons : {a : A} {l : List A} → p a → Every p l → Every p (a ∷ l)

-- the two lists are as long as one another, and the relation holds place by place
pub data Each {A B : Type 0} (r : A → B → Type 0) : List A → List B → Type 0 where
  each_nil : Each r [] []
  each_cons : {a : A} {b : B} {l : List A} {m : List B} → r a b → Each r l m → Each r (a ∷ l) (b ∷ m)

-- the list has this element at this place
pub data Entry {A : Type 0} : List A → ℕ → A → Type 0 where
  entry_here : (a : A) (l : List A) → Entry (a ∷ l) zero a
  entry_later : {l : List A} {k : ℕ} {a : A} (b : A) → Entry l k a → Entry (b ∷ l) (suc k) a
