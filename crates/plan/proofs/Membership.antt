-- Members of lists, by cases.
use Rattle.std.proofs.Common.{◌≡◌, ◌⊎◌, zero, suc, List, [], ◌∷◌, ◌++◌, inl, inr, arith}
use Rattle.std.specs.List.{Contains}

-- the element is in the list
abbrev pub Among : {X : Type 0} → List X → X → Type 0
Among [] x = ⊥
Among (y ∷ ys) x = (y ≡ x) ⊎ Among ys x

pub among : {X : Type 0} (xs : List X) (x : X) → Contains xs x → Among xs x
among [] x (k, below, is) = absurd (omega (arith, below))
among (y ∷ ys) x (zero, below, is) = inl is
among (y ∷ ys) x (suc k, below, is) = inr (among ys x (k, omega (arith, below), is))

pub contained : {X : Type 0} (xs : List X) (x : X) → Among xs x → Contains xs x
contained [] x h = absurd h
contained (y ∷ ys) x (inl h) = (0, omega arith, h)
contained (y ∷ ys) x (inr h) = let r = contained ys x h in (suc r.0, omega (arith, r.1), r.2)

pub among_left : {X : Type 0} (xs ys : List X) (x : X) → Among xs x → Among (xs ++ ys) x
among_left [] ys x h = absurd h
among_left (y ∷ xs) ys x (inl h) = inl h
among_left (y ∷ xs) ys x (inr h) = inr (among_left xs ys x h)

pub among_right : {X : Type 0} (xs ys : List X) (x : X) → Among ys x → Among (xs ++ ys) x
among_right [] ys x h = h
among_right (y ∷ xs) ys x h = inr (among_right xs ys x h)

pub among_either : {X : Type 0} (xs ys : List X) (x : X) → Among (xs ++ ys) x → Among xs x ⊎ Among ys x
among_either [] ys x h = inr h
among_either (y ∷ xs) ys x (inl h) = inl (inl h)
among_either (y ∷ xs) ys x (inr h) = elim (among_either xs ys x h) [ inl l ↦ inl (inr l) | inr r ↦ inr r ]
