-- Laws on the members of a list.
use Rattle.std.proofs.Common.{◌≡◌, ℕ, zero, suc, ◌+◌, ◌<◌, List, [], ◌∷◌, length, get_or, drop, drop-cons, add-one, Contains, ◌⊎◌, inl, inr, subst, arith, refl}
use Rattle.std.proofs.lemmas.Bool.{cases_eq}

-- nothing stands in an empty list
pub none_in_nothing : (n : ℕ) → Contains [] n → ⊥
none_in_nothing n h = omega (arith, h.1)

-- a member of a list is its first or one of the rest
pub contains_cons : (first q : ℕ) (rest : List ℕ) → Contains (first ∷ rest) q → (first ≡ q) ⊎ Contains rest q
contains_cons first q rest h = at h.0 h.1 h.2
  where
    at : (k : ℕ) → k < length (first ∷ rest) → get_or (first ∷ rest) k q ≡ q → (first ≡ q) ⊎ Contains rest q
    at zero below is = inl is
    at (suc k) below is = inr (k, omega arith, is)

-- a member of what is left is the next item or stands after it
pub next_or_later : (xs : List ℕ) (i q : ℕ) → i < length xs → Contains (drop i xs) q → (get_or xs i 0 ≡ q) ⊎ Contains (drop (i + 1) xs) q
next_or_later xs i q below h = rw add-one (contains_cons (get_or xs i 0) q (drop (suc i) xs) (subst (λ l. Contains l q) (drop-cons xs i 0 below) h))

-- the first of a list is a member, and so is each member of the rest
pub contains_first : (first : ℕ) (rest : List ℕ) → Contains (first ∷ rest) first
contains_first first rest = (zero, omega arith, refl)

pub contains_later : (first q : ℕ) (rest : List ℕ) → Contains rest q → Contains (first ∷ rest) q
contains_later first q rest h = (suc h.0, omega (arith, h.1), h.2)

-- a number is a member or not
pub member_or_not : (xs : List ℕ) (q : ℕ) → Contains xs q ⊎ (Contains xs q → ⊥)
member_or_not [] q = inr (none_in_nothing q)
member_or_not (x ∷ xs) q = elim (cases_eq x q) [
  | inl same ↦ inl (subst (λ y. Contains (x ∷ xs) y) same (contains_first x xs))
  | inr differs ↦ elim (member_or_not xs q) [
    | inl later ↦ inl (contains_later x q xs later)
    | inr absent ↦ inr (λ h. elim (contains_cons x q xs h) [ inl same ↦ differs same | inr later ↦ absent later ])
  ]
]
