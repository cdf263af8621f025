-- The names of a problem are distinct.
use Rattle.std.proofs.Common.{◌≡◌, ℕ, zero, suc, ◌+◌, Bool, true, false, if◌then◌else◌, List, [], ◌∷◌, ◌++◌, Some, length, map, take, filter, slice_get, ◌⊎◌, inl, inr, refl, subst, sym, ap, ◌∙◌, arith}
use Rattle.std.proofs.lemmas.Option.{none-some, same_Some, slice_get_within}
use Rattle.std.specs.Prelude.{option_to_list}
use Rattle.std.specs.List.{list_any}
use Rattle.tptp_text.specs.declared.Body.{Body}
use Rattle.tptp_text.specs.declared.Item.{Item}
use Rattle.dk_syntax.specs.declared.Named.{Named}
use Rattle.dk_syntax.specs.declared.Problem.{Problem}
use Rattle.tstp_trace.specs.Names.{AreDistinct, is_among}
use Rattle.tstp_trace.specs.Problems.{is_conjecture, is_hypothesis, IsProblemOf, names_of, part_of_item, part_of_named}
use Rattle.tstp_trace.proofs.DistinctLaws.{distinct_names}
use Rattle.tstp_trace.proofs.ProblemLaws.{no_hypothesis, sound_item}
use Rattle.tstp_trace.proofs.TraceLaws.{item_at, made_at, made_of_made, take_of_made}

-- the names of items
abbrev item_names : List Item → List (List ℕ)
item_names items = map (λ (item : Item). item.name) items

-- a kept item passes, and stands among the items
kept_item : (p : Item → Bool) (items : List Item) (k : ℕ) (item : Item) → slice_get (filter p items) k ≡ Some item → (place : ℕ) × (slice_get items place ≡ Some item) × (p item ≡ true)
kept_item p [] k item here = absurd (none-some item here)
kept_item p (first ∷ rest) k item here = by_test (kept_item p rest) (p first) refl k here
  where
    by_test : ((k : ℕ) (item : Item) → slice_get (filter p rest) k ≡ Some item → (place : ℕ) × (slice_get rest place ≡ Some item) × (p item ≡ true)) → (b : Bool) → p first ≡ b → (k : ℕ)
        → slice_get (if b then first ∷ filter p rest else filter p rest) k ≡ Some item → (place : ℕ) × (slice_get (first ∷ rest) place ≡ Some item) × (p item ≡ true)
    by_test later true e zero at = (zero, at, subst (λ x. p x ≡ true) (same_Some first item at) e)
    by_test later true e (suc k) at = let r = later k item at in (suc r.0, r.1, r.2)
    by_test later false e k at = let r = later k item at in (suc r.0, r.1, r.2)

-- the items with distinct names but the first
later_distinct : (first : List ℕ) (rest : List (List ℕ)) → AreDistinct (first ∷ rest) → AreDistinct rest
later_distinct first rest distinct j k name at_j at_k = let e = distinct (suc j) (suc k) name at_j at_k in omega arith

-- kept items with one name are one
kept_distinct : (p : Item → Bool) (items : List Item) → AreDistinct (item_names items) → AreDistinct (item_names (filter p items))
kept_distinct p [] distinct = distinct
kept_distinct p (first ∷ rest) distinct = by_test (kept_distinct p rest (later_distinct first.name (item_names rest) distinct)) (p first)
  where
    apart : (k : ℕ) (name : List ℕ) → slice_get (item_names (filter p rest)) k ≡ Some name → first.name ≡ name → ⊥
    apart k name at same =
        let x = item_at (λ (item : Item). item.name) (filter p rest) k name at in
        let y = kept_item p rest k x.0 x.1 in
        let z : slice_get (item_names rest) y.0 ≡ Some name = made_at (λ (item : Item). item.name) rest y.0 x.0 y.1 ∙ ap Some x.2 in
        let e = distinct zero (suc y.0) name (ap Some same) z in omega arith

    by_test : AreDistinct (item_names (filter p rest)) → (b : Bool) → AreDistinct (item_names (if b then first ∷ filter p rest else filter p rest))
    by_test later false j k name at_j at_k = later j k name at_j at_k
    by_test later true zero zero name at_j at_k = refl
    by_test later true zero (suc k) name at_j at_k = absurd (apart k name at_k (same_Some first.name name at_j))
    by_test later true (suc j) zero name at_j at_k = absurd (apart j name at_j (same_Some first.name name at_k))
    by_test later true (suc j) (suc k) name at_j at_k = ap suc (later j k name at_j at_k)

-- a place in two lists in a row is one of the first or of the second
in_a_row : (xs ys : List (List ℕ)) (k : ℕ) (name : List ℕ) → slice_get (xs ++ ys) k ≡ Some name → (slice_get xs k ≡ Some name) ⊎ ((i : ℕ) × (k ≡ length xs + i) × (slice_get ys i ≡ Some name))
in_a_row [] ys k name at = inr (k, omega arith, at)
in_a_row (x ∷ xs) ys zero name at = inl at
in_a_row (x ∷ xs) ys (suc k) name at = elim (in_a_row xs ys k name at) [
  | inl first ↦ inl first
  | inr second ↦ inr (second.0, (let e = second.1 in omega arith), second.2)
]

-- distinct names in a row, of which none stands in both lists
row_distinct : (xs ys : List (List ℕ)) → AreDistinct xs → AreDistinct ys → ((j k : ℕ) (name : List ℕ) → slice_get xs j ≡ Some name → slice_get ys k ≡ Some name → ⊥) → AreDistinct (xs ++ ys)
row_distinct xs ys first second apart j k name at_j at_k = elim (in_a_row xs ys j name at_j) [
  | inl a ↦ elim (in_a_row xs ys k name at_k) [
    | inl b ↦ first j k name a b
    | inr b ↦ absurd (apart j b.0 name a b.2)
  ]
  | inr a ↦ elim (in_a_row xs ys k name at_k) [
    | inl b ↦ absurd (apart k a.0 name b a.2)
    | inr b ↦ let e = second a.0 b.0 name a.2 b.2 in let f = a.1 in let g = b.1 in omega arith
  ]
]

-- the names of the items of a problem
items_distinct : (items : List Item) (problem : Problem) → IsProblemOf items problem → AreDistinct (item_names items)
items_distinct items problem h = distinct_names (item_names items) (λ k name here.
    let at = item_at (λ (item : Item). item.name) items k name here in
    let fresh = (sound_item (item_names (take k items)) (list_any is_conjecture (take k items)) (length (take k items) + 1) at.0 (h.sound k at.0 (slice_get_within items k at.0 at.1) at.1)).fresh in
    subst (λ n. is_among (take k (item_names items)) n ≡ false) at.2 (subst (λ l. is_among l at.0.name ≡ false) (take_of_made (λ (item : Item). item.name) k items) fresh))

-- no hypothesis has the name of a conjecture
kinds_apart : (items : List Item) → AreDistinct (item_names items) → (j k : ℕ) (name : List ℕ) → slice_get (item_names (filter is_hypothesis items)) j ≡ Some name → slice_get (item_names (filter is_conjecture items)) k ≡ Some name → ⊥
kinds_apart items distinct j k name at_j at_k =
    let x = item_at (λ (item : Item). item.name) (filter is_hypothesis items) j name at_j in
    let a = kept_item is_hypothesis items j x.0 x.1 in
    let y = item_at (λ (item : Item). item.name) (filter is_conjecture items) k name at_k in
    let b = kept_item is_conjecture items k y.0 y.1 in
    let same = distinct a.0 b.0 name (made_at (λ (item : Item). item.name) items a.0 x.0 a.1 ∙ ap Some x.2) (made_at (λ (item : Item). item.name) items b.0 y.0 b.1 ∙ ap Some y.2) in
    let one : x.0 ≡ y.0 = same_Some x.0 y.0 (sym a.1 ∙ (ap (slice_get items) same ∙ b.1)) in
    let hypothesis : is_hypothesis y.0 ≡ true = subst (λ i. is_hypothesis i ≡ true) one a.2 in
    let other = no_hypothesis y.0 b.2 in cc

-- the names of named formulas by their parts
names_by_parts : (named : List Named) (items : List Item) → map part_of_named named ≡ map part_of_item items → map (λ (one : Named). one.name) named ≡ item_names items
names_by_parts named items e =
    sym (made_of_made part_of_named (λ (part : List ℕ × Body). part.0) named) ∙ (ap (map (λ (part : List ℕ × Body). part.0)) e ∙ made_of_made part_of_item (λ (part : List ℕ × Body). part.0) items)

pub distinct_problem : (items : List Item) (problem : Problem) → IsProblemOf items problem → AreDistinct (names_of problem)
distinct_problem items problem h =
    let distinct = items_distinct items problem h in
    let first = names_by_parts problem.hyps (filter is_hypothesis items) h.hypotheses in
    let second = names_by_parts (option_to_list problem.conjecture) (filter is_conjecture items) h.conjecture in
    let row = row_distinct (item_names (filter is_hypothesis items)) (item_names (filter is_conjecture items)) (kept_distinct is_hypothesis items distinct) (kept_distinct is_conjecture items distinct) (kinds_apart items distinct) in
    subst AreDistinct (ap (λ l. l ++ item_names (filter is_conjecture items)) (sym first) ∙ ap (λ l. map (λ (one : Named). one.name) problem.hyps ++ l) (sym second)) row
