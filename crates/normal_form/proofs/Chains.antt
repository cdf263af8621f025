-- The members of a sorted chain, in forms with and without numbers.
use Rattle.std.proofs.Common.{◌≡◌, Bool, true, false, List, [], ◌∷◌, ◌++◌, cond, refl, sym, ap, ◌∙◌, append_assoc, append-nil}
use Rattle.normal_form.proofs.Sorts.{all_in, put_in}

-- a member joined with each of the others, nested to the left
abbrev pub glue : {A : Type 0} → (A → A → A) → A → List A → A
glue join a [] = a
glue join a (b ∷ l) = glue join (join a b) l

-- the members nested to the left, or the form given where there is none
abbrev pub glue_all : {A : Type 0} → (A → A → A) → A → List A → A
glue_all join none [] = none
glue_all join none (a ∷ l) = glue join a l

module _ {A : Type 0} (after : A → A → Bool) (members : A → List A) where
  -- each is the only member of its own chain
  abbrev pub Single : List A → Type 0
  Single [] = Unit {0}
  Single (a ∷ l) = (members a ≡ a ∷ []) × Single l

  pub single_append : (l m : List A) → Single l → Single m → Single (l ++ m)
  single_append [] m h k = k
  single_append (a ∷ l) m h k = (h.0, single_append l m h.1 k)

  single_put : (a : A) (l : List A) → members a ≡ a ∷ [] → Single l → Single (put_in after a l)
  single_put a [] h k = (h, tt)
  single_put a (b ∷ l) h k = by_test (after a b) (single_put a l h k.1)
    where
      by_test : (t : Bool) → Single (put_in after a l) → Single (cond t (b ∷ put_in after a l) (a ∷ b ∷ l))
      by_test true w = (k.0, w)
      by_test false w = (h, k)

  single_sort : (l : List A) → Single l → Single (all_in after l [])
  single_sort [] h = tt
  single_sort (a ∷ l) h = single_put a (all_in after l []) h.0 (single_sort l h.1)

  put_some : (a : A) (l : List A) → put_in after a l ≡ [] → ⊥
  put_some a [] h = cc
  put_some a (b ∷ l) h = by_test (after a b) h
    where
      by_test : (t : Bool) → cond t (b ∷ put_in after a l) (a ∷ b ∷ l) ≡ [] → ⊥
      by_test true w = cc
      by_test false w = cc

  sort_some : (l : List A) → (l ≡ [] → ⊥) → all_in after l [] ≡ [] → ⊥
  sort_some [] h = λ w. h w
  sort_some (a ∷ l) h = put_some a (all_in after l [])

  module _ (join : A → A → A) (none : A) (split : (a b : A) → members (join a b) ≡ members a ++ members b) where
    members_glue : (a : A) (l : List A) → Single l → members (glue join a l) ≡ members a ++ l
    members_glue a [] h = sym (append-nil (members a))
    members_glue a (b ∷ l) h =
        members_glue (join a b) l h.1 ∙ ap (λ k. k ++ l) (split a b) ∙ append_assoc (members a) (members b) l ∙ ap (λ k. members a ++ (k ++ l)) h.0

    members_all : (l : List A) → (l ≡ [] → ⊥) → Single l → members (glue_all join none l) ≡ l
    members_all [] h k = absurd (h refl)
    members_all (a ∷ l) h k = members_glue a l k.1 ∙ ap (λ m. m ++ l) k.0

    -- a chain's members, sorted, are those of its sorted form
    pub members_sorted : (l : List A) → (l ≡ [] → ⊥) → Single l → members (glue_all join none (all_in after l [])) ≡ all_in after l []
    members_sorted l h k = members_all (all_in after l []) (sort_some l h) (single_sort l k)

pub append_some : {A : Type 0} (l m : List A) → (l ≡ [] → ⊥) → l ++ m ≡ [] → ⊥
append_some [] m h = λ w. h refl
append_some (a ∷ l) m h = λ w. cc
