-- What a search for picks answers, in terms of bindings. The literals of the parents' clauses stand in one list,
-- with variables of their own.
use Rattle.std.specs.Prelude.{◌≡◌, ℕ, ◌⊎◌, Bool, true, false, List, [], ◌∷◌, map, length, slice_get, Option, Some, None}
use Rattle.std.specs.List.{All}
use Rattle.dk_syntax.specs.declared.Literal.{Literal}
use Rattle.dk_syntax.specs.declared.Term.{Term}
use Rattle.unifier.specs.Outcomes.{Sound, Extended}
use Rattle.unifier.specs.Substitution.{Fixes, Refines}
use Rattle.dk_syntax.specs.Terms.{substituted, EachBelow}
use Rattle.step_clause.specs.Candidates.{IsListBefore}
use Rattle.step_clause.specs.declared.search.Found.{Found}
use Rattle.step_clause.specs.declared.slots.Pivots.{Pivots}
use Rattle.step_clause.specs.declared.slots.Slot.{Slot}

-- The atoms of two literals are equal under the substitution; the signs are equal too.
abbrev pub SameAtom : (ℕ → Term) → Literal → Literal → Type 0
SameAtom r c d = (c.pred ≡ d.pred) × (map (substituted r) c.args ≡ map (substituted r) d.args)

abbrev pub SameLiteral : (ℕ → Term) → Literal → Literal → Type 0
SameLiteral r c d = (c.positive ≡ d.positive) × SameAtom r c d

-- The literal is equal to the one at the pick.
abbrev pub AtPick : (ℕ → Term) → List Literal → Literal → ℕ → Type 0
AtPick r ds c p = (d : Literal) × (slice_get ds p ≡ Some d) × SameLiteral r c d

-- The literal's atom is equal to that of the first pivot, where there was one.
abbrev pub SamePivot : (ℕ → Term) → Option Literal → Literal → Type 0
SamePivot r None c = Unit {0}
SamePivot r (Some e) c = SameAtom r c e

-- The first pivot, where the literal is one more pivot.
abbrev pub first_pivot : Option Literal → Literal → Option Literal
first_pivot None c = Some c
first_pivot (Some e) c = Some e

-- What is known of the pivots after one more.
abbrev pub after_sign : Bool → Option Literal → Pivots → Pivots
after_sign true first pivots = record { first = first; wants_positive = false; wants_negative = pivots.wants_negative }
after_sign false first pivots = record { first = first; wants_positive = pivots.wants_positive; wants_negative = false }

abbrev pub after_pivot : Pivots → Literal → Pivots
after_pivot pivots c = after_sign c.positive (first_pivot pivots.first c) pivots

-- Each literal is equal to the one at its pick or is a pivot, and no wanted pivot is missing in the end.
abbrev pub Fits : (ℕ → Term) → List Literal → Pivots → List Slot → List ℕ → Type 0
Fits r ds pivots [] [] = (pivots.wants_positive ≡ false) × (pivots.wants_negative ≡ false)
Fits r ds pivots [] (p ∷ ps) = ⊥
Fits r ds pivots (slot ∷ slots) [] = ⊥
Fits r ds pivots (slot ∷ slots) (p ∷ ps) =
    (AtPick r ds slot.literal p × Fits r ds pivots slots ps)
    ⊎ ((p ≡ length ds) × (slot.may_cut ≡ true) × SamePivot r pivots.first slot.literal × Fits r ds (after_pivot pivots slot.literal) slots ps)

-- No picks have the property under a substitution that refines the bindings.
abbrev pub NoneExtends : ℕ → ((ℕ → Term) → List ℕ → Type 0) → List (Option Term) → Type 0
NoneExtends frozen Q s = (qs : List ℕ) (r : ℕ → Term) → Fixes frozen r → Refines s r → Q r qs → ⊥

-- The picks have the property under the bindings n, which are as general as can be, and no earlier picks have it
-- under a substitution that refines s.
pub record LeastExtension (frozen : ℕ) (Q : (ℕ → Term) → List ℕ → Type 0) (s : List (Option Term)) (picks : List ℕ) (n : List (Option Term)) : Type 0 where
  pub long : length n ≡ length s
  pub sound : Sound frozen n
  pub extended : Extended frozen (λ r. Q r picks) s n
  pub least : (qs : List ℕ) (r : ℕ → Term) → Fixes frozen r → Refines s r → Q r qs → IsListBefore qs picks → ⊥

-- The answer has the least picks with the property, or none where none has it.
abbrev pub IsFound : ℕ → ((ℕ → Term) → List ℕ → Type 0) → List (Option Term) → Option Found → Type 0
IsFound frozen Q s None = NoneExtends frozen Q s
IsFound frozen Q s (Some found) = LeastExtension frozen Q s found.picks found.bindings.terms

-- The literal is equal to a literal of the target, and the rest of the literals fit.
abbrev pub FitsAfter : List Literal → Pivots → Literal → Literal → List Slot → (ℕ → Term) → List ℕ → Type 0
FitsAfter ds pivots c d rest r qs = SameLiteral r c d × Fits r ds pivots rest qs

-- The literal is a pivot, and the rest of the literals fit.
abbrev pub FitsAsPivot : List Literal → Pivots → Slot → List Slot → (ℕ → Term) → List ℕ → Type 0
FitsAsPivot ds pivots slot rest r qs =
    (slot.may_cut ≡ true) × SamePivot r pivots.first slot.literal × Fits r ds (after_pivot pivots slot.literal) rest qs

-- The least picks of which the first is that of a literal of the target, or none where none fits.
abbrev pub IsFoundAtLiteral : ℕ → List Literal → Pivots → Slot → List Slot → List (Option Term) → Option Found → Type 0
IsFoundAtLiteral frozen ds pivots slot rest s None =
    (p : ℕ) (d : Literal) → slice_get ds p ≡ Some d → NoneExtends frozen (FitsAfter ds pivots slot.literal d rest) s
IsFoundAtLiteral frozen ds pivots slot rest s (Some found) =
    LeastExtension frozen (λ r qs. Fits r ds pivots (slot ∷ rest) qs) s found.picks found.bindings.terms

-- Nothing is left to be picked.
abbrev pub IsEnd : Pivots → List (Option Term) → Option Found → Type 0
IsEnd pivots s None = (pivots.wants_positive ≡ true) ⊎ (pivots.wants_negative ≡ true)
IsEnd pivots s (Some found) =
    (pivots.wants_positive ≡ false) × (pivots.wants_negative ≡ false) × (found.picks ≡ []) × (found.bindings.terms ≡ s)

-- All variables of the literals are below a number.
abbrev pub SlotsBelow : ℕ → List Slot → Type 0
SlotsBelow n slots = All (λ slot. EachBelow n slot.literal.args) slots

abbrev pub PivotsBelow : ℕ → Option Literal → Type 0
PivotsBelow n None = Unit {0}
PivotsBelow n (Some e) = EachBelow n e.args
