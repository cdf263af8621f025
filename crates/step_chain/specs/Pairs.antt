-- The literals of two clauses in one list, and what it is to take some of them.
use Rattle.std.specs.Prelude.{◌≡◌, ℕ, ◌+◌, Bool, true, false, not, List, [], ◌∷◌, ◌++◌, length, map, replicate, Option, Some, None}
use Rattle.std.specs.List.{All}
use Rattle.dk_syntax.specs.declared.Clause.{Clause}
use Rattle.dk_syntax.specs.declared.Literal.{Literal}
use Rattle.dk_syntax.specs.declared.SymKey.{SymKey}
use Rattle.dk_syntax.specs.declared.Term.{Term}
use Rattle.dk_syntax.specs.declared.Term.TheVariants.{Var}
use Rattle.step_clause.specs.Search.{SamePivot}
use Rattle.unifier.specs.Outcomes.{Extended, Outcome, Refuted, Sound}
use Rattle.unifier.specs.declared.Bindings.{Bindings}
use Rattle.dk_syntax.specs.Terms.{EachBelow, instance, substituted}
use Rattle.step_chain.specs.declared.choosing.Chosen.{Chosen}
use Rattle.step_chain.specs.declared.pair.Pair.{Pair}
use Rattle.step_chain.specs.declared.pair.Slot.{Slot}

-- ---- the list

-- The variables are numbered from n on.
abbrev pub raising : ℕ → ℕ → Term
raising n j = Var (n + j)

-- The literal has the sign.
abbrev pub may_be_taken : Bool → Bool → Bool
may_be_taken true positive = positive
may_be_taken false positive = not positive

abbrev pub slot_of : ℕ → Bool → Literal → Slot
slot_of n sign literal = record { literal = instance (raising n) literal; may_be_taken = may_be_taken sign literal.positive }

abbrev pub slots_of : ℕ → Bool → List Literal → List Slot
slots_of n sign literals = map (slot_of n sign) literals

-- Both clauses' literals, the second clause's with variables after those of the first.
abbrev pub slots_of_both : Clause → Clause → Bool → List Slot
slots_of_both first second sign = slots_of 0 sign first.lits ++ slots_of first.vars (not sign) second.lits

abbrev pub pair_of : ℕ → Clause → ℕ → Clause → Bool → Pair
pair_of number first other second sign = record { number = number; other = other; sign = sign; slots = slots_of_both first second sign }

-- ---- what is taken so far: a truth value for each of the first literals

-- Each literal that is taken may be taken, and its atom is this one under the substitution.
abbrev pub AreAt : (ℕ → Term) → SymKey → List Term → List Slot → List Bool → Type 0
AreAt r pred args [] taken = Unit {0}
AreAt r pred args (slot ∷ slots) [] = Unit {0}
AreAt r pred args (slot ∷ slots) (true ∷ taken) =
    ((slot.may_be_taken ≡ true) × (slot.literal.pred ≡ pred) × (map (substituted r) slot.literal.args ≡ args)) × AreAt r pred args slots taken
AreAt r pred args (slot ∷ slots) (false ∷ taken) = AreAt r pred args slots taken

-- The first literal that is taken.
abbrev pub first_taken : List Slot → List Bool → Option Literal
first_taken [] taken = None
first_taken (slot ∷ slots) [] = None
first_taken (slot ∷ slots) (true ∷ taken) = Some slot.literal
first_taken (slot ∷ slots) (false ∷ taken) = first_taken slots taken

-- All that are taken have the atom of this one, where there is one.
abbrev pub AreAtOne : (ℕ → Term) → Option Literal → List Slot → List Bool → Type 0
AreAtOne r None slots taken = Unit {0}
AreAtOne r (Some e) slots taken = AreAt r e.pred (map (substituted r) e.args) slots taken

-- All that are taken have one atom under the substitution.
abbrev pub AreChosen : List Slot → List Bool → (ℕ → Term) → Type 0
AreChosen slots taken r = AreAtOne r (first_taken slots taken) slots taken

-- All variables of the literals are below a number.
abbrev pub SlotsBelow : ℕ → List Slot → Type 0
SlotsBelow n slots = All (λ slot. EachBelow n slot.literal.args) slots

-- The first literal that is taken, and the most general bindings under which all that are taken have one atom.
pub record HasChosen (slots : List Slot) (chosen : Chosen) : Type 0 where
  pub first : chosen.first ≡ first_taken slots chosen.taken
  pub below : SlotsBelow (length chosen.bindings.terms) slots
  pub sound : Sound 0 chosen.bindings.terms
  pub extended : Extended 0 (AreChosen slots chosen.taken) (replicate (length chosen.bindings.terms) None) chosen.bindings.terms

-- The bindings under which also the literal has the atom of the first, or none where nothing gives it that atom.
abbrev pub IsBound : Option Literal → Literal → List (Option Term) → Option Bindings → Type 0
IsBound first literal s None = Refuted 0 (λ r. SamePivot r first literal) s
IsBound first literal s (Some more) = Outcome 0 (λ r. SamePivot r first literal) s more.terms true

-- The next literal is taken too, or nothing gives all that are then taken one atom.
abbrev pub IsTaken : List Slot → List Bool → Option Chosen → Type 0
IsTaken slots taken None = (r : ℕ → Term) → AreChosen slots (taken ++ true ∷ []) r → ⊥
IsTaken slots taken (Some next) = (next.taken ≡ taken ++ true ∷ []) × HasChosen slots next
