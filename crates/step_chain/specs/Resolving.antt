-- What the parts of a resolvent's making answer.
use Rattle.std.specs.Prelude.{◌≡◌, ℕ, ◌+◌, Bool, true, false, List, [], ◌∷◌, ◌++◌, length, slice_get, Contains, Option, Some, None}
use Rattle.std.specs.List.{All}
use Rattle.dk_syntax.specs.declared.Clause.{Clause}
use Rattle.dk_syntax.specs.declared.Literal.{Literal}
use Rattle.dk_syntax.specs.declared.Term.{Term}
use Rattle.normal_form.specs.ClauseLists.{clause_over, quants_of}
use Rattle.dk_syntax.specs.Terms.{instance}
use Rattle.step_chain.specs.declared.pair.Pair.{Pair}
use Rattle.step_chain.specs.declared.pair.Slot.{Slot}
use Rattle.step_chain.specs.declared.resolvent.Resolvent.{Resolvent}
use Rattle.step_chain.specs.Pairs.{slots_of_both}
use Rattle.step_chain.specs.Resolvents.{AreUnified, IsOnce, IsResolvent, kept, Link, resolution_by, closed_terms_over}

-- The literal of a slot with its variables replaced.
abbrev pub slot_instance : (ℕ → Term) → Slot → Literal
slot_instance m slot = instance m slot.literal

-- The list has become the other by adding each of these literals that wasn't there.
abbrev pub AreAddedOnce : List Literal → List Literal → List Literal → Type 0
AreAddedOnce old literals all = (more : List Literal) × IsOnce old literals more × (all ≡ old ++ more)

-- A literal that is taken has the list's length for a pick, and any other its place there.
abbrev pub AreInstancePicks : List Literal → List Literal → List Bool → List ℕ → Type 0
AreInstancePicks lits [] taken [] = Unit {0}
AreInstancePicks lits [] taken (pick ∷ picks) = ⊥
AreInstancePicks lits (literal ∷ rest) taken [] = ⊥
AreInstancePicks lits (literal ∷ rest) [] (pick ∷ picks) = ⊥
AreInstancePicks lits (literal ∷ rest) (true ∷ taken) (pick ∷ picks) = (pick ≡ length lits) × AreInstancePicks lits rest taken picks
AreInstancePicks lits (literal ∷ rest) (false ∷ taken) (pick ∷ picks) = (slice_get lits pick ≡ Some literal) × AreInstancePicks lits rest taken picks

-- Each of the literals stands in the list.
abbrev pub AreContained : List Literal → List Literal → Type 0
AreContained lits literals = All (λ literal. Contains lits literal) literals

-- The pair is that of two clauses.
abbrev pub IsPair : Clause → Clause → Pair → Type 0
IsPair first second pair = pair.slots ≡ slots_of_both first second pair.sign

abbrev pub link_of : Pair → List Bool → List Bool → Link
link_of pair taken others = record { number = pair.other; sign = pair.sign; taken = taken; others = others }

-- The resolvent of the two clauses where these literals are taken, or none where no substitution unifies them.
abbrev pub IsResolventOf : Clause → Clause → Pair → List Bool → Option Resolvent → Type 0
IsResolventOf first second pair bits None =
    (taken others : List Bool) → bits ≡ taken ++ others → (t u : ℕ → Term) → AreUnified pair.sign first second taken others t u → ⊥
IsResolventOf first second pair bits (Some it) =
    (taken others : List Bool) × (bits ≡ taken ++ others) × IsResolvent pair.number first second (link_of pair taken others) it.clause it.step

-- The clause and its justification are made of the instances under m: those that aren't taken, each once, are its literals.
pub record IsMade (first second : Clause) (pair : Pair) (m : ℕ → Term) (ones : List Literal) (taken : List Bool) (twos : List Literal) (others : List Bool) (it : Resolvent) : Type 0 where
  pub lits : List Literal
  pub once : IsOnce [] (kept ones taken ++ kept twos others) lits
  pub clause : it.clause ≡ clause_over (quants_of lits) lits
  pub picks : List ℕ
  pub other_picks : List ℕ
  pub picked : AreInstancePicks lits ones taken picks
  pub other_picked : AreInstancePicks lits twos others other_picks
  pub justified : it.step ≡ resolution_by pair.sign pair.number pair.other picks other_picks (closed_terms_over (quants_of lits) first.vars (λ j. m (0 + j))) (closed_terms_over (quants_of lits) second.vars (λ j. m (first.vars + j)))
