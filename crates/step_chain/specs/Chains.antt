-- Chains of exact resolvents, and the least of them.
use Rattle.std.specs.Prelude.{◌≡◌, ℕ, Bool, true, false, not, List, [], ◌∷◌, ◌++◌, map, slice_get, Option, Some, MatchOption}
use Rattle.dk_syntax.specs.Symbols.{joined}
use Rattle.dk_syntax.specs.declared.Clause.{Clause}
use Rattle.normal_form.specs.declared.ClauseList.{ClauseList}
use Rattle.normal_form.specs.declared.ClauseRow.{ClauseRow}
use Rattle.step_clause.specs.Candidates.{IsListBefore}
use Rattle.step_clause.specs.Justifications.{IsJustification}
use Rattle.step_clause.specs.declared.justification.Justification.{Justification}
use Rattle.step_chain.specs.Resolvents.{IsResolvent, Link}
use Rattle.step_chain.specs.declared.chain.Chain.{Chain}

-- ---- chains

-- The list of one clause alone.
abbrev pub alone : Clause → ClauseList
alone clause = record { rows = record { clause = clause; quants = []; picks = [] } ∷ [] }

-- From a middle clause, which has that number in its list, over the lists of the parents to come: a resolvent with a clause
-- of each of them, by the links, and at the last one the justification of the target. These are the middle clauses to
-- come and the justifications.
pub data IsContinuation (target : Clause) : ℕ → Clause → List ClauseList → List Link → List Clause → List Justification → Type 0 where
  ends : (number : ℕ) (middle : Clause) (last : ClauseList) (step : Justification)
      → IsJustification target (alone middle ∷ last ∷ []) (Some step) → IsContinuation target number middle (last ∷ []) [] [] (step ∷ [])
  goes : (number : ℕ) (middle : Clause) (next : ClauseList) (rest : List ClauseList) (link : Link) (links : List Link) (row : ClauseRow)
      (resolvent : Clause) (mids : List Clause) (step : Justification) (steps : List Justification)
      → slice_get next.rows link.number ≡ Some row → IsResolvent number middle row.clause link resolvent step
      → IsContinuation target 0 resolvent rest links mids steps
      → IsContinuation target number middle (next ∷ rest) (link ∷ links) (resolvent ∷ mids) (step ∷ steps)

-- What is chosen for a chain: the number of the first parent's clause, and the links.
pub record Way : Type 0 where
  pub start : ℕ
  pub links : List Link

-- The chain begins at the way's clause of the first list and goes by its links over the other lists to the target.
pub record IsChain (target : Clause) (parents : List ClauseList) (way : Way) (chain : Chain) : Type 0 where
  pub first : ClauseList
  pub rest : List ClauseList
  pub whole : parents ≡ first ∷ rest
  pub row : ClauseRow
  pub at : slice_get first.rows way.start ≡ Some row
  pub continues : IsContinuation target way.start row.clause rest way.links chain.mids chain.steps

-- ---- the least chain

abbrev pub bit : Bool → ℕ
bit false = 0
bit true = 1

-- The clause, the sign with positive first, then what is taken, false first.
abbrev pub link_key : Link → List ℕ
link_key link = link.number ∷ bit (not link.sign) ∷ (map bit link.taken ++ map bit link.others)

-- The order of chains is that of these lists. The last justification is that of the last middle clause alone.
abbrev pub way_key : Way → List ℕ
way_key way = way.start ∷ joined (map link_key way.links)

abbrev pub HasNoChain : Clause → List ClauseList → Type 0
HasNoChain target parents = (way : Way) (chain : Chain) → IsChain target parents way chain → ⊥

-- It is a chain, and no chain is before it.
abbrev pub IsLeastChain : Clause → List ClauseList → Chain → Type 0
IsLeastChain target parents chain =
    (way : Way) × IsChain target parents way chain
    × ((other : Way) (that : Chain) → IsChain target parents other that → IsListBefore (way_key other) (way_key way) → ⊥)

-- The answer is the least chain, or none where there is no chain.
abbrev pub IsChainAnswer : Clause → List ClauseList → Option Chain → Type 0
IsChainAnswer target parents answer = MatchOption answer (HasNoChain target parents) (IsLeastChain target parents)

-- No other answer is right.
abbrev pub IsOnlyAnswer : Clause → List ClauseList → Option Chain → Type 0
IsOnlyAnswer target parents answer = (other : Option Chain) → IsChainAnswer target parents other → other ≡ answer
