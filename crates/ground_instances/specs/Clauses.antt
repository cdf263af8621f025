-- Where the clause of an instance is found. Only private contracts cite this.
use Rattle.std.specs.Prelude.{◌≡◌, ℕ, suc, nat_eq, List, slice_get, Some}
use Rattle.std.specs.HashMap.{get}
use Rattle.dk_syntax.specs.declared.clause.Clause.{Clause}
use Rattle.normal_form.specs.declared.clause_list.ClauseList.{ClauseList}
use Rattle.normal_form.specs.declared.clause_list.ClauseRow.{ClauseRow}
use Rattle.step_chain.specs.declared.chain.Chain.{Chain}
use Rattle.step_check.specs.declared.verdict.Verdict.{Verdict}
use Rattle.step_check.specs.declared.verdict.Verdict.TheVariants.{Chained, Composes}
use Rattle.step_compose.specs.declared.composed.Composed.{Composed}
use Rattle.ground_instances.specs.Keys.{verdict_in}
use Rattle.ground_instances.specs.Notes.{Known}
use Rattle.ground_instances.specs.declared.naming.Place.{Place}

-- the clause has that number in the list
abbrev pub IsRowOf : ClauseList → ℕ → Clause → Type 0
IsRowOf list number it = (row : ClauseRow) × (slice_get list.rows number ≡ Some row) × (row.clause ≡ it)

-- the clause has that number in the known list of the step
abbrev pub IsListed : Known ClauseList → ℕ → ℕ → Clause → Type 0
IsListed lists step number it = (list : ClauseList) × (get nat_eq lists step ≡ Some list) × IsRowOf list number it

-- the clause is the middle clause at that place of the chain of that number
abbrev pub IsMiddle : List Chain → ℕ → ℕ → Clause → Type 0
IsMiddle chains number j it = (chain : Chain) × (slice_get chains number ≡ Some chain) × (slice_get chain.mids j ≡ Some it)

-- the clause is a chain's middle clause, or one of a composed image
pub data IsStaged (verdicts : List Verdict) (step stage number : ℕ) (it : Clause) : Type 0 where
  middle : (chains : List Chain) (j : ℕ) → verdict_in verdicts step ≡ Some (Chained chains) → stage ≡ suc j → IsMiddle chains number j it
      → IsStaged verdicts step stage number it
  imaged : (composed : Composed) → verdict_in verdicts step ≡ Some (Composes composed) → stage ≡ 1 → IsRowOf composed.image number it
      → IsStaged verdicts step stage number it

-- the clause is found at that place
pub data IsFound (verdicts : List Verdict) (lists : Known ClauseList) (place : Place) (it : Clause) : Type 0 where
  listed : place.stage ≡ 0 → IsListed lists place.step place.clause it → IsFound verdicts lists place it
  staged : IsStaged verdicts place.step place.stage place.clause it → IsFound verdicts lists place it
