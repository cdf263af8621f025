-- The state of a pulling back. Only private contracts cite this.
use Rattle.std.specs.Prelude.{◌≡◌, ◌⊎◌, ℕ, ◌+◌, List, [], ◌∷◌, ◌++◌, map, length, slice_get, Some, Contains}
use Rattle.std.specs.List.{All}
use Rattle.dk_syntax.specs.declared.clause.Clause.{Clause}
use Rattle.dk_syntax.specs.declared.term.Term.{Term}
use Rattle.ground_instances.specs.Growing.{AreLiteralsEntered, ground_literals}
use Rattle.ground_instances.specs.Instances.{AreDifferent, clauses_in, HasNeedsBefore, IsInstance, IsOverWeight, keys_of}
use Rattle.ground_instances.specs.Keys.{IsClauseOf, Judged, Key, key}
use Rattle.ground_instances.specs.Naming.{AreNamesBelow, AreNamesFit, AreNeedsOf, IsFit, IsNamedPart, key_by, keys_by}
use Rattle.ground_instances.specs.Needs.{AreNeeded, Needs, Visits}
use Rattle.ground_instances.specs.Rows.{AreBelow, AreRowsBelow, instances_by}
use Rattle.ground_instances.specs.Weights.{IsInClauses, literals_in, weight_by}
use Rattle.ground_instances.specs.declared.instance.Instance.{Instance}
use Rattle.ground_instances.specs.declared.instance.PullFault.{PullFault}
use Rattle.ground_instances.specs.declared.instance.PullFault.TheVariants.{Memory, OverWeight, OverWide}
use Rattle.ground_instances.specs.declared.instance.Row.{Row}
use Rattle.ground_instances.specs.declared.instance.RowLit.{RowLit}
use Rattle.ground_instances.specs.declared.naming.Named.{Named}
use Rattle.ground_instances.specs.declared.state.State.{State}
use Rattle.ground_instances.specs.declared.state.Task.{Task}
use Rattle.ground_instances.specs.declared.state.Task.TheVariants.{Append, Visit}

-- ---- tasks

-- to visit an instance, or to put it at the end of the list after a visit of what it needs
pub data KeyTask : Type 0 where
  visit : Key → KeyTask
  append : Key → List Key → KeyTask

abbrev pub key_in : KeyTask → Key
key_in (visit one) = one
key_in (append one needs) = one

abbrev pub keys_in : List KeyTask → List Key
keys_in tasks = map key_in tasks

-- the task with its terms written out
abbrev pub task_by : List Term → Task → KeyTask
task_by table (Visit named) = visit (key_by table named)
task_by table (Append named needs) = append (key_by table named) (keys_by table needs)

abbrev pub tasks_by : List Term → List Task → List KeyTask
tasks_by table tasks = map (task_by table) tasks

-- the numbers in the task are those of terms, of which there are so many
abbrev pub IsTaskBelow : ℕ → Task → Type 0
IsTaskBelow count (Visit named) = AreBelow count named.terms
IsTaskBelow count (Append named needs) = AreBelow count named.terms × AreNamesBelow count needs

abbrev pub AreTasksBelow : ℕ → List Task → Type 0
AreTasksBelow count tasks = All (IsTaskBelow count) tasks

-- visits of the instances in order
abbrev pub visits_of : List Key → List KeyTask
visits_of keys = map visit keys

-- the list after the tasks are done
abbrev pub Does : Judged → List Key → List KeyTask → List Key → Type 0
Does judged list [] after = list ≡ after
Does judged list (visit one ∷ tasks) after = (middle : List Key) × Visits judged list (one ∷ []) middle × Does judged middle tasks after
Does judged list (append one needs ∷ tasks) after = Does judged (list ++ one ∷ []) tasks after

-- the instance has its clause, and what it needs is known where it is to be put at the end
abbrev pub IsTaskRight : Judged → KeyTask → Type 0
IsTaskRight judged (visit one) = IsFit judged one
IsTaskRight judged (append one needs) = IsFit judged one × Needs judged one needs

-- ---- states

-- Where the instances stand in the list and the tasks are left, the tasks lead to what the root needs, and only there. Each
-- term of the table stands in a clause, or is a part of a term of a task.
pub record IsPulled (judged : Judged) (root : ℕ) (table : List Term) (instances : List Instance) (tasks : List KeyTask) : Type 0 where
  pub goes : (after : List Key) → Does judged (keys_of instances) tasks after → AreNeeded judged root after
  pub back : (after : List Key) → AreNeeded judged root after → Does judged (keys_of instances) tasks after
  pub each : All (IsInstance judged (keys_of instances)) instances
  pub before : HasNeedsBefore instances
  pub once : AreDifferent instances
  pub fits : All (IsFit judged) (keys_of instances)
  pub right : All (IsTaskRight judged) tasks
  pub stand : (t : Term) → Contains table t → IsInClauses (clauses_in instances) t ⊎ IsNamedPart (keys_in tasks) t

-- the name of a row
abbrev pub name_of : Row → Named
name_of row = record { place = record { step = row.step; stage = row.stage; clause = row.clause }; terms = row.terms }

-- the rows have their names, and these are looked up by the set; their literals are counted
pub record IsKept (state : State) : Type 0 where
  pub below : AreRowsBelow state.table state.rows.items
  pub names : state.names.keys ≡ map name_of state.rows.items
  pub literals : state.literals ≡ literals_in (clauses_in (instances_by state.table state.rows.items))

-- the state and its tasks, the next of them first
pub record IsState (judged : Judged) (root : ℕ) (state : State) (tasks : List Task) : Type 0 where
  pub kept : IsKept state
  pub below : AreTasksBelow (length state.table) tasks
  pub pulled : IsPulled judged root state.table (instances_by state.table state.rows.items) (tasks_by state.table tasks)

-- the weight of what stands in the list so far
abbrev pub weight_in : State → ℕ
weight_in state = weight_by (clauses_in (instances_by state.table state.rows.items)) state.table

-- why a pulling back stopped
abbrev pub IsVisitFault : Judged → ℕ → ℕ → PullFault → Type 0
IsVisitFault judged root limit (OverWeight over) = (over ≡ limit) × IsOverWeight judged root limit
IsVisitFault judged root limit (OverWide step) = ⊥
IsVisitFault judged root limit Memory = Unit {0}

-- each of the numbers is that of the name in the list
abbrev pub AreNumbersOf : List Named → List Named → List ℕ → Type 0
AreNumbersOf list [] [] = Unit {0}
AreNumbersOf list [] (n ∷ numbers) = ⊥
AreNumbersOf list (one ∷ names) [] = ⊥
AreNumbersOf list (one ∷ names) (n ∷ numbers) = (slice_get list n ≡ Some one) × AreNumbersOf list names numbers

-- the row of that name
abbrev pub row_by : Named → List RowLit → List ℕ → Row
row_by named lits needs =
    record { step = named.place.step; stage = named.place.stage; clause = named.place.clause; terms = named.terms; lits = lits; needs = needs }

-- the literals are those of the instance's ground clause
abbrev pub IsGroundClause : Judged → List Term → Named → List Term → List RowLit → Type 0
IsGroundClause judged old named new lits =
    (clause : Clause) × IsClauseOf judged (key_by old named) clause
    × AreLiteralsEntered old (ground_literals old named.terms clause.lits) new lits

-- a row with that name comes to the end, with its ground clause and the numbers of what it needs
pub record Appends (judged : Judged) (old : State) (named : Named) (needs : List Named) (new : State) : Type 0 where
  pub lits : List RowLit
  pub numbers : List ℕ
  pub rows : new.rows.items ≡ old.rows.items ++ row_by named lits numbers ∷ []
  pub fresh : Contains old.names.keys named → ⊥
  pub ground : IsGroundClause judged old.table named new.table lits
  pub needed : AreNumbersOf old.names.keys needs numbers
  pub names : new.names.keys ≡ old.names.keys ++ named ∷ []
  pub literals : new.literals ≡ old.literals + length lits

-- what an instance needs is to be visited, and then it is to be put at the end
pub record Begins (judged : Judged) (old : State) (named : Named) (before : List Task) (new : State) (after : List Task) : Type 0 where
  pub needs : List Named
  pub fresh : Contains old.names.keys named → ⊥
  pub needed : AreNeedsOf judged old.table (key_by old.table named) new.table needs
  pub fit : AreNamesFit judged needs
  pub state : new ≡ record old { table = new.table }
  pub tasks : after ≡ map Visit needs ++ Append named needs ∷ before

-- the visit of an instance that stands in the list is over; that of another begins
abbrev pub IsBegun : Judged → State → Named → List Task → State → List Task → Type 0
IsBegun judged old named before new after =
    (Contains old.names.keys named × (new ≡ old) × (after ≡ before)) ⊎ Begins judged old named before new after

-- no instance stands in the list, and the table has no term
pub record IsBlank (state : State) : Type 0 where
  pub table : state.table ≡ []
  pub names : state.names.keys ≡ []
  pub rows : state.rows.items ≡ []
  pub literals : state.literals ≡ 0

-- the name of the root's empty clause
abbrev pub root_name : ℕ → Named
root_name root = record { place = record { step = root; stage = 0; clause = 0 }; terms = [] }

-- the one task is a visit of the root's empty clause, which has its clause
abbrev pub IsFirstTask : Judged → ℕ → List Task → Type 0
IsFirstTask judged root tasks = (tasks ≡ Visit (root_name root) ∷ []) × IsFit judged (key root 0 0 [])
