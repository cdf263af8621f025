-- The trace of items: a step an item, or the first fault.
use Rattle.std.specs.Prelude.{◌≡◌, All, ℕ, ◌+◌, ◌<◌, ◌≤◌, ◌||◌, IsTrue, if◌then◌else◌, List, Option, Some, None, Result, Ok, Err, length, map, slice_get}
use Rattle.std.specs.Option.{option_map, option_or}
use Rattle.tptp_text.specs.ProperItems.{IsProper}
use Rattle.tptp_text.specs.declared.Body.{Body}
use Rattle.tptp_text.specs.declared.Body.TheVariants.{Plain, Outside as OutsideBody}
use Rattle.tptp_text.specs.declared.Item.{Item}
use Rattle.tstp_trace.specs.Faults.{AreSound, IsFirstFault}
use Rattle.tstp_trace.specs.Names.{AreDistinct, is_among}
use Rattle.tstp_trace.specs.Sources.{derivation_fault, derived_by, most_parents, source_of, source_fault}
use Rattle.tptp_text.specs.declared.Source.{Source}
use Rattle.tstp_trace.specs.declared.fault.TraceFault.{TraceFault}
use Rattle.tstp_trace.specs.declared.fault.TraceFault.TheVariants.{Outside, DuplicateName, Unsupported, Memory}
use Rattle.tstp_trace.specs.declared.step.Step.{Step}
use Rattle.tstp_trace.specs.declared.step.StepSource.{StepSource}
use Rattle.tstp_trace.specs.declared.step.StepSource.TheVariants.{Leaf, Derived}
use Rattle.tstp_trace.specs.declared.step.Trace.{Trace}

-- ---- faults

-- the fault of the step with that number: its body is outside the profile
abbrev pub outside_fault : ℕ → Body → Option TraceFault
outside_fault number (Plain formula) = None
outside_fault number (OutsideBody kind) = Some (Outside number kind)

-- the first fault of the step with that number, by the names of the steps before it
abbrev pub fault_by : List (List ℕ) → ℕ → Item → Option TraceFault
fault_by names number item =
    option_or (outside_fault number item.body)
    (option_or (if is_among names item.name then Some (DuplicateName number) else None)
    (option_map (λ kind. Unsupported number kind) (source_fault item.source)))

-- the same, by the items before its own
abbrev pub step_fault : List Item → Item → Option TraceFault
step_fault before item = fault_by (map (λ one. one.name) before) (length before + 1) item

-- ---- the trace

-- what an item says of its step
pub record Part : Type 0 where
  pub name : List ℕ
  pub role : List ℕ
  pub body : Body
  pub source : StepSource

-- what the item says of its step, and what the step is
abbrev pub part_of_item : Item → Part
part_of_item item = record { name = item.name; role = item.role; body = item.body; source = source_of item.name item.source }

abbrev pub part_of_step : Step → Part
part_of_step step = record { name = step.name; role = step.role; body = Plain step.formula; source = step.source }

-- The trace of items without a fault: a step for each item, in order.
pub record IsTraceOf (items : List Item) (trace : Trace) : Type 0 where
  pub sound : AreSound step_fault items
  pub steps : map part_of_step trace.steps ≡ map part_of_item items

-- The answer on items: their trace, or the fault of the first item at fault. Want of memory may come at any time.
abbrev pub IsTraceAnswer : List Item → Result Trace TraceFault → Type 0
IsTraceAnswer items (Ok trace) = IsTraceOf items trace
IsTraceAnswer items (Err Memory) = Unit {0}
IsTraceAnswer items (Err fault) = IsFirstFault step_fault items fault

-- ---- what holds of each trace

-- the names of the steps
abbrev pub names_of : Trace → List (List ℕ)
names_of trace = map (λ step. step.name) trace.steps

-- A derived step has from one to eight parents, which differ, and only one where it is a negation or a Skolem step.
abbrev pub HasFitParents : StepSource → Type 0
HasFitParents (Leaf name) = Unit {0}
HasFitParents (Derived cth esa parents) =
    AreDistinct parents × (0 < length parents) × (length parents ≤ most_parents) × (IsTrue (cth || esa) → length parents ≡ 1)

abbrev pub HaveFitParents : List Step → Type 0
HaveFitParents steps = (place : ℕ) (step : Step) → slice_get steps place ≡ Some step → HasFitParents step.source

-- Each step's formula is closed and well-formed, and has no Any.
abbrev pub HasProperSteps : Trace → Type 0
HasProperSteps trace = All (λ step. IsProper step.formula) trace.steps

-- ---- what is said while a trace is built; only private contracts cite these words

-- The answer on an item: its step, or its fault.
abbrev pub IsStepAnswer : List (List ℕ) → ℕ → Item → Result Step TraceFault → Type 0
IsStepAnswer names number item (Ok step) = (fault_by names number item ≡ None) × (part_of_step step ≡ part_of_item item)
IsStepAnswer names number item (Err Memory) = Unit {0}
IsStepAnswer names number item (Err fault) = fault_by names number item ≡ Some fault

-- The answer on a source: where the step comes from, or what isn't supported.
abbrev pub IsSourceAnswer : ℕ → List ℕ → Source → Result StepSource TraceFault → Type 0
IsSourceAnswer number name source (Ok found) = (source_fault source ≡ None) × (found ≡ source_of name source)
IsSourceAnswer number name source (Err (Outside step kind)) = ⊥
IsSourceAnswer number name source (Err (DuplicateName step)) = ⊥
IsSourceAnswer number name source (Err (Unsupported step kind)) = (step ≡ number) × (source_fault source ≡ Some kind)
IsSourceAnswer number name source (Err Memory) = Unit {0}

-- The same of a source that is no leaf.
abbrev pub IsDerivation : ℕ → Source → Result StepSource TraceFault → Type 0
IsDerivation number source (Ok found) = (derivation_fault source ≡ None) × (found ≡ derived_by source)
IsDerivation number source (Err (Outside step kind)) = ⊥
IsDerivation number source (Err (DuplicateName step)) = ⊥
IsDerivation number source (Err (Unsupported step kind)) = (step ≡ number) × (derivation_fault source ≡ Some kind)
IsDerivation number source (Err Memory) = Unit {0}
