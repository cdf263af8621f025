-- What a source says of a step: the names and the statuses of its nested inferences, and what isn't supported.
use Rattle.std.specs.Prelude.{ℕ, nat_eq, nat_lt, Bool, true, false, not, ◌&&◌, ◌||◌, if◌then◌else◌, List, [], ◌∷◌, ◌++◌, Option, Some, None, length, codes, count_by, option_to_list}
use Rattle.std.specs.Cmp.Lexicographic.{pointwise}
use Rattle.std.specs.List.{list_all}
use Rattle.dk_syntax.specs.Symbols.{joined}
use Rattle.tptp_text.specs.declared.Source.{Source, Source-F, fold-Source, out-Source}
use Rattle.tptp_text.specs.declared.Source.TheOpen as source
use Rattle.tstp_trace.specs.Names.{is_among, each_once}
use Rattle.tstp_trace.specs.declared.fault.Unsupported.{Unsupported}
use Rattle.tstp_trace.specs.declared.fault.Unsupported.TheVariants.{Word, Status, NoParent, ManyParents, Mixed}
use Rattle.tstp_trace.specs.declared.step.StepSource.{StepSource}
use Rattle.tstp_trace.specs.declared.step.StepSource.TheVariants.{Leaf, Derived}

-- ---- names and statuses

-- the names in a source, from those in its parents
abbrev pub names_at : Source-F (List (List ℕ)) → List (List ℕ)
names_at source.Missing = []
names_at (source.Plain name) = name ∷ []
names_at (source.File name) = []
names_at (source.Inference status parents) = joined parents
names_at source.Other = []

-- the names in a source and in its nested inferences, from left to right
abbrev pub names_in : Source → List (List ℕ)
names_in = fold-Source (List (List ℕ)) names_at

-- the statuses in a source, from those in its parents
abbrev pub statuses_at : Source-F (List (List ℕ)) → List (List ℕ)
statuses_at source.Missing = []
statuses_at (source.Plain name) = []
statuses_at (source.File name) = []
statuses_at (source.Inference status parents) = option_to_list status ++ joined parents
statuses_at source.Other = []

-- the statuses of an inference and of its nested inferences, from left to right
abbrev pub statuses_in : Source → List (List ℕ)
statuses_in = fold-Source (List (List ℕ)) statuses_at

-- a source is a name or an inference, from whether its parents are
abbrev pub is_derived_at : Source-F Bool → Bool
is_derived_at source.Missing = false
is_derived_at (source.Plain name) = true
is_derived_at (source.File name) = false
is_derived_at (source.Inference status parents) = list_all (λ derived. derived) parents
is_derived_at source.Other = false

-- the source is a name, or an inference whose parents are names and such inferences
abbrev pub is_derived : Source → Bool
is_derived = fold-Source Bool is_derived_at

-- ---- steps

-- one of the nested inferences has the status
abbrev pub has_status : List ℕ → Source → Bool
has_status status source = is_among (statuses_in source) status

-- the names in the source, each once
abbrev pub parents_of : Source → List (List ℕ)
parents_of source = each_once (names_in source)

-- the step that is derived by the source
abbrev pub derived_by : Source → StepSource
derived_by source = Derived (has_status (codes "cth") source) (has_status (codes "esa") source) (parents_of source)

-- where the step comes from, by its name, its item's source and the source's outermost form
abbrev pub source_by : List ℕ → Source → Source-F Source → StepSource
source_by name whole source.Missing = Leaf name
source_by name whole (source.Plain parent) = derived_by whole
source_by name whole (source.File None) = Leaf name
source_by name whole (source.File (Some original)) = Leaf original
source_by name whole (source.Inference status parents) = derived_by whole
source_by name whole source.Other = derived_by whole

-- where the step of that name comes from
abbrev pub source_of : List ℕ → Source → StepSource
source_of name source = source_by name source (out-Source source)

-- ---- what isn't supported

-- one of the three statuses that a step may have
abbrev pub is_known_status : List ℕ → Bool
is_known_status status = is_among (codes "thm" ∷ codes "cth" ∷ codes "esa" ∷ []) status

-- the most parents that a step may have
abbrev pub most_parents : ℕ
most_parents = 8

-- of inferences with these statuses and so many parents: two negations or more, or a negation or a Skolem step with two parents or more
abbrev pub is_mixed : List (List ℕ) → ℕ → Bool
is_mixed statuses parents =
    nat_lt 1 (count_by (pointwise nat_eq (codes "cth")) statuses)
    || ((is_among statuses (codes "cth") || is_among statuses (codes "esa")) && nat_lt 1 parents)

-- what isn't supported in a step that is derived or not, with these statuses and so many parents: the first of five
abbrev pub parts_fault : Bool → List (List ℕ) → ℕ → Option Unsupported
parts_fault derived statuses parents =
    if not derived then Some Word else
    (if not (list_all is_known_status statuses) then Some Status else
    (if nat_eq parents 0 then Some NoParent else
    (if nat_lt most_parents parents then Some ManyParents else
    (if is_mixed statuses parents then Some Mixed else None))))

-- the same of a source that is no leaf
abbrev pub derivation_fault : Source → Option Unsupported
derivation_fault source = parts_fault (is_derived source) (statuses_in source) (length (parents_of source))

-- the same of any source, by its outermost form: a leaf has no such fault
abbrev pub source_fault_by : Source → Source-F Source → Option Unsupported
source_fault_by whole source.Missing = None
source_fault_by whole (source.Plain parent) = derivation_fault whole
source_fault_by whole (source.File name) = None
source_fault_by whole (source.Inference status parents) = derivation_fault whole
source_fault_by whole source.Other = derivation_fault whole

-- what isn't supported in the source
abbrev pub source_fault : Source → Option Unsupported
source_fault source = source_fault_by source (out-Source source)
