-- What contracts see of the objects in memory.
use Rattle.std.specs.Prelude.{◌≡◌, ◌≢◌, ◌↔◌, AllPairs, ℕ, ◌+◌, ◌-◌, ◌^◌, ◌<◌, ◌⊎◌, max, length, List, [], ◌∷◌, Contains, None, Some, if◌then◌else◌, bytes_eq, string_bytes, slice_get}
use Rattle.std.specs.Option.{option_map_or}
use Rattle.dk_io.specs.Outside.{Told, Tells}
use Rattle.std.specs.declared.option.Option.{Option}
use Rattle.std.specs.declared.vec.Vec.{Vec}
use Rattle.std.specs.declared.string.String.{String}
use Rattle.std.specs.declared.alloc.Global.{Global}

-- The numbers of the calls that are to fail, how many calls were made, and the count of faults.
pub record CallLog : Type 0 where
  pub fail : List ℕ
  pub made : ℕ
  pub faults : ℕ

-- No call was made.
abbrev pub no_calls : List ℕ → CallLog
no_calls fail = record { fail = fail; made = 0; faults = 0 }

-- The next call has a number of its own: it is none of those past the last value of a `u64`.
abbrev pub CanCount : CallLog → Type 0
CanCount log = log.made < 2 ^ 64 - 1

-- The next call is to fail. Calls are numbered from 1.
abbrev pub IsListed : CallLog → Type 0
IsListed log = Contains log.fail (log.made + 1)

-- One call was made, and the count of faults rose by 1 exactly where this fact holds.
pub record Counts (fault : Type 0) (old new : CallLog) : Type 0 where
  pub fail : new.fail ≡ old.fail
  pub made : new.made ≡ old.made + 1
  pub rises : fault → new.faults ≡ old.faults + 1
  pub stays : ¬ fault → new.faults ≡ old.faults

-- A file: its name and its bytes.
abbrev pub File : Type 0
File = List ℕ × List ℕ

-- How many bytes one call moves at most: a greatest number of 0 is read as 1.
abbrev pub call_limit : ℕ → ℕ
call_limit most = max most 1

-- The files, what is left of the one that was started, how many bytes one call gives at most, and the calls.
pub record Reading : Type 0 where
  pub files : List File
  pub left : List ℕ
  pub most : ℕ
  pub calls : CallLog

-- The bytes of the first file of this name.
abbrev pub file_named : List File → List ℕ → Option (List ℕ)
file_named [] name = None
file_named (file ∷ files) name = if bytes_eq file.0 name then Some file.1 else file_named files name

-- No two files have one name.
abbrev pub HaveOwnNames : List File → Type 0
HaveOwnNames files = AllPairs (λ one other. one.0 ≢ other.0) files

-- The names told and their bytes are just those of these files.
abbrev pub TellsOnly : Told → List File → Type 0
TellsOnly told files = (name bytes : List ℕ) → (Tells told name bytes ↔ Contains files (name, bytes))

-- A file as it lies in memory.
abbrev pub StoredFile : Type 0
StoredFile = String Global × Vec ℕ Global

abbrev pub file_of : StoredFile → File
file_of file = (string_bytes file.0, file.1.items)

-- The bytes of the file at this place, none past the last.
abbrev pub bytes_at : List StoredFile → ℕ → List ℕ
bytes_at files place = option_map_or (λ file. file.1.items) (slice_get files place) []

-- The bytes that notes kept, how many still fit, and the calls.
pub record Store : Type 0 where
  pub kept : List ℕ
  pub room : ℕ
  pub calls : CallLog

-- The bytes that a sink kept, how many still fit, how many one call takes at most, the numbers of the calls that
-- take none, and the calls.
pub record Taking : Type 0 where
  pub kept : List ℕ
  pub room : ℕ
  pub most : ℕ
  pub zero : List ℕ
  pub calls : CallLog

-- The next call is one of those that take none.
abbrev pub TakesNone : Taking → Type 0
TakesNone sink = Contains sink.zero (sink.calls.made + 1)

-- No room is left for these bytes, although there are some.
abbrev pub IsFull : Taking → List ℕ → Type 0
IsFull sink bytes = (0 < length bytes) × (sink.room ≡ 0)

-- The next call is a fault at these bytes: it is listed, no room is left, or it takes none although there are some.
abbrev pub FaultsAt : Taking → List ℕ → Type 0
FaultsAt sink bytes = IsListed sink.calls ⊎ IsFull sink bytes ⊎ (TakesNone sink × (0 < length bytes))
