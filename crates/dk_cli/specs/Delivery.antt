-- How an answer reaches the sink and the notes.
use Rattle.std.specs.Prelude.{◌≡◌, ℕ, ◌≤◌, ◌⊎◌, List, [], ◌∷◌, ◌++◌, Ok, Err}
use Rattle.std.specs.declared.option.Option.{Option}
use Rattle.std.specs.declared.result.Result.{Result}
use Rattle.std.specs.Io.KnownBytes.{Appends, Keeps}
use Rattle.dk_io.specs.Causes.{Rose}
use Rattle.dk_io.specs.Outside.{AppendsFront}
use Rattle.dk_cli.specs.Refusals.{status_of, line_of, HasNumber}
use Rattle.dk_cli.specs.declared.refusal.Refusal.{Refusal}
use Rattle.dk_cli.specs.declared.refusal.Refusal.TheVariants.{WriteFault, Memory}
use Rattle.dk_cli.specs.declared.refusal.Status.{Status}
use Rattle.dk_cli.specs.declared.refusal.Status.TheVariants as status

-- An object of the outside over a call: what it keeps before and after, and its count of faults.
pub record Change : Type 0 where
  pub old : Option (List ℕ)
  pub new : Option (List ℕ)
  pub before : ℕ
  pub now : ℕ

abbrev pub change : Option (List ℕ) → Option (List ℕ) → ℕ → ℕ → Change
change old new before now = record { old = old; new = new; before = before; now = now }

abbrev pub IsUntouched : Change → Type 0
IsUntouched c = (c.new ≡ c.old) × (c.now ≡ c.before)

-- Exactly one line was sent: it is kept with its newline, or the notes failed and kept nothing more.
abbrev pub IsNoted : Change → List ℕ → Type 0
IsNoted c line = (Appends c.old c.new (line ++ 10 ∷ []) × (c.now ≡ c.before)) ⊎ (Keeps c.old c.new × Rose c.before c.now)

-- The status and the one line are this refusal's.
pub record IsRefused (refusal : Refusal) (result : Status) (notes : Change) : Type 0 where
  pub status : result ≡ status_of refusal
  pub line : IsNoted notes (line_of refusal)

-- The sink has the whole text more and nothing else, and no line was sent.
pub record IsWritten (text : List ℕ) (result : Status) (out notes : Change) : Type 0 where
  pub status : result ≡ status.Done
  pub bytes : Appends out.old out.new text
  pub still : out.now ≡ out.before
  pub quiet : IsUntouched notes

-- The sink failed and has a prefix of the text more.
pub record IsCut (text : List ℕ) (result : Status) (out notes : Change) : Type 0 where
  pub bytes : AppendsFront out.old out.new text
  pub rose : Rose out.before out.now
  pub later : out.before ≤ out.now
  pub refused : IsRefused WriteFault result notes

-- A text is written whole or cut; a refusal is told, and the sink is left alone. A line that has
-- a number takes memory, and where there is none the status says so.
abbrev pub Delivers : Result (List ℕ) Refusal → Status → Change → Change → Type 0
Delivers (Ok text) result out notes = IsWritten text result out notes ⊎ IsCut text result out notes
Delivers (Err refusal) result out notes = IsUntouched out × (IsRefused refusal result notes ⊎ (HasNumber refusal × IsRefused Memory result notes))
