-- What a caller of the program can rely on.
use Rattle.std.specs.Prelude.{◌≡◌, ◌≢◌, ℕ, ◌⊎◌, Bool, true, List, Ok, Err, None, Some, IfSome}
use Rattle.std.specs.declared.option.Option.{Option}
use Rattle.std.specs.declared.result.Result.{Result}
use Rattle.std.specs.Io.KnownBytes.{Appends}
use Rattle.dk_io.specs.Causes.{Rose}
use Rattle.dk_io.specs.Outside.{Told, AppendsFront}
use Rattle.words.specs.Usage.{usage_text}
use Rattle.dk_cli.specs.Commands.{Command, check, convert, expansion, extract, generate, help, steps}
use Rattle.dk_cli.specs.Answer.{Answers, IsFixed, IsMemory, IsToldOutcome, LacksFile}
use Rattle.dk_cli.specs.Generation.{IsGenerated}
use Rattle.dk_cli.specs.Delivery.{Change, Delivers, IsCut, IsNoted, IsRefused, IsUntouched, IsWritten}
use Rattle.dk_cli.specs.declared.refusal.Refusal.{Refusal}
use Rattle.dk_cli.specs.declared.refusal.Refusal.TheVariants.{Memory}
use Rattle.dk_cli.specs.declared.refusal.Status.{Status}
use Rattle.dk_cli.specs.declared.refusal.Status.TheVariants as status

-- There is an answer to the words, and it was delivered. Reading the words takes memory only where the first is a
-- command's.
pub record IsRun (told : Told) (asks : Bool) (command : Option Command) (before now : ℕ) (result : Status) (out notes : Change) : Type 0 where
  pub answer : Result (List ℕ) Refusal
  pub answers : Answers told command before now answer
  pub fixed : IfSome command (λ found. IsFixed found answer)
  pub memory : command ≡ None → IsMemory answer → asks ≡ true
  pub delivers : Delivers answer result out notes

-- A file that the words' command reads is absent.
abbrev pub Lacks : Told → Option Command → Type 0
Lacks told None = ⊥
Lacks told (Some command) = LacksFile told command

-- The statuses that can come: that of a development that is not typed for `check` and `generate` alone, for `check` none of
-- a problem and a trace, for `generate` none of reading, and for `--help` those of a text that is written.
abbrev pub CanCome : Command → Status → Type 0
CanCome (convert syntax names limit) status.IllTyped = ⊥
CanCome (convert syntax names limit) result = Unit {0}
CanCome (steps names) status.IllTyped = ⊥
CanCome (steps names) result = Unit {0}
CanCome (extract names) status.IllTyped = ⊥
CanCome (extract names) result = Unit {0}
CanCome (expansion names limit) status.IllTyped = ⊥
CanCome (expansion names limit) result = Unit {0}
CanCome (check syntax name) status.Input = ⊥
CanCome (check syntax name) result = Unit {0}
CanCome (generate number) status.ReadFault = ⊥
CanCome (generate number) result = Unit {0}
CanCome help status.Done = Unit {0}
CanCome help status.WriteFault = Unit {0}
CanCome help result = ⊥

-- Words that ask for no command are refused, unless memory ran out in reading them, which takes none where the first
-- word is no command's.
abbrev pub RefusesWords : Bool → Status → Type 0
RefusesWords asks result = (result ≡ status.Words) ⊎ ((asks ≡ true) × (result ≡ status.Memory))

-- The usage text is written, whole or to where the sink failed.
abbrev pub WritesUsage : Status → Change → Change → Type 0
WritesUsage result out notes = IsWritten usage_text result out notes ⊎ IsCut usage_text result out notes

-- What the sink has more: one text with status 0, the front of one after a write fault, else nothing.
abbrev pub WritesByStatus : Status → Change → Type 0
WritesByStatus status.Done out = (text : List ℕ) × Appends out.old out.new text × (out.now ≡ out.before)
WritesByStatus status.WriteFault out = (text : List ℕ) × AppendsFront out.old out.new text
WritesByStatus result out = IsUntouched out

-- What the notes have more: nothing with status 0, else exactly one line.
abbrev pub NotesByStatus : Status → Change → Type 0
NotesByStatus status.Done notes = IsUntouched notes
NotesByStatus result notes = (line : List ℕ) × IsNoted notes line

-- The answer is written, whole or to where the sink failed, or it is told by its status and its one line.
abbrev pub IsDone : Result (List ℕ) Refusal → Status → Change → Change → Type 0
IsDone (Ok text) result out notes = IsWritten text result out notes ⊎ IsCut text result out notes
IsDone (Err refusal) result out notes = IsUntouched out × IsRefused refusal result notes

-- Where the inputs' count did not rise and memory was found, what was done is the outcome of the command.
abbrev pub DoesOutcome : Told → Command → ℕ → ℕ → Status → Change → Change → Type 0
DoesOutcome told command before now result out notes =
    ¬ Rose before now → result ≢ status.Memory
    → (answer : Result (List ℕ) Refusal) × IsToldOutcome told command answer × IsDone answer result out notes

-- An answer in full: the text and nothing else, or the status and the one line and nothing written.
abbrev pub IsCarriedOut : Result (List ℕ) Refusal → Status → Change → Change → Type 0
IsCarriedOut (Ok text) result out notes = IsWritten text result out notes
IsCarriedOut (Err refusal) result out notes = IsUntouched out × IsRefused refusal result notes

-- Whatever the outcome of told files is, where no count rose and memory was found it is carried out in
-- full. So there is one outcome, and each status, text and line comes exactly where it is the outcome's.
abbrev pub CarriesOutEach : Told → Command → ℕ → ℕ → Status → Change → Change → Type 0
CarriesOutEach None command before now result out notes = Unit {0}
CarriesOutEach (Some files) command before now result out notes =
    (answer : Result (List ℕ) Refusal) → IsToldOutcome (Some files) command answer
    → ¬ Rose before now → ¬ Rose out.before out.now → result ≢ status.Memory → IsCarriedOut answer result out notes

-- The same of what `generate` makes, whether or not the inputs tell their bytes.
abbrev pub CarriesOutMade : ℕ → Status → Change → Change → Type 0
CarriesOutMade number result out notes =
    (answer : Result (List ℕ) Refusal) → IsGenerated number answer → answer ≢ Err Memory
    → ¬ Rose out.before out.now → result ≢ status.Memory → IsCarriedOut answer result out notes
