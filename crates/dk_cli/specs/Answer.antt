-- What the program answers to a command, before anything is written.
use Rattle.std.specs.Prelude.{◌≡◌, ℕ, ◌<◌, ◌≤◌, ◌⊎◌, List, [], ◌∷◌, length, None, Some, Ok, Err, IfErr}
use Rattle.std.specs.declared.option.Option.{Option}
use Rattle.std.specs.declared.result.Result.{Result}
use Rattle.dk_io.specs.Causes.{Rose}
use Rattle.dk_io.specs.Outside.{Told, IsAbsent, Tells}
use Rattle.words.specs.Usage.{usage_text}
use Rattle.dk_cli.specs.Commands.{Command, check, convert, expansion, extract, files_of, generate, help, steps}
use Rattle.dk_cli.specs.Derivations.{byte_limit}
use Rattle.dk_cli.specs.Generation.{IsGenerated}
use Rattle.dk_cli.specs.Outcome.{IsOutcome}
use Rattle.dk_cli.specs.Stages.{Answered}
use Rattle.dk_cli.specs.declared.refusal.Refusal.{Refusal}
use Rattle.dk_cli.specs.declared.refusal.Refusal.TheVariants.{Words, ReadFault, TooLong, TooDeep, NotDevelopment, NotTyped, WriteFault, Memory}

-- One of the files is absent. Each is read only where those before it were read whole.
abbrev pub LacksOneOf : Told → List (List ℕ) → Type 0
LacksOneOf told [] = ⊥
LacksOneOf told (name ∷ rest) = IsAbsent told name ⊎ ((bytes : List ℕ) × Tells told name bytes × (length bytes ≤ byte_limit) × LacksOneOf told rest)

-- A file that the command reads is absent.
abbrev pub LacksFile : Told → Command → Type 0
LacksFile told command = LacksOneOf told (files_of command)

abbrev pub IsReadFault : {A : Type 0} → Result A Refusal → Type 0
IsReadFault (Err (ReadFault file)) = Unit {0}
IsReadFault answer = ⊥

abbrev pub IsMemory : {A : Type 0} → Result A Refusal → Type 0
IsMemory (Err Memory) = Unit {0}
IsMemory answer = ⊥

-- Where the inputs tell their bytes, the files give this.
abbrev pub IsTold : {A : Type 0} → Told → ((List ℕ → Option (List ℕ)) → Result A Refusal → Type 0) → Result A Refusal → Type 0
IsTold None Is answer = Unit {0}
IsTold (Some files) Is answer = Is files answer

-- Where the inputs tell their bytes, this is the outcome of the command.
abbrev pub IsToldOutcome : Told → Command → Result (List ℕ) Refusal → Type 0
IsToldOutcome told command answer = IsTold told (IsOutcome command) answer

-- What `convert`, `steps`, `extract` and `expansion` refuse before anything is written: not their words, and nothing that is said of a
-- development.
abbrev pub IsOfTrace : Refusal → Type 0
IsOfTrace Words = ⊥
IsOfTrace WriteFault = ⊥
IsOfTrace (NotDevelopment syntax at) = ⊥
IsOfTrace (NotTyped fault) = ⊥
IsOfTrace refusal = Unit {0}

-- What `check` refuses before anything is written: what is said of a file and of a development alone.
abbrev pub IsOfDevelopment : Refusal → Type 0
IsOfDevelopment (ReadFault file) = Unit {0}
IsOfDevelopment (TooLong file) = Unit {0}
IsOfDevelopment (TooDeep file at) = Unit {0}
IsOfDevelopment (NotDevelopment syntax at) = Unit {0}
IsOfDevelopment (NotTyped fault) = Unit {0}
IsOfDevelopment Memory = Unit {0}
IsOfDevelopment refusal = ⊥

-- What `generate` refuses before anything is written: nothing that is said of words and of files outside.
abbrev pub IsOfMade : Refusal → Type 0
IsOfMade Words = ⊥
IsOfMade (ReadFault file) = ⊥
IsOfMade WriteFault = ⊥
IsOfMade refusal = Unit {0}

-- What a command refuses before anything is written.
abbrev pub Refuses : Command → Refusal → Type 0
Refuses (convert syntax names limit) refusal = IsOfTrace refusal
Refuses (steps names) refusal = IsOfTrace refusal
Refuses (extract names) refusal = IsOfTrace refusal
Refuses (expansion names limit) refusal = IsOfTrace refusal
Refuses (check syntax name) refusal = IsOfDevelopment refusal
Refuses (generate number) refusal = IsOfMade refusal
Refuses help refusal = ⊥

-- The answer to what reads files, of which one lacks or not, and refuses such things, by the counts of the inputs
-- before and now: what the files give, unless the inputs failed or memory ran out.
pub record IsAnswer {A : Type 0} (Lacks : Type 0) (Can : Refusal → Type 0) (Is : Result A Refusal → Type 0) (before now : ℕ) (answer : Result A Refusal) : Type 0 where
  pub later : before ≤ now
  pub rose : before < now → IsReadFault answer
  pub lacks : Lacks → IsReadFault answer ⊎ IsMemory answer
  pub outcome : (IsReadFault answer × Rose before now) ⊎ (IsMemory answer ⊎ Is answer)
  pub read_fault : IsReadFault answer → Rose before now ⊎ Lacks
  pub refusal : IfErr answer Can

-- The answer to a command.
abbrev pub AnswersCommand : Told → Command → ℕ → ℕ → Result (List ℕ) Refusal → Type 0
AnswersCommand told command before now answer = IsAnswer (LacksFile told command) (Refuses command) (IsToldOutcome told command) before now answer

-- What is answered where no file is read, whether or not the inputs tell theirs: the usage text, or what the files that are
-- made give, unless memory ran out.
abbrev pub IsFixed : Command → Result (List ℕ) Refusal → Type 0
IsFixed help answer = answer ≡ Ok usage_text
IsFixed (generate number) answer = Answered (IsGenerated number) answer
IsFixed command answer = Unit {0}

-- The answer to the words, which ask for a command or for none.
abbrev pub Answers : Told → Option Command → ℕ → ℕ → Result (List ℕ) Refusal → Type 0
Answers told None before now answer = ((answer ≡ Err Words) ⊎ IsMemory answer) × (now ≡ before)
Answers told (Some command) before now answer = AnswersCommand told command before now answer
