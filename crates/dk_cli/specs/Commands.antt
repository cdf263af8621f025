-- What the words of a command line ask for, as far as the outcome depends on it.
use Rattle.std.specs.Prelude.{◌≡◌, ℕ, List, [], ◌∷◌, None, Some, option_map}
use Rattle.std.specs.declared.option.Option.{Option}
use Rattle.words.specs.Commands.{Names, Text, Command as Words}
use Rattle.words.specs.Commands as words
use Rattle.words.specs.Reading.{command_of}
use Rattle.dk_cli.specs.declared.syntax.Syntax.{Syntax}
use Rattle.dk_cli.specs.declared.syntax.Syntax.TheVariants.{Lambdapi, Dedukti}

-- A command with its syntax, its files and the limit on the weight, or with the number that it is given; or the usage text.
-- No number of workers stands here. `dedukti` and `dkcheck` are `convert` and `check` in the other syntax.
pub data Command : Type 0 where
  convert : Syntax → Names → ℕ → Command
  steps : Names → Command
  extract : Names → Command
  expansion : Names → ℕ → Command
  check : Syntax → Text → Command
  generate : ℕ → Command
  help : Command

-- What the words of a command ask for.
abbrev pub without_workers : Words → Command
without_workers (words.convert names limit workers) = convert Lambdapi names limit
without_workers (words.steps names workers) = steps names
without_workers (words.extract names workers) = extract names
without_workers (words.expansion names limit workers) = expansion names limit
without_workers (words.check file) = check Lambdapi file
without_workers (words.generate number workers) = generate number
without_workers (words.dedukti names limit workers) = convert Dedukti names limit
without_workers (words.dkcheck file) = check Dedukti file
without_workers words.help = help

-- What the words ask for, if anything.
abbrev pub asked_of : List Text → Option Command
asked_of line = option_map without_workers (command_of line)

-- The files that a command reads, in order.
abbrev pub files_of_names : Names → List Text
files_of_names names = names.problem ∷ names.trace ∷ []

abbrev pub files_of : Command → List Text
files_of (convert syntax names limit) = files_of_names names
files_of (steps names) = files_of_names names
files_of (extract names) = files_of_names names
files_of (expansion names limit) = files_of_names names
files_of (check syntax file) = file ∷ []
files_of (generate number) = []
files_of help = []

-- The files that words ask to read.
abbrev pub files_asked : Option Command → List Text
files_asked None = []
files_asked (Some command) = files_of command

-- ---- numbers of workers

-- The same command, but for the number of workers.
abbrev pub AreAlike : Words → Words → Type 0
AreAlike (words.convert names limit workers) other = (number : ℕ) × (other ≡ words.convert names limit number)
AreAlike (words.steps names workers) other = (number : ℕ) × (other ≡ words.steps names number)
AreAlike (words.extract names workers) other = (number : ℕ) × (other ≡ words.extract names number)
AreAlike (words.expansion names limit workers) other = (number : ℕ) × (other ≡ words.expansion names limit number)
AreAlike (words.check file) other = other ≡ words.check file
AreAlike (words.generate made workers) other = (number : ℕ) × (other ≡ words.generate made number)
AreAlike (words.dedukti names limit workers) other = (number : ℕ) × (other ≡ words.dedukti names limit number)
AreAlike (words.dkcheck file) other = other ≡ words.dkcheck file
AreAlike words.help other = other ≡ words.help

-- Both lines ask for such commands.
pub record AskAlike (line other : List Text) : Type 0 where
  pub one : Words
  pub two : Words
  pub first : command_of line ≡ Some one
  pub second : command_of other ≡ Some two
  pub alike : AreAlike one two
