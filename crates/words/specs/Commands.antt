-- What a command line may ask for.
use Rattle.std.specs.Prelude.{ℕ, List}

-- A word is its bytes.
abbrev pub Text : Type 0
Text = List ℕ

-- The names of a problem's file and of a trace's.
pub record Names : Type 0 where
  pub problem : Text
  pub trace : Text

-- A command: its files, the limit on the weight, the number of workers, and the number that `generate` makes files for.
pub data Command : Type 0 where
  convert : Names → ℕ → ℕ → Command
  steps : Names → ℕ → Command
  extract : Names → ℕ → Command
  expansion : Names → ℕ → ℕ → Command
  check : Text → Command
  generate : ℕ → ℕ → Command
  dedukti : Names → ℕ → ℕ → Command
  dkcheck : Text → Command
  help : Command
