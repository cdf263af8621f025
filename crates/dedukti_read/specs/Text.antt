-- Which bytes are developments, and where the first fault is.
use Rattle.std.specs.Prelude.{◌≡◌, ℕ, ◌-◌, ◌<◌, List, [], ◌∷◌, length, Result, Ok, Err}
use Rattle.lp_term.specs.declared.Command.{Command}
use Rattle.lp_term.specs.declared.Dev.{Dev}
use Rattle.dedukti_read.specs.declared.token.Token.{Token}
use Rattle.dedukti_read.specs.declared.fault.DkFault.{DkFault}
use Rattle.dedukti_read.specs.declared.fault.DkFault.TheVariants.{NotDk, TooDeep, Memory}
use Rattle.dedukti_read.specs.Grammar.{IsCommand}
use Rattle.dedukti_read.specs.Matter.{Skips}
use Rattle.lp_read.specs.SideDepth.{IsTooDeep}
use Rattle.dedukti_read.specs.TokenLists.{AreTokens}

-- A command begins here, and these bytes stand behind its `;`.
pub record BeginsCommand (here : List ℕ) (command : Command) (after : List ℕ) : Type 0 where
  pub tokens : List Token
  pub are : AreTokens here tokens after
  pub is : IsCommand tokens command []

-- No term of the command is nested too deep.
abbrev pub IsShallow : Command → Type 0
IsShallow command = ¬ IsTooDeep command

-- Any command.
abbrev pub IsAny : Command → Type 0
IsAny command = Unit {0}

-- `AreCommands Allowed bytes commands here`: the bytes are whole commands, each of them allowed, up to where the next token
-- begins or the bytes end.
pub data AreCommands (Allowed : Command → Type 0) : List ℕ → List Command → List ℕ → Type 0 where
  NoCommand : (bytes here : List ℕ) → Skips bytes here → AreCommands Allowed bytes [] here
  CommandFirst : (bytes here : List ℕ) (command : Command) (after : List ℕ) (commands : List Command) (there : List ℕ)
      → Skips bytes here → BeginsCommand here command after → Allowed command → AreCommands Allowed after commands there → AreCommands Allowed bytes (command ∷ commands) there

-- The bytes are read as the development, whatever its side depth.
abbrev pub ReadsDk : List ℕ → Dev → Type 0
ReadsDk bytes development = AreCommands IsAny bytes development.commands []

-- The place of a fault: whole commands within the limit stand before it, it isn't the end, and the fault is there.
pub record FaultAt (Is : List ℕ → Type 0) (bytes : List ℕ) (at : ℕ) : Type 0 where
  pub commands : List Command
  pub here : List ℕ
  pub front : AreCommands IsShallow bytes commands here
  pub some : 0 < length here
  pub place : at ≡ length bytes - length here
  pub is : Is here

-- No command begins here.
abbrev pub HasNoCommand : List ℕ → Type 0
HasNoCommand here = (command : Command) (after : List ℕ) → BeginsCommand here command after → ⊥

-- A command begins here with a term that is nested too deep.
abbrev pub HasDeepCommand : List ℕ → Type 0
HasDeepCommand here = (command : Command) × (after : List ℕ) × BeginsCommand here command after × IsTooDeep command

-- What the reader may answer: the development, the first fault, or want of memory.
abbrev pub IsReadDkAnswer : List ℕ → Result Dev DkFault → Type 0
IsReadDkAnswer bytes (Ok development) = AreCommands IsShallow bytes development.commands []
IsReadDkAnswer bytes (Err (NotDk at)) = FaultAt HasNoCommand bytes at
IsReadDkAnswer bytes (Err (TooDeep at)) = FaultAt HasDeepCommand bytes at
IsReadDkAnswer bytes (Err Memory) = Unit {0}
