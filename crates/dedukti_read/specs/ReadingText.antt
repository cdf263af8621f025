-- A text read from left to right. Only private contracts cite this: the laws in proofs/ say that this gives the answer that
-- `IsReadDkAnswer` says.
use Rattle.std.specs.Prelude.{◌≡◌, ℕ, zero, suc, ◌-◌, Bool, List, [], ◌∷◌, length, Option, Some, None, Result, Ok, Err, if◌then◌else◌, nat_lt}
use Rattle.lp_term.specs.declared.Command.{Command}
use Rattle.lp_term.specs.declared.Dev.{Dev}
use Rattle.dedukti_read.specs.declared.token.Token.{Token}
use Rattle.dedukti_read.specs.declared.fault.DkFault.{DkFault}
use Rattle.dedukti_read.specs.declared.fault.DkFault.TheVariants.{NotDk, TooDeep, Memory}
use Rattle.dedukti_read.specs.declared.state.Mode.{Mode}
use Rattle.dedukti_read.specs.declared.state.Mode.TheVariants as m
use Rattle.dedukti_read.specs.declared.state.Place.{Place}
use Rattle.dedukti_read.specs.declared.state.Said.{Said}
use Rattle.dedukti_read.specs.declared.state.Turn.{Turn}
use Rattle.dedukti_read.specs.declared.state.Turn.TheVariants.{On, End}
use Rattle.dedukti_read.specs.Machine.{command_of, outside, step}
use Rattle.dedukti_read.specs.Scan.{skip, token_at}
use Rattle.lp_read.specs.SideDepth.{command_depth}

-- ---- a command

abbrev pub before : List ℕ → Option (Turn × Place) → Option (Turn × Place × List ℕ)
before rest None = None
before rest (Some (turn, place)) = Some (turn, place, rest)

abbrev pub token_turn : Mode → Place → Option (Token × List ℕ) → Option (Turn × Place × List ℕ)
token_turn mode place None = None
token_turn mode place (Some (token, rest)) = before rest (step mode token place)

-- what the token in front leads to
unfoldable pub turn_at : Mode → Place → List ℕ → Option (Turn × Place × List ℕ)
turn_at mode place here = token_turn mode place (token_at here)

abbrev pub followed : (Mode → Place → List ℕ → Option (Said × List ℕ)) → Option (Turn × Place × List ℕ) → Option (Said × List ℕ)
followed more None = None
followed more (Some (On mode, place, rest)) = more mode place rest
followed more (Some (End said, place, rest)) = Some (said, rest)

-- the command that ends within so many tokens, and the bytes behind it
unfoldable pub read_from : ℕ → Mode → Place → List ℕ → Option (Said × List ℕ)
read_from zero mode place bytes = None
read_from (suc n) mode place bytes = followed (read_from n) (turn_at mode place (skip bytes))

-- what the code of a turn returned is what reading gives, unless memory ran out
abbrev pub GivesRest : {E Rest : Type 0} → (Rest → List ℕ) → Result (Option (Turn × Rest)) E → Place → Option (Turn × Place × List ℕ) → Type 0
GivesRest view (Ok None) place read = read ≡ None
GivesRest view (Ok (Some (turn, rest))) place read = read ≡ Some (turn, place, view rest)
GivesRest view (Err e) place read = Unit {0}

-- ---- commands and their places

abbrev pub Misses : {Y : Type 0} → DkFault → Result Y DkFault → Type 0
Misses Memory read = Unit {0}
Misses fault read = read ≡ Err fault

-- what a function returned is what reading gives, unless memory ran out
abbrev pub Answers : {X Y : Type 0} → (X → Y) → Result X DkFault → Result Y DkFault → Type 0
Answers view (Ok x) read = read ≡ Ok (view x)
Answers view (Err e) read = Misses e read

infixl 10 ◌then◌
abbrev pub ◌then◌ : {A B : Type 0} → Result A DkFault → (A → Result B DkFault) → Result B DkFault
(Ok x) then f = f x
(Err e) then f = Err e

abbrev pub is_too_deep : Command → Bool
is_too_deep command = nat_lt 10000 (command_depth command)

-- the command, unless a term of it is nested too deep
abbrev pub kept_at : ℕ → Command → Result Command DkFault
kept_at at command = if is_too_deep command then Err (TooDeep at) else Ok command

abbrev pub weighed : ℕ → Option (Said × List ℕ) → Result (Command × List ℕ) DkFault
weighed at None = Err (NotDk at)
weighed at (Some (said, rest)) = kept_at at (command_of said) then λ command. Ok (command, rest)

unfoldable pub one_at : ℕ → List ℕ → Result (Command × List ℕ) DkFault
one_at at here = weighed at (read_from (length here) m.Command outside here)

-- the commands from here on
unfoldable pub commands_from : ℕ → (List ℕ → Result (List Command) DkFault) → List ℕ → Result (List Command) DkFault
commands_from total more [] = Ok []
commands_from total more (b ∷ bytes) = one_at (total - length (b ∷ bytes)) (b ∷ bytes) then λ command. more command.1 then λ commands. Ok (command.0 ∷ commands)

-- at most so many commands
unfoldable pub commands_at : ℕ → ℕ → List ℕ → Result (List Command) DkFault
commands_at total zero bytes = Err (NotDk 0)
commands_at total (suc n) bytes = commands_from total (commands_at total n) (skip bytes)

-- an answer as a development
abbrev pub as_development : Result (List Command) DkFault → Result Dev DkFault
as_development (Ok commands) = Ok (record { commands = commands })
as_development (Err fault) = Err fault
