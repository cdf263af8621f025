-- The form of a development and its first failure.
use Rattle.std.specs.Prelude.{ℕ, ◌+◌, ◌&&◌, ◌||◌, Bool, true, false, not, if◌then◌else◌, List, [], ◌∷◌, ◌++◌, Option, Some, None, Result, Ok, Err, bytes_eq, codes}
use Rattle.lp_term.specs.Connectives.{individuals}
use Rattle.lp_term.specs.LambdaPi.{Term, con, pi}
use Rattle.lp_term.specs.Names.{i_name, prop_name}
use Rattle.lp_term.specs.Prelude.{prelude}
use Rattle.lp_term.specs.Signature.{declaration, prelude_declarations}
use Rattle.lp_term.specs.Typing.{Declaration}
use Rattle.lp_term.specs.View.{term_of}
use Rattle.lp_term.specs.declared.command.Command.{Command}
use Rattle.lp_term.specs.declared.command.Command.TheVariants.{Constant, Symbol, Define, Rule}
use Rattle.lp_kernel.specs.Checking.{Fault, and_then, argument_at, is_declared, read, same_term}

-- commands are counted from 1; the last is a failure of the goal's type or body
pub data Failure : Type 0 where
  bad_prelude : ℕ → Failure
  bad_symbol : ℕ → Failure
  bad_goal : ℕ → Failure
  in_goal : Fault → Failure

-- the name of the definition that a development proves
abbrev pub goal_name : List ℕ
goal_name = codes "goal"

-- `I → .. → I` or `I → .. → Prop`
abbrev pub is_constant_type : Term → Bool
is_constant_type (con x) = bytes_eq x i_name || bytes_eq x prop_name
is_constant_type (pi a b) = same_term a individuals && is_constant_type b
is_constant_type t = false

-- a name that neither the signature declares nor the goal has
abbrev pub is_new : List Declaration → List ℕ → Bool
is_new sig x = not (is_declared sig x) && not (bytes_eq x goal_name)

-- whether two commands are one
abbrev pub same_command : Command → Command → Bool
same_command (Constant x a) (Constant y b) = bytes_eq x y && same_term (term_of a) (term_of b)
same_command (Symbol x a) (Symbol y b) = bytes_eq x y && same_term (term_of a) (term_of b)
same_command (Define x a t) (Define y b u) = bytes_eq x y && same_term (term_of a) (term_of b) && same_term (term_of t) (term_of u)
same_command (Rule a t) (Rule b u) = same_term (term_of a) (term_of b) && same_term (term_of t) (term_of u)
same_command c d = false

-- the value of a body whose type is the declared one, or the first fault: of the type, of the body, of the two compared
abbrev pub goal_checked : List Declaration → Term → Term → Result Term Fault
goal_checked sig a t = and_then ((read sig a).check [] 0) (λ x. and_then ((read sig t).find [] 0) (argument_at [] 0 x))

abbrev pub fault_in_goal : Result Term Fault → Option Failure
fault_in_goal (Ok v) = None
fault_in_goal (Err e) = Some (in_goal e)

-- the first failure of a definition, where `rest` comes after it
abbrev pub failure_of_goal : List Declaration → ℕ → List ℕ → Term → Term → List Command → Option Failure
failure_of_goal sig number x a t [] = if bytes_eq x goal_name then fault_in_goal (goal_checked sig a t) else Some (bad_goal number)
failure_of_goal sig number x a t (c ∷ rest) = Some (bad_goal number)

-- the first failure of the commands after the prelude, which are counted from that number, after that signature
abbrev pub failure_after : List Declaration → ℕ → List Command → Option Failure
failure_after sig number [] = Some (bad_goal number)
failure_after sig number (Constant x a ∷ rest) =
    if is_new sig x && is_constant_type (term_of a)
    then failure_after (sig ++ (declaration x (term_of a) ∷ [])) (number + 1) rest
    else Some (bad_symbol number)
failure_after sig number (Define x a t ∷ rest) = failure_of_goal sig number x (term_of a) (term_of t) rest
failure_after sig number (c ∷ rest) = Some (bad_goal number)

-- the same of commands that begin with the given ones, else where they first differ
abbrev pub failure_from : List Command → ℕ → List Command → Option Failure
failure_from [] number commands = failure_after prelude_declarations number commands
failure_from (p ∷ rest) number [] = Some (bad_prelude number)
failure_from (p ∷ rest) number (c ∷ commands) = if same_command p c then failure_from rest (number + 1) commands else Some (bad_prelude number)

-- the first failure of a development, none where it is accepted
abbrev pub first_failure : List Command → Option Failure
first_failure commands = failure_from prelude 1 commands
