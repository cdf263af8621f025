-- What holds of the judgement of the type checker and of the developments that it accepts.
use Rattle.std.specs.Prelude.{◌≡◌, ◌↔◌, ℕ, List, [], Some, None}
use Rattle.lp_term.specs.LambdaPi.{Term, type}
use Rattle.lp_term.specs.Typing.{Declaration, HasType}
use Rattle.lp_term.specs.declared.command.Command.{Command}
use Rattle.lp_exact.specs.Signatures.{IsWellFormedSignature}
use Rattle.lp_exact.specs.Symbols.{IsFragmentSignature}
use Rattle.lp_kernel.specs.Judgement.{HasNormalType, IsChecked}
use Rattle.lp_kernel.specs.Checking.{Fault, out_of_fragment}
use Rattle.lp_kernel.specs.Developments.{first_failure, in_goal}
use Rattle.lp_kernel.specs.Acceptance.{HasTypedGoal, IsAccepted}

-- a term has one normal type by the judgement
abbrev pub NormalTypesAreUnique : Type 0
NormalTypesAreUnique =
    (sig : List Declaration) (t m n : Term) → IsFragmentSignature sig → HasNormalType sig [] t m → HasNormalType sig [] t n → m ≡ n

-- a checked type has the sort TYPE
abbrev pub CheckedIsTyped : Type 0
CheckedIsTyped =
    (sig : List Declaration) (a : Term) → IsWellFormedSignature sig → IsFragmentSignature sig → IsChecked sig [] a → HasType sig [] a type

-- a term has its normal type in the theory
abbrev pub FoundIsTyped : Type 0
FoundIsTyped =
    (sig : List Declaration) (t m : Term) → IsWellFormedSignature sig → IsFragmentSignature sig → HasNormalType sig [] t m → HasType sig [] t m

-- a development has no failure exactly where the judgement accepts it
abbrev pub AcceptanceIsDecided : Type 0
AcceptanceIsDecided = (commands : List Command) → (first_failure commands ≡ None) ↔ IsAccepted commands

-- the goal of an accepted development has its type
abbrev pub AcceptedIsTyped : Type 0
AcceptedIsTyped = (commands : List Command) → IsAccepted commands → HasTypedGoal commands

-- the first failure of a development whose goal has its type can only be that a term leaves the fragment
abbrev pub TypedIsAccepted : Type 0
TypedIsAccepted =
    (commands : List Command) (e : Fault) → HasTypedGoal commands → first_failure commands ≡ Some (in_goal e) → (n : ℕ) × (e ≡ out_of_fragment n)
