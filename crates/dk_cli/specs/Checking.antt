-- What `check` and `dkcheck` answer to the bytes of a file: that the development is accepted, or the first refusal.
use Rattle.std.specs.Prelude.{◌≡◌, ◌≢◌, ℕ, ◌≤◌, List, length, Ok, None, Some, codes}
use Rattle.std.specs.declared.option.Option.{Option}
use Rattle.std.specs.declared.result.Result.{Result}
use Rattle.std.specs.Io.KnownBytes.{Appends}
use Rattle.dk_io.specs.Causes.{Rose}
use Rattle.dk_io.specs.Outside.{Told}
use Rattle.dedukti_read.specs.Text.{IsReadDkAnswer}
use Rattle.dedukti_read.specs.declared.DkFault.{DkFault}
use Rattle.dedukti_read.specs.declared.DkFault.TheVariants as dk_fault
use Rattle.lp_kernel.specs.Acceptance.{HasTypedGoal, IsAccepted}
use Rattle.lp_kernel.specs.Answering.{IsVerdict}
use Rattle.lp_kernel.specs.Developments.{first_failure}
use Rattle.lp_kernel.specs.declared.CheckFault.{CheckFault}
use Rattle.lp_kernel.specs.declared.CheckFault.TheVariants as check_fault
use Rattle.lp_kernel.specs.declared.Typed.{Typed}
use Rattle.lp_read.specs.Text.{IsReadAnswer}
use Rattle.lp_read.specs.declared.LpFault.{LpFault}
use Rattle.lp_read.specs.declared.LpFault.TheVariants as lp_fault
use Rattle.lp_term.specs.declared.Dev.{Dev}
use Rattle.dk_cli.specs.Delivery.{Change}
use Rattle.dk_cli.specs.Derivations.{IsFile, byte_limit}
use Rattle.dk_cli.specs.Stages.{Follows, IsToldBy}
use Rattle.dk_cli.specs.declared.refusal.File.TheVariants as file
use Rattle.dk_cli.specs.declared.refusal.Refusal.{Refusal}
use Rattle.dk_cli.specs.declared.refusal.Refusal.TheVariants as refusal
use Rattle.dk_cli.specs.declared.refusal.Status.{Status}
use Rattle.dk_cli.specs.declared.refusal.Status.TheVariants as status
use Rattle.dk_cli.specs.declared.refusal.TypeFault.TheVariants as type_fault
use Rattle.dk_cli.specs.declared.syntax.Syntax.{Syntax}
use Rattle.dk_cli.specs.declared.syntax.Syntax.TheVariants.{Lambdapi, Dedukti}

-- ---- the development

abbrev pub development_refusal : LpFault → Refusal
development_refusal (lp_fault.NotLp at) = refusal.NotDevelopment Lambdapi at
development_refusal (lp_fault.TooDeep at) = refusal.TooDeep file.Development at
development_refusal lp_fault.Memory = refusal.Memory

abbrev pub dedukti_refusal : DkFault → Refusal
dedukti_refusal (dk_fault.NotDk at) = refusal.NotDevelopment Dedukti at
dedukti_refusal (dk_fault.TooDeep at) = refusal.TooDeep file.Development at
dedukti_refusal dk_fault.Memory = refusal.Memory

-- The development that the bytes are read as in the syntax.
abbrev pub IsDevelopmentIn : Syntax → List ℕ → Result Dev Refusal → Type 0
IsDevelopmentIn Lambdapi bytes answer = IsToldBy development_refusal (IsReadAnswer bytes) answer
IsDevelopmentIn Dedukti bytes answer = IsToldBy dedukti_refusal (IsReadDkAnswer bytes) answer

-- ---- its typing

abbrev pub check_refusal : CheckFault → Refusal
check_refusal (check_fault.BadPrelude command) = refusal.NotTyped (type_fault.BadPrelude command)
check_refusal (check_fault.BadSymbol command) = refusal.NotTyped (type_fault.BadSymbol command)
check_refusal (check_fault.BadGoal command) = refusal.NotTyped (type_fault.BadGoal command)
check_refusal (check_fault.UnknownName node name) = refusal.NotTyped (type_fault.UnknownName node name)
check_refusal (check_fault.OutOfFragment node) = refusal.NotTyped (type_fault.OutOfFragment node)
check_refusal (check_fault.IllTyped node want found level) = refusal.NotTyped (type_fault.IllTyped node want found level)
check_refusal check_fault.Memory = refusal.Memory

-- The same of the development's first failure, or that it has none.
abbrev pub HasVerdict : Dev → Result Typed CheckFault → Type 0
HasVerdict development found = IsVerdict found (first_failure development.commands)

-- That the development is accepted, or its first failure.
abbrev pub IsTyping : Dev → Result Typed Refusal → Type 0
IsTyping development answer = IsToldBy check_refusal (HasVerdict development) answer

-- ---- what is written

-- `typed` and a newline
abbrev pub typed_text : List ℕ
typed_text = codes "typed\n"

-- What a development gives.
abbrev pub IsChecked : Dev → Result (List ℕ) Refusal → Type 0
IsChecked development answer = Follows (IsTyping development) (λ typed end. end ≡ Ok typed_text) answer

-- What the bytes of a file give.
abbrev pub IsCheckedIn : Syntax → List ℕ → Result (List ℕ) Refusal → Type 0
IsCheckedIn syntax bytes answer = Follows (IsDevelopmentIn syntax bytes) IsChecked answer

-- What the file of that name gives, which may be absent or too long.
abbrev pub IsCheckedAt : Syntax → List ℕ → (List ℕ → Option (List ℕ)) → Result (List ℕ) Refusal → Type 0
IsCheckedAt syntax name files answer = Follows (IsFile file.Development (files name)) (IsCheckedIn syntax) answer

-- ---- what a caller may rely on

-- The bytes are within the limit, and read as a development that the type checker's judgement accepts.
pub record HoldsAccepted (syntax : Syntax) (bytes : List ℕ) : Type 0 where
  pub fits : length bytes ≤ byte_limit
  pub development : Dev
  pub read : IsDevelopmentIn syntax bytes (Ok development)
  pub accepted : IsAccepted development.commands

-- Where the inputs tell their bytes, the sink has `typed` and a newline more, the file holds an accepted
-- development, and the goal of that one has its type by the typing rules.
abbrev pub WritesTyped : Syntax → Told → List ℕ → Change → Type 0
WritesTyped syntax None name out = Unit {0}
WritesTyped syntax (Some files) name out = (bytes : List ℕ) × (files name ≡ Some bytes)
    × ((holds : HoldsAccepted syntax bytes) × HasTypedGoal holds.development.commands × Appends out.old out.new typed_text)

-- Where the inputs tell that the file holds an accepted development, no count rose and memory was found, the
-- status is 0.
abbrev pub TypesAccepted : Syntax → Told → List ℕ → ℕ → ℕ → Status → Change → Type 0
TypesAccepted syntax None name before now result out = Unit {0}
TypesAccepted syntax (Some files) name before now result out =
    (bytes : List ℕ) → files name ≡ Some bytes → HoldsAccepted syntax bytes
    → ¬ Rose before now → ¬ Rose out.before out.now → result ≢ status.Memory → result ≡ status.Done
