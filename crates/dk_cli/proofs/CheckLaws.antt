-- What `check` refuses, and that a file has one answer.
use Rattle.std.proofs.Common.{◌≡◌, ◌≢◌, ℕ, zero, suc, ◌+◌, ◌-◌, Bool, true, false, if◌then◌else◌, List, [], ◌∷◌, length, Ok, Err, None, Some, refl, sym, ◌∙◌, ap, subst}
use Rattle.std.specs.declared.option.Option.{Option}
use Rattle.std.specs.declared.result.Result.{Result}
use Rattle.dedukti_read.proofs.AnswerLaws.{one_reading as one_dk_read}
use Rattle.dedukti_read.specs.Text.{IsReadDkAnswer}
use Rattle.dedukti_read.specs.declared.DkFault.{DkFault}
use Rattle.dedukti_read.specs.declared.DkFault.TheVariants as dk_fault
use Rattle.lp_exact.proofs.TreeLaws.{view_injective}
use Rattle.lp_kernel.specs.Answering.{IsFaultOf, IsVerdict, want_of}
use Rattle.lp_kernel.specs.Developments.{Failure, bad_goal, bad_prelude, bad_symbol, first_failure, in_goal}
use Rattle.lp_kernel.specs.Checking.{ill_typed, out_of_fragment, unknown_name}
use Rattle.lp_kernel.specs.declared.CheckFault.{CheckFault}
use Rattle.lp_kernel.specs.declared.CheckFault.TheVariants as check_fault
use Rattle.lp_kernel.specs.declared.Want.{Want}
use Rattle.lp_kernel.specs.declared.Want.TheVariants.{Exactly, Product, Sorted}
use Rattle.lp_read.proofs.AnswerLaws.{only_answer, text_at}
use Rattle.lp_read.specs.Machine.{command_of}
use Rattle.lp_read.specs.ReadingText.{◌then◌, Answers, as_development, commands_at, commands_from, is_too_deep, kept_at, one_at, weighed}
use Rattle.lp_read.specs.Scan.{skip}
use Rattle.lp_read.specs.Text.{IsReadAnswer}
use Rattle.lp_read.specs.declared.LpFault.{LpFault}
use Rattle.lp_read.specs.declared.LpFault.TheVariants as lp_fault
use Rattle.lp_term.specs.View.{term_of}
use Rattle.lp_term.specs.declared.Command.{Command}
use Rattle.lp_term.specs.declared.Dev.{Dev}
use Rattle.lp_term.specs.declared.Lp.{Lp}
use Rattle.dk_cli.specs.Answer.{IsOfDevelopment}
use Rattle.dk_cli.specs.Checking.{HasVerdict, IsChecked, IsCheckedIn, IsDevelopmentIn, IsTyping, check_refusal, dedukti_refusal, development_refusal, typed_text}
use Rattle.dk_cli.specs.declared.refusal.Refusal.{Refusal}
use Rattle.dk_cli.specs.declared.refusal.Refusal.TheVariants as refusal
use Rattle.dk_cli.specs.declared.syntax.Syntax.{Syntax}
use Rattle.dk_cli.specs.declared.syntax.Syntax.TheVariants.{Lambdapi, Dedukti}
use Rattle.dk_cli.proofs.Continued.{IsAfterReading}
use Rattle.dk_cli.proofs.StageLaws.{IsOne, Only, follows_found, found_same, one_of_two, one_told, only_follows, only_told}

-- ---- what is refused once the file is read

abbrev pub IsOfCheck : Refusal → Type 0
IsOfCheck (refusal.NotDevelopment syntax at) = Unit {0}
IsOfCheck (refusal.TooDeep which at) = Unit {0}
IsOfCheck (refusal.NotTyped fault) = Unit {0}
IsOfCheck refusal.Memory = Unit {0}
IsOfCheck other = ⊥

of_development : (why : Refusal) → IsOfCheck why → IsOfDevelopment why
of_development (refusal.NotDevelopment syntax at) h = tt
of_development (refusal.TooDeep which at) h = tt
of_development (refusal.NotTyped fault) h = tt
of_development refusal.Memory h = tt
of_development other h = absurd h

pub after_file : IsAfterReading IsOfDevelopment IsOfCheck
after_file = record { can = of_development; no_read_fault = λ which h. h; memory = tt }

development_told : (fault : LpFault) → IsOfCheck (development_refusal fault)
development_told (lp_fault.NotLp at) = tt
development_told (lp_fault.TooDeep at) = tt
development_told lp_fault.Memory = tt

dedukti_told : (fault : DkFault) → IsOfCheck (dedukti_refusal fault)
dedukti_told (dk_fault.NotDk at) = tt
dedukti_told (dk_fault.TooDeep at) = tt
dedukti_told dk_fault.Memory = tt

development_in_later : (syntax : Syntax) (bytes : List ℕ) (answer : Result Dev Refusal) → IsDevelopmentIn syntax bytes answer → Only IsOfCheck answer
development_in_later Lambdapi bytes = only_told IsOfCheck development_refusal (IsReadAnswer bytes) development_told
development_in_later Dedukti bytes = only_told IsOfCheck dedukti_refusal (IsReadDkAnswer bytes) dedukti_told

check_told : (fault : CheckFault) → IsOfCheck (check_refusal fault)
check_told (check_fault.BadPrelude command) = tt
check_told (check_fault.BadSymbol command) = tt
check_told (check_fault.BadGoal command) = tt
check_told (check_fault.UnknownName node name) = tt
check_told (check_fault.OutOfFragment node) = tt
check_told (check_fault.IllTyped node want found level) = tt
check_told check_fault.Memory = tt

checked_later : (development : Dev) (answer : Result (List ℕ) Refusal) → IsChecked development answer → Only IsOfCheck answer
checked_later development =
    only_follows IsOfCheck (IsTyping development) (λ typed end. end ≡ Ok typed_text)
    (only_told IsOfCheck check_refusal (HasVerdict development) check_told)
    (λ typed end same. subst (Only IsOfCheck) (sym same) tt)

pub checked_in_later : (syntax : Syntax) (bytes : List ℕ) (answer : Result (List ℕ) Refusal) → IsCheckedIn syntax bytes answer → Only IsOfCheck answer
checked_in_later syntax bytes = only_follows IsOfCheck (IsDevelopmentIn syntax bytes) IsChecked (development_in_later syntax bytes) checked_later

-- what is said of an accepted development
pub checked_says : (syntax : Syntax) (bytes said : List ℕ) → IsCheckedIn syntax bytes (Ok said) → said ≡ typed_text
checked_says syntax bytes said h =
    let read = follows_found (IsDevelopmentIn syntax bytes) IsChecked said h in
    let typed = follows_found (IsTyping read.0) (λ typed end. end ≡ Ok typed_text) said read.2 in
    found_same {F = Refusal} said typed_text typed.2

-- ---- bytes are read in one way

-- a reading that lacks no memory
abbrev IsFound : {A : Type 0} → Result A LpFault → Type 0
IsFound (Ok found) = Unit {0}
IsFound (Err lp_fault.Memory) = ⊥
IsFound (Err fault) = Unit {0}

then_found : {A B : Type 0} (first : Result A LpFault) (next : A → Result B LpFault) → IsFound first → ((found : A) → IsFound (next found)) → IsFound (first then next)
then_found (Ok found) next h k = k found
then_found (Err lp_fault.Memory) next h k = absurd h
then_found (Err fault) next h k = h

chosen_found : (deep : Bool) (at : ℕ) (command : Command) → IsFound (let r : Result Command LpFault = if deep then Err (lp_fault.TooDeep at) else Ok command in r)
chosen_found true at command = tt
chosen_found false at command = tt

weighed_found : (at : ℕ) (read : _) → IsFound (weighed at read)
weighed_found at None = tt
weighed_found at (Some (said, rest)) = then_found (kept_at at (command_of said)) (λ command. Ok (command, rest)) (chosen_found (is_too_deep (command_of said)) at (command_of said)) (λ command. tt)

-- `search` finds how far the reading of a command came, which has no name here
one_found : (at : ℕ) (here : List ℕ) → IsFound (one_at at here)
unfolding one_at
one_found at here = search weighed_found

from_found : (total : ℕ) (more : List ℕ → Result (List Command) LpFault) → ((bytes : List ℕ) → IsFound (more bytes)) → (here : List ℕ) → IsFound (commands_from total more here)
unfolding commands_from
from_found total more each [] = tt
from_found total more each (b ∷ bytes) =
    then_found (one_at (total - length (b ∷ bytes)) (b ∷ bytes)) (λ command. more command.1 then λ commands. Ok (command.0 ∷ commands)) (one_found (total - length (b ∷ bytes)) (b ∷ bytes))
    (λ command. then_found (more command.1) (λ commands. Ok (command.0 ∷ commands)) (each command.1) (λ commands. tt))

at_found : (total n : ℕ) (bytes : List ℕ) → IsFound (commands_at total n bytes)
unfolding commands_at
at_found total zero bytes = tt
at_found total (suc n) bytes = from_found total (commands_at total n) (at_found total n) (skip false bytes)

as_found : (read : Result (List Command) LpFault) → IsFound read → as_development read ≢ Err lp_fault.Memory
as_found (Ok commands) h e = cc
as_found (Err lp_fault.Memory) h e = h
as_found (Err fault) h e = cc

-- what is read is answered, and nothing else
answers_same : (read one other : Result Dev LpFault) → read ≢ Err lp_fault.Memory → Answers (λ x. x) read one → Answers (λ x. x) read other → one ≡ other
answers_same (Ok development) one other not h k = h ∙ sym k
answers_same (Err (lp_fault.NotLp at)) one other not h k = h ∙ sym k
answers_same (Err (lp_fault.TooDeep at)) one other not h k = h ∙ sym k
answers_same (Err lp_fault.Memory) one other not h k = absurd (not refl)

answers_itself : (read : Result (List Command) LpFault) → Answers (λ x. x) read read
answers_itself (Ok commands) = refl
answers_itself (Err (lp_fault.NotLp at)) = refl
answers_itself (Err (lp_fault.TooDeep at)) = refl
answers_itself (Err lp_fault.Memory) = tt

one_read : (bytes : List ℕ) → IsOne lp_fault.Memory (IsReadAnswer bytes)
one_read bytes one other h k not_one not_other =
    let read = text_at bytes in
    answers_same (as_development read) one other (as_found read (at_found (length bytes) (length bytes + 1) bytes))
    (only_answer bytes read one (answers_itself read) h not_one)
    (only_answer bytes read other (answers_itself read) k not_other)

-- ---- a development has one first failure

want_same : (one other : Want) → want_of one ≡ want_of other → one ≡ other
want_same (Exactly a) (Exactly b) e = let same : term_of a ≡ term_of b = cc in ap Exactly (view_injective a b same)
want_same (Exactly a) Product e = absurd cc
want_same (Exactly a) Sorted e = absurd cc
want_same Product (Exactly b) e = absurd cc
want_same Product Product e = refl
want_same Product Sorted e = absurd cc
want_same Sorted (Exactly b) e = absurd cc
want_same Sorted Product e = absurd cc
want_same Sorted Sorted e = refl

-- the failure that a fault tells, of want of memory none
abbrev failure_of : CheckFault → Option Failure
failure_of (check_fault.BadPrelude command) = Some (bad_prelude command)
failure_of (check_fault.BadSymbol command) = Some (bad_symbol command)
failure_of (check_fault.BadGoal command) = Some (bad_goal command)
failure_of (check_fault.UnknownName node name) = Some (in_goal (unknown_name node name))
failure_of (check_fault.OutOfFragment node) = Some (in_goal (out_of_fragment node))
failure_of (check_fault.IllTyped node want found level) = Some (in_goal (ill_typed node (want_of want) (term_of found) level))
failure_of check_fault.Memory = None

fault_tells : (fault : CheckFault) (failure : Option Failure) → fault ≢ check_fault.Memory → IsFaultOf fault failure → failure ≡ failure_of fault
fault_tells check_fault.Memory failure not h = absurd (not refl)
fault_tells (check_fault.BadPrelude command) failure not h = h
fault_tells (check_fault.BadSymbol command) failure not h = h
fault_tells (check_fault.BadGoal command) failure not h = h
fault_tells (check_fault.UnknownName node name) failure not h = h
fault_tells (check_fault.OutOfFragment node) failure not h = h
fault_tells (check_fault.IllTyped node want found level) failure not h = h

-- a fault tells some failure
fault_fails : (fault : CheckFault) → fault ≢ check_fault.Memory → failure_of fault ≢ None
fault_fails check_fault.Memory not e = not refl
fault_fails (check_fault.BadPrelude command) not e = cc
fault_fails (check_fault.BadSymbol command) not e = cc
fault_fails (check_fault.BadGoal command) not e = cc
fault_fails (check_fault.UnknownName node name) not e = cc
fault_fails (check_fault.OutOfFragment node) not e = cc
fault_fails (check_fault.IllTyped node want found level) not e = cc

ill_typed_same : (m n : ℕ) (v w : Want) (f g : Lp) (k l : ℕ) → failure_of (check_fault.IllTyped m v f k) ≡ failure_of (check_fault.IllTyped n w g l)
    → check_fault.IllTyped m v f k ≡ check_fault.IllTyped n w g l
ill_typed_same m n v w f g k l e =
    let nodes : m ≡ n = cc in
    let levels : k ≡ l = cc in
    let wants : want_of v ≡ want_of w = cc in
    let types : term_of f ≡ term_of g = cc in
    let same_wants : v ≡ w = want_same v w wants in
    let same_types : f ≡ g = view_injective f g types in
    cc

one_fault : (one other : CheckFault) → one ≢ check_fault.Memory → failure_of one ≡ failure_of other → one ≡ other
one_fault check_fault.Memory other not e = absurd (not refl)
one_fault (check_fault.BadPrelude m) (check_fault.BadPrelude n) not e = cc
one_fault (check_fault.BadPrelude m) other not e = absurd cc
one_fault (check_fault.BadSymbol m) (check_fault.BadSymbol n) not e = cc
one_fault (check_fault.BadSymbol m) other not e = absurd cc
one_fault (check_fault.BadGoal m) (check_fault.BadGoal n) not e = cc
one_fault (check_fault.BadGoal m) other not e = absurd cc
one_fault (check_fault.UnknownName m x) (check_fault.UnknownName n y) not e = cc
one_fault (check_fault.UnknownName m x) other not e = absurd cc
one_fault (check_fault.OutOfFragment m) (check_fault.OutOfFragment n) not e = cc
one_fault (check_fault.OutOfFragment m) other not e = absurd cc
one_fault (check_fault.IllTyped m v f k) (check_fault.IllTyped n w g l) not e = ill_typed_same m n v w f g k l e
one_fault (check_fault.IllTyped m v f k) other not e = absurd cc

one_verdict : (failure : Option Failure) → IsOne check_fault.Memory (λ found. IsVerdict found failure)
one_verdict failure (Ok one) (Ok other) h k not_one not_other = refl
one_verdict failure (Ok one) (Err other) h k not_one not_other =
    let definite : other ≢ check_fault.Memory = λ e. not_other (ap Err e) in
    absurd (fault_fails other definite (sym (fault_tells other failure definite k) ∙ h))
one_verdict failure (Err one) (Ok other) h k not_one not_other =
    let definite : one ≢ check_fault.Memory = λ e. not_one (ap Err e) in
    absurd (fault_fails one definite (sym (fault_tells one failure definite h) ∙ k))
one_verdict failure (Err one) (Err other) h k not_one not_other =
    let definite : one ≢ check_fault.Memory = λ e. not_one (ap Err e) in
    ap Err (one_fault one other definite (sym (fault_tells one failure definite h) ∙ fault_tells other failure (λ e. not_other (ap Err e)) k))

-- ---- the stages

one_development : (syntax : Syntax) (bytes : List ℕ) → IsOne refusal.Memory (IsDevelopmentIn syntax bytes)
one_development Lambdapi bytes = one_told development_refusal lp_fault.Memory (λ fault e. ap development_refusal e) (IsReadAnswer bytes) (one_read bytes)
one_development Dedukti bytes = one_told dedukti_refusal dk_fault.Memory (λ fault e. ap dedukti_refusal e) (IsReadDkAnswer bytes) (one_dk_read bytes)

one_typing : (development : Dev) → IsOne refusal.Memory (IsTyping development)
one_typing development =
    one_told check_refusal check_fault.Memory (λ fault e. ap check_refusal e) (HasVerdict development) (one_verdict (first_failure development.commands))

one_checked : (development : Dev) → IsOne refusal.Memory (IsChecked development)
one_checked development =
    one_of_two (IsTyping development) (λ typed end. end ≡ Ok typed_text) (one_typing development) (λ typed one other h k not_one not_other. h ∙ sym k)

pub one_checked_in : (syntax : Syntax) (bytes : List ℕ) → IsOne refusal.Memory (IsCheckedIn syntax bytes)
one_checked_in syntax bytes = one_of_two (IsDevelopmentIn syntax bytes) IsChecked (one_development syntax bytes) one_checked
