-- `check` writes `typed` exactly for files that hold an accepted development.
use Rattle.std.proofs.Common.{◌≡◌, ℕ, ◌≤◌, List, length, Ok, Err, None, Some, IfSome, inl, inr, refl, sym, ◌∙◌, ap, subst}
use Rattle.std.specs.declared.option.Option.{Option}
use Rattle.std.specs.declared.result.Result.{Result}
use Rattle.std.specs.Io.KnownBytes.{Appends}
use Rattle.dk_io.specs.Outside.{Told}
use Rattle.lp_kernel.proofs.AcceptanceLaws.{accepted, accepted_typed, no_failure_of}
use Rattle.lp_kernel.specs.Acceptance.{HasTypedGoal}
use Rattle.lp_kernel.specs.declared.Typed.{Typed}
use Rattle.lp_term.specs.declared.Dev.{Dev}
use Rattle.dk_cli.specs.Answer.{Answers, AnswersCommand, IsTold}
use Rattle.dk_cli.specs.Checking.{HasVerdict, HoldsAccepted, IsCheckedAt, IsCheckedIn, IsChecked, IsDevelopmentIn, IsTyping, TypesAccepted, WritesTyped, check_refusal, typed_text}
use Rattle.dk_cli.specs.Commands.{Command, check}
use Rattle.dk_cli.specs.Delivery.{Change, Delivers}
use Rattle.dk_cli.specs.Derivations.{IsFile, byte_limit}
use Rattle.dk_cli.specs.Headline.{CarriesOutEach}
use Rattle.dk_cli.specs.Outcome.{IsOutcome}
use Rattle.dk_cli.specs.declared.refusal.File.{File}
use Rattle.dk_cli.specs.declared.refusal.File.TheVariants as file
use Rattle.dk_cli.specs.declared.refusal.Refusal.{Refusal}
use Rattle.dk_cli.specs.declared.refusal.Status.{Status}
use Rattle.dk_cli.specs.declared.refusal.Status.TheVariants as status
use Rattle.dk_cli.specs.declared.syntax.Syntax.{Syntax}
use Rattle.dk_cli.proofs.Carried.{has_written, refusal_not_done, some_carries}
use Rattle.dk_cli.proofs.StageLaws.{follows_found, found_same, told_found}

-- ---- what is written

-- what is known of a file whose development was accepted
record IsTypedText (syntax : Syntax) (found : Option (List ℕ)) (text : List ℕ) : Type 0 where
  pub bytes : List ℕ
  pub is : found ≡ Some bytes
  pub holds : HoldsAccepted syntax bytes
  pub typed : HasTypedGoal holds.development.commands
  pub same : text ≡ typed_text

-- a file whose bytes were found
file_found : (which : File) (found : Option (List ℕ)) (bytes : List ℕ) → IsFile which found (Ok bytes) → (found ≡ Some bytes) × (length bytes ≤ byte_limit)
file_found which None bytes h = absurd cc
file_found which (Some others) bytes h = (ap Some (sym h.0), subst (λ bs. length bs ≤ byte_limit) (sym h.0) h.1)

typed_file : (syntax : Syntax) (found : Option (List ℕ)) (text : List ℕ) (bytes : List ℕ) (development : Dev) (typed : Typed)
    → IsFile file.Development found (Ok bytes) → IsDevelopmentIn syntax bytes (Ok development) → IsTyping development (Ok typed)
    → (let answer : Result (List ℕ) Refusal = Ok text in answer) ≡ Ok typed_text → IsTypedText syntax found text
typed_file syntax found text bytes development typed whole read checked same =
    let there = file_found file.Development found bytes whole in
    let accepts = accepted development.commands (told_found check_refusal (HasVerdict development) typed checked) in record {
      bytes = bytes;
      is = there.0;
      holds = record { fits = there.1; development = development; read = read; accepted = accepts };
      typed = accepted_typed development.commands accepts;
      same = found_same {F = Refusal} text typed_text same;
    }

typed_at : (syntax : Syntax) (name : List ℕ) (files : List ℕ → Option (List ℕ)) (text : List ℕ) → IsCheckedAt syntax name files (Ok text) → IsTypedText syntax (files name) text
typed_at syntax name files text h =
    let first = follows_found (IsFile file.Development (files name)) (IsCheckedIn syntax) text h in
    let second = follows_found (IsDevelopmentIn syntax first.0) IsChecked text first.2 in
    let third = follows_found (IsTyping second.0) (λ typed end. end ≡ Ok typed_text) text second.2 in
    typed_file syntax (files name) text first.0 second.0 third.0 first.1 second.1 third.1 third.2

module _ (syntax : Syntax) (told : Told) (name : List ℕ) (before now : ℕ) where
  writes_text : (given : Told) (text : List ℕ) (out : Change) → IsTold given (IsOutcome (check syntax name)) (Ok text) → Appends out.old out.new text
      → WritesTyped syntax given name out
  writes_text None text out outcome bytes = tt
  writes_text (Some files) text out outcome bytes =
      let found = typed_at syntax name files text outcome.given in
      (found.bytes, found.is, (found.holds, found.typed, subst (Appends out.old out.new) found.same bytes))

  told_text : (text : List ℕ) → AnswersCommand told (check syntax name) before now (Ok text) → IsTold told (IsOutcome (check syntax name)) (Ok text)
  told_text text a = elim a.outcome [ inl h ↦ absurd h.0 | inr rest ↦ elim rest [ inl h ↦ absurd h | inr outcome ↦ outcome ] ]

  types : (answer : Result (List ℕ) Refusal) (result : Status) (out notes : Change)
      → AnswersCommand told (check syntax name) before now answer → Delivers answer result out notes → result ≡ status.Done → WritesTyped syntax told name out
  types (Ok text) result out notes a d done = writes_text told text out (told_text text a) (has_written text result out notes d done).bytes
  types (Err refusal) result out notes a d done = absurd (refusal_not_done refusal result notes d.1 done)

-- status 0 of `check` comes with `typed`
pub writes_typed : (told : Told) (command : Option Command) (before now : ℕ) (answer : Result (List ℕ) Refusal) (result : Status) (out notes : Change)
    → Answers told command before now answer → Delivers answer result out notes → (syntax : Syntax) (name : List ℕ) → command ≡ Some (check syntax name) → result ≡ status.Done
    → WritesTyped syntax told name out
writes_typed told command before now answer result out notes a d syntax name asked done =
    types syntax told name before now answer result out notes (subst (λ c. Answers told c before now answer) asked a) d done

-- ---- and of which files

-- the outcome of a file that holds an accepted development
accepted_outcome : (syntax : Syntax) (name : List ℕ) (files : List ℕ → Option (List ℕ)) (bytes : List ℕ) (typed : Typed) → files name ≡ Some bytes → HoldsAccepted syntax bytes → IsOutcome (check syntax name) files (Ok typed_text)
accepted_outcome syntax name files bytes typed is holds = record {
  given = (
    Ok bytes,
    rw is (refl, holds.fits),
    (
      Ok holds.development,
      holds.read,
      (Ok typed, (Ok typed, no_failure_of holds.development.commands holds.accepted, refl), refl),
    ),
  );
  memory = λ e. cc;
}

accepts_each : (syntax : Syntax) (told : Told) (name : List ℕ) (before now : ℕ) (result : Status) (out notes : Change) → CarriesOutEach told (check syntax name) before now result out notes
    → TypesAccepted syntax told name before now result out
accepts_each syntax None name before now result out notes each = tt
accepts_each syntax (Some files) name before now result out notes each = λ bytes is holds reads cut memory.
    (each (Ok typed_text) (accepted_outcome syntax name files bytes (record {}) is holds) reads cut memory).status

pub types_accepted : (told : Told) (command : Option Command) (before now : ℕ) (answer : Result (List ℕ) Refusal) (result : Status) (out notes : Change)
    → Answers told command before now answer → Delivers answer result out notes → (syntax : Syntax) (name : List ℕ) → command ≡ Some (check syntax name)
    → TypesAccepted syntax told name before now result out
types_accepted told command before now answer result out notes a d syntax name asked =
    let carried = some_carries told command before now answer result out notes a d in
    accepts_each syntax told name before now result out notes (subst (λ c. IfSome c (λ found. CarriesOutEach told found before now result out notes)) asked carried)
