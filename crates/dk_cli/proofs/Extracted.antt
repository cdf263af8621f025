-- What `extract` writes are the derived steps as problems.
use Rattle.std.proofs.Common.{◌≡◌, ℕ, List, Ok, Err, None, Some, inl, inr, sym, ◌∙◌, subst}
use Rattle.std.specs.declared.option.Option.{Option}
use Rattle.std.specs.declared.result.Result.{Result}
use Rattle.std.specs.Io.KnownBytes.{Appends}
use Rattle.dk_io.specs.Outside.{Told}
use Rattle.extract.specs.StepProblems.{problems_of}
use Rattle.dk_cli.specs.Answer.{Answers, AnswersCommand, IsTold}
use Rattle.words.specs.Commands.{Names}
use Rattle.dk_cli.specs.Commands.{Command, extract}
use Rattle.dk_cli.specs.Delivery.{Change, Delivers}
use Rattle.dk_cli.specs.Derivations.{IsDerivationAt}
use Rattle.dk_cli.specs.Extraction.{IsExtracted, WritesProblems}
use Rattle.dk_cli.specs.Outcome.{IsOutcome}
use Rattle.dk_cli.specs.declared.refusal.Refusal.{Refusal}
use Rattle.dk_cli.specs.declared.refusal.Status.{Status}
use Rattle.dk_cli.specs.declared.refusal.Status.TheVariants as status
use Rattle.dk_cli.specs.declared.derivation.Derivation.{Derivation}
use Rattle.dk_cli.proofs.Carried.{has_written, refusal_not_done}
use Rattle.dk_cli.proofs.DerivationLaws.{IsLater}
use Rattle.dk_cli.proofs.StageLaws.{Only, follows_found, found_same}

-- memory alone may lack
pub extracted_later : (d : Derivation) (answer : Result (List ℕ) Refusal) → IsExtracted d answer → Only IsLater answer
extracted_later d answer h = subst (Only IsLater) (sym h) tt

module _ (told : Told) (names : Names) (before now : ℕ) where
  writes_text : (given : Told) (text : List ℕ) (out : Change) → IsTold given (IsOutcome (extract names)) (Ok text) → Appends out.old out.new text
      → WritesProblems given names out
  writes_text None text out outcome bytes = tt
  writes_text (Some files) text out outcome bytes =
      let found = follows_found (IsDerivationAt names files) IsExtracted text outcome.given in
      let same = found_same {F = Refusal} text (problems_of found.0.trace.steps found.0.graph.parents) found.2 in
      (found.0, found.1, subst (Appends out.old out.new) same bytes)

  told_text : (text : List ℕ) → AnswersCommand told (extract names) before now (Ok text) → IsTold told (IsOutcome (extract names)) (Ok text)
  told_text text a = elim a.outcome [ inl h ↦ absurd h.0 | inr rest ↦ elim rest [ inl h ↦ absurd h | inr outcome ↦ outcome ] ]

  extracts : (answer : Result (List ℕ) Refusal) (result : Status) (out notes : Change)
      → AnswersCommand told (extract names) before now answer → Delivers answer result out notes → result ≡ status.Done → WritesProblems told names out
  extracts (Ok text) result out notes a d done = writes_text told text out (told_text text a) (has_written text result out notes d done).bytes
  extracts (Err refusal) result out notes a d done = absurd (refusal_not_done refusal result notes d.1 done)

-- status 0 of `extract` comes with the problems
pub writes_problems : (told : Told) (command : Option Command) (before now : ℕ) (answer : Result (List ℕ) Refusal) (result : Status) (out notes : Change)
    → Answers told command before now answer → Delivers answer result out notes → (names : Names) → command ≡ Some (extract names) → result ≡ status.Done
    → WritesProblems told names out
writes_problems told command before now answer result out notes a d names asked done =
    extracts told names before now answer result out notes (subst (λ c. Answers told c before now answer) asked a) d done
