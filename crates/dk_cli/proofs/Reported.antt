-- What `steps` writes are the lines of the verdicts.
use Rattle.std.proofs.Common.{◌≡◌, ℕ, List, Ok, Err, None, Some, inl, inr, sym, ◌∙◌, subst}
use Rattle.std.specs.declared.option.Option.{Option}
use Rattle.std.specs.declared.result.Result.{Result}
use Rattle.std.specs.Io.KnownBytes.{Appends}
use Rattle.dk_io.specs.Outside.{Told}
use Rattle.extract.specs.StepLines.{lines_of}
use Rattle.dk_cli.specs.Answer.{Answers, AnswersCommand, IsTold}
use Rattle.words.specs.Commands.{Names}
use Rattle.dk_cli.specs.Commands.{Command, steps}
use Rattle.dk_cli.specs.Delivery.{Change, Delivers}
use Rattle.dk_cli.specs.Derivations.{IsDerivationAt}
use Rattle.dk_cli.specs.Outcome.{IsOutcome}
use Rattle.dk_cli.specs.StepReport.{IsReported, WritesLines}
use Rattle.dk_cli.specs.declared.refusal.Refusal.{Refusal}
use Rattle.dk_cli.specs.declared.refusal.Status.{Status}
use Rattle.dk_cli.specs.declared.refusal.Status.TheVariants as status
use Rattle.dk_cli.proofs.Carried.{has_written, refusal_not_done}
use Rattle.dk_cli.proofs.StageLaws.{follows_found, found_same}

module _ (told : Told) (names : Names) (before now : ℕ) where
  writes_text : (given : Told) (text : List ℕ) (out : Change) → IsTold given (IsOutcome (steps names)) (Ok text) → Appends out.old out.new text
      → WritesLines given names out
  writes_text None text out outcome bytes = tt
  writes_text (Some files) text out outcome bytes =
      let found = follows_found (IsDerivationAt names files) IsReported text outcome.given in
      let list = found.2.0 in
      let same = found_same {F = Refusal} text (lines_of found.0.trace.steps list) found.2.2 in
      (found.0, found.1, (list, found.2.1, subst (Appends out.old out.new) same bytes))

  told_text : (text : List ℕ) → AnswersCommand told (steps names) before now (Ok text) → IsTold told (IsOutcome (steps names)) (Ok text)
  told_text text a = elim a.outcome [ inl h ↦ absurd h.0 | inr rest ↦ elim rest [ inl h ↦ absurd h | inr outcome ↦ outcome ] ]

  reports : (answer : Result (List ℕ) Refusal) (result : Status) (out notes : Change)
      → AnswersCommand told (steps names) before now answer → Delivers answer result out notes → result ≡ status.Done → WritesLines told names out
  reports (Ok text) result out notes a d done = writes_text told text out (told_text text a) (has_written text result out notes d done).bytes
  reports (Err refusal) result out notes a d done = absurd (refusal_not_done refusal result notes d.1 done)

-- status 0 of `steps` comes with the lines
pub writes_lines : (told : Told) (command : Option Command) (before now : ℕ) (answer : Result (List ℕ) Refusal) (result : Status) (out notes : Change)
    → Answers told command before now answer → Delivers answer result out notes → (names : Names) → command ≡ Some (steps names) → result ≡ status.Done
    → WritesLines told names out
writes_lines told command before now answer result out notes a d names asked done =
    reports told names before now answer result out notes (subst (λ c. Answers told c before now answer) asked a) d done
