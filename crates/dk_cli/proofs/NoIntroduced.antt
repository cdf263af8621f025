-- What `convert` writes leaves out each symbol that a step introduces.
use Rattle.std.proofs.Common.{◌≡◌, ℕ, List, Ok, Err, None, Some, inl, inr, sym, ◌∙◌, subst}
use Rattle.std.specs.declared.option.Option.{Option}
use Rattle.std.specs.declared.result.Result.{Result}
use Rattle.std.specs.Io.KnownBytes.{Appends}
use Rattle.dk_io.specs.Outside.{Told}
use Rattle.dk_cli.specs.Answer.{Answers, AnswersCommand, IsTold}
use Rattle.words.specs.Commands.{Names}
use Rattle.dk_cli.specs.Commands.{Command, convert}
use Rattle.dk_cli.specs.Conversion.{IsDeveloped, IsWritten}
use Rattle.dk_cli.specs.Delivery.{Change, Delivers}
use Rattle.dk_cli.specs.Derivations.{IsDerivationAt}
use Rattle.dk_cli.specs.Introduced.{LeavesOut, WritesNoIntroduced}
use Rattle.dk_cli.specs.Judging.{HasVerdicts}
use Rattle.dk_cli.specs.Outcome.{IsOutcome}
use Rattle.dk_cli.specs.Planning.{IsPlanOf}
use Rattle.dk_cli.specs.Proof.{IsProofText}
use Rattle.dk_cli.specs.declared.derivation.Derivation.{Derivation}
use Rattle.dk_cli.specs.declared.refusal.Refusal.{Refusal}
use Rattle.dk_cli.specs.declared.refusal.Status.{Status}
use Rattle.dk_cli.specs.declared.refusal.Status.TheVariants as status
use Rattle.dk_cli.specs.declared.syntax.Syntax.{Syntax}
use Rattle.step_check.specs.declared.verdict.Verdict.{Verdict}
use Rattle.dk_cli.proofs.Carried.{has_written, refusal_not_done}
use Rattle.dk_cli.proofs.LeftOut.{left_out}
use Rattle.dk_cli.proofs.PlanningLaws.{plan_verdicts}
use Rattle.dk_cli.proofs.Proved.{proved_by}
use Rattle.dk_cli.proofs.ReadDerivations.{derivation_read}
use Rattle.dk_cli.proofs.StageLaws.{follows_found}

-- the proof, and what its steps introduce is left out of it
record IsPure (syntax : Syntax) (d : Derivation) (text : List ℕ) : Type 0 where
  pub verdicts : List Verdict
  pub are : HasVerdicts d verdicts
  pub proof : IsProofText syntax d.problem text
  pub leaves : LeavesOut d.problem verdicts proof.is_proof.body

module _ (syntax : Syntax) (names : Names) (limit : ℕ) (files : List ℕ → Option (List ℕ)) where
  pure_text : (d : Derivation) (text : List ℕ) → IsDerivationAt names files (Ok d) → IsDeveloped syntax limit d (Ok text) → IsPure syntax d text
  pure_text d text at h =
      let planned = follows_found (IsPlanOf limit d) (IsWritten syntax d) text h in
      let found = plan_verdicts limit d planned.0 planned.1 in
      let proof = proved_by syntax (files names.problem) (files names.trace) limit d text (derivation_read (files names.problem) (files names.trace) d at) h in
      record {
        verdicts = found.0.list;
        are = found.1.are;
        proof = proof;
        leaves = left_out d found.0 found.1 proof.development proof.is_proof planned.2.2.names;
      }

module _ (syntax : Syntax) (told : Told) (names : Names) (limit before now : ℕ) where
  writes_text : (given : Told) (text : List ℕ) (out : Change) → IsTold given (IsOutcome (convert syntax names limit)) (Ok text) → Appends out.old out.new text
      → WritesNoIntroduced syntax given names out
  writes_text None text out outcome bytes = tt
  writes_text (Some files) text out outcome bytes =
      let found = follows_found (IsDerivationAt names files) (IsDeveloped syntax limit) text outcome.given in
      let pure = pure_text syntax names limit files found.0 text found.1 found.2 in
      (found.0, found.1, (pure.verdicts, pure.are, (text, pure.proof, pure.leaves, bytes)))

  told_text : (text : List ℕ) → AnswersCommand told (convert syntax names limit) before now (Ok text) → IsTold told (IsOutcome (convert syntax names limit)) (Ok text)
  told_text text a = elim a.outcome [ inl h ↦ absurd h.0 | inr rest ↦ elim rest [ inl h ↦ absurd h | inr outcome ↦ outcome ] ]

  converts : (answer : Result (List ℕ) Refusal) (result : Status) (out notes : Change)
      → AnswersCommand told (convert syntax names limit) before now answer → Delivers answer result out notes → result ≡ status.Done → WritesNoIntroduced syntax told names out
  converts (Ok text) result out notes a d done = writes_text told text out (told_text text a) (has_written text result out notes d done).bytes
  converts (Err refusal) result out notes a d done = absurd (refusal_not_done refusal result notes d.1 done)

-- status 0 of `convert` comes without what the steps introduce
pub writes_no_introduced : (told : Told) (command : Option Command) (before now : ℕ) (answer : Result (List ℕ) Refusal) (result : Status) (out notes : Change)
    → Answers told command before now answer → Delivers answer result out notes → (syntax : Syntax) (names : Names) (limit : ℕ) → command ≡ Some (convert syntax names limit) → result ≡ status.Done
    → WritesNoIntroduced syntax told names out
writes_no_introduced told command before now answer result out notes a d syntax names limit asked done =
    converts syntax told names limit before now answer result out notes (subst (λ c. Answers told c before now answer) asked a) d done
