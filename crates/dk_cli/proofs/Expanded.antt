-- What `expansion` writes is the report on the plan.
use Rattle.std.proofs.Common.{◌≡◌, ℕ, List, Ok, Err, None, Some, inl, inr, sym, ◌∙◌, subst}
use Rattle.std.specs.declared.option.Option.{Option}
use Rattle.std.specs.declared.result.Result.{Result}
use Rattle.std.specs.Io.KnownBytes.{Appends}
use Rattle.dk_io.specs.Outside.{Told}
use Rattle.extract.specs.ExpansionReport.{report_text}
use Rattle.dk_cli.specs.Answer.{Answers, AnswersCommand, IsTold}
use Rattle.words.specs.Commands.{Names}
use Rattle.dk_cli.specs.Commands.{Command, expansion}
use Rattle.dk_cli.specs.Delivery.{Change, Delivers}
use Rattle.dk_cli.specs.Derivations.{IsDerivationAt}
use Rattle.dk_cli.specs.Expansion.{IsExpanded, WritesReport}
use Rattle.dk_cli.specs.Outcome.{IsOutcome}
use Rattle.dk_cli.specs.Planning.{IsPlanOf}
use Rattle.dk_cli.specs.declared.refusal.Refusal.{Refusal}
use Rattle.dk_cli.specs.declared.refusal.Status.{Status}
use Rattle.dk_cli.specs.declared.refusal.Status.TheVariants as status
use Rattle.dk_cli.specs.declared.derivation.Derivation.{Derivation}
use Rattle.dk_cli.proofs.Carried.{has_written, refusal_not_done}
use Rattle.dk_cli.proofs.DerivationLaws.{IsLater}
use Rattle.dk_cli.proofs.PlanningLaws.{plan_found, plan_later}
use Rattle.dk_cli.proofs.StageLaws.{Only, follows_found, found_same, only_follows}

pub expanded_later : (d : Derivation) (limit : ℕ) (answer : Result (List ℕ) Refusal) → IsExpanded limit d answer → Only IsLater answer
expanded_later d limit =
    only_follows IsLater (IsPlanOf limit d) (λ plan end. end ≡ Ok (report_text d.trace.steps plan)) (plan_later limit d) (λ plan answer h. subst (Only IsLater) (sym h) tt)

module _ (told : Told) (names : Names) (limit before now : ℕ) where
  writes_text : (given : Told) (text : List ℕ) (out : Change) → IsTold given (IsOutcome (expansion names limit)) (Ok text) → Appends out.old out.new text
      → WritesReport given names limit out
  writes_text None text out outcome bytes = tt
  writes_text (Some files) text out outcome bytes =
      let found = follows_found (IsDerivationAt names files) (IsExpanded limit) text outcome.given in
      let d = found.0 in
      let planned = follows_found (IsPlanOf limit d) (λ plan end. end ≡ Ok (report_text d.trace.steps plan)) text found.2 in
      let same = found_same {F = Refusal} text (report_text d.trace.steps planned.0) planned.2 in
      (d, found.1, (planned.0, plan_found limit d planned.0 planned.1, subst (Appends out.old out.new) same bytes))

  told_text : (text : List ℕ) → AnswersCommand told (expansion names limit) before now (Ok text) → IsTold told (IsOutcome (expansion names limit)) (Ok text)
  told_text text a = elim a.outcome [ inl h ↦ absurd h.0 | inr rest ↦ elim rest [ inl h ↦ absurd h | inr outcome ↦ outcome ] ]

  expands : (answer : Result (List ℕ) Refusal) (result : Status) (out notes : Change)
      → AnswersCommand told (expansion names limit) before now answer → Delivers answer result out notes → result ≡ status.Done → WritesReport told names limit out
  expands (Ok text) result out notes a d done = writes_text told text out (told_text text a) (has_written text result out notes d done).bytes
  expands (Err refusal) result out notes a d done = absurd (refusal_not_done refusal result notes d.1 done)

-- status 0 of `expansion` comes with the report
pub writes_report : (told : Told) (command : Option Command) (before now : ℕ) (answer : Result (List ℕ) Refusal) (result : Status) (out notes : Change)
    → Answers told command before now answer → Delivers answer result out notes → (names : Names) (limit : ℕ) → command ≡ Some (expansion names limit) → result ≡ status.Done
    → WritesReport told names limit out
writes_report told command before now answer result out notes a d names limit asked done =
    expands told names limit before now answer result out notes (subst (λ c. Answers told c before now answer) asked a) d done
