-- What `generate` writes is the summary of what it made.
use Rattle.std.proofs.Common.{◌≡◌, ◌≢◌, ℕ, List, Ok, Err, Some, IfSome, inl, inr, refl, sym, ◌∙◌, subst}
use Rattle.std.specs.declared.option.Option.{Option}
use Rattle.std.specs.declared.result.Result.{Result}
use Rattle.std.specs.Io.KnownBytes.{Appends}
use Rattle.generator.specs.Files.{problem_text, trace_text}
use Rattle.dk_cli.specs.Answer.{IsFixed}
use Rattle.dk_cli.specs.Checking.{IsCheckedIn}
use Rattle.dk_cli.specs.Commands.{Command, generate}
use Rattle.dk_cli.specs.Conversion.{IsWritten}
use Rattle.dk_cli.specs.Delivery.{Change, Delivers}
use Rattle.dk_cli.specs.Derivations.{IsDerivationIn}
use Rattle.dk_cli.specs.Generation.{IsGenerated, IsSummarized, IsSummaryOf, IsSummed, WritesSummary, made_limit, summary_text}
use Rattle.dk_cli.specs.Headline.{CarriesOutMade, IsCarriedOut}
use Rattle.dk_cli.specs.Planning.{IsPlanOf}
use Rattle.dk_cli.specs.Stages.{Answered}
use Rattle.dk_cli.specs.declared.refusal.Refusal.{Refusal}
use Rattle.dk_cli.specs.declared.refusal.Refusal.TheVariants.{Memory}
use Rattle.dk_cli.specs.declared.refusal.Status.{Status}
use Rattle.dk_cli.specs.declared.refusal.Status.TheVariants as status
use Rattle.dk_cli.specs.declared.syntax.Syntax.TheVariants.{Lambdapi}
use Rattle.dk_cli.proofs.Carried.{done_by, has_written, memory_status, refusal_not_done, whole}
use Rattle.dk_cli.proofs.CheckLaws.{checked_says}
use Rattle.dk_cli.proofs.OneOutcome.{one_generated}
use Rattle.dk_cli.proofs.PlanningLaws.{plan_found}
use Rattle.dk_cli.proofs.Proved.{proved_by}
use Rattle.dk_cli.proofs.ReadDerivations.{bytes_read}
use Rattle.dk_cli.proofs.StageLaws.{follows_found, found_same}

summary_made : (number : ℕ) (text : List ℕ) (out : Change) → IsGenerated number (Ok text) → Appends out.old out.new text → WritesSummary number out
summary_made number text out h bytes =
    let problem = problem_text number in
    let trace = trace_text number in
    let read = follows_found (IsDerivationIn problem trace) (IsSummed number) text h in
    let d = read.0 in
    let planned = follows_found (IsPlanOf made_limit d) (IsSummarized number d) text read.2 in
    let plan = planned.0 in
    let made = follows_found (IsWritten Lambdapi d plan) (IsSummaryOf number d plan) text planned.2 in
    let accepted = follows_found (IsCheckedIn Lambdapi made.0) (λ said end. end ≡ Ok (summary_text number d plan)) text made.2 in
    let proof = proved_by Lambdapi (Some problem) (Some trace) made_limit d made.0 (bytes_read problem trace d read.1) (Ok plan, planned.1, made.1) in
    let says = subst (λ said. IsCheckedIn Lambdapi made.0 (Ok said)) (checked_says Lambdapi made.0 accepted.0 accepted.1) accepted.1 in
    let same = found_same {F = Refusal} text (summary_text number d plan) accepted.2 in
    (d, read.1, (plan, plan_found made_limit d plan planned.1, (made.0, made.1, proof, says, subst (Appends out.old out.new) same bytes)))

module _ (number : ℕ) where
  sums : (answer : Result (List ℕ) Refusal) (result : Status) (out notes : Change) → Answered (IsGenerated number) answer → Delivers answer result out notes
      → result ≡ status.Done → WritesSummary number out
  sums (Ok text) result out notes h d done = summary_made number text out h (has_written text result out notes d done).bytes
  sums (Err refusal) result out notes h d done = absurd (refusal_not_done refusal result notes d.1 done)

  carries : (answer : Result (List ℕ) Refusal) (result : Status) (out notes : Change) → IsGenerated number answer → answer ≢ Err Memory → Delivers answer result out notes
      → CarriesOutMade number result out notes
  carries answer result out notes h mine d = λ other given definite cut memory.
      subst (λ x. IsCarriedOut x result out notes) (one_generated number answer other h given mine definite) (whole answer result out notes cut (done_by answer result out notes memory d))

  carries_any : (answer : Result (List ℕ) Refusal) (result : Status) (out notes : Change) → Answered (IsGenerated number) answer → Delivers answer result out notes
      → CarriesOutMade number result out notes
  carries_any (Ok text) result out notes h d = carries (Ok text) result out notes h (λ e. cc) d
  carries_any (Err Memory) result out notes h d = λ other given definite cut memory. absurd (memory (memory_status (Err Memory) result out notes tt d))
  carries_any (Err why) result out notes h d = carries (Err why) result out notes h (λ e. cc) d

-- status 0 of `generate` comes with the summary
pub writes_summary : (command : Option Command) (answer : Result (List ℕ) Refusal) (result : Status) (out notes : Change)
    → IfSome command (λ found. IsFixed found answer) → Delivers answer result out notes → (number : ℕ) → command ≡ Some (generate number) → result ≡ status.Done
    → WritesSummary number out
writes_summary command answer result out notes f d number asked done =
    sums number answer result out notes (subst (λ c. IfSome c (λ found. IsFixed found answer)) asked f) d done

pub carries_made : (command : Option Command) (answer : Result (List ℕ) Refusal) (result : Status) (out notes : Change)
    → IfSome command (λ found. IsFixed found answer) → Delivers answer result out notes → (number : ℕ) → command ≡ Some (generate number)
    → CarriesOutMade number result out notes
carries_made command answer result out notes f d number asked =
    carries_any number answer result out notes (subst (λ c. IfSome c (λ found. IsFixed found answer)) asked f) d
