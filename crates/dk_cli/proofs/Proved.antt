-- What is written is a proof of the problem.
use Rattle.std.proofs.Common.{◌≡◌, ℕ, List, [], Ok, Err, None, Some, inl, inr, sym, ◌∙◌, subst}
use Rattle.std.specs.declared.option.Option.{Option}
use Rattle.std.specs.declared.result.Result.{Result}
use Rattle.std.specs.Io.KnownBytes.{Appends}
use Rattle.assemble.proofs.GoalViews.{goal_sorted, view_closed_goal}
use Rattle.assemble.proofs.SignatureViews.{view_signature}
use Rattle.assemble.specs.Problem.{problem_signature}
use Rattle.development.specs.Development.{IsDevelopment}
use Rattle.dk_io.specs.Outside.{Told}
use Rattle.dk_syntax.specs.declared.Problem.{Problem}
use Rattle.lp_term.proofs.ScopeLaws.{typed_below, typed_declared}
use Rattle.lp_term.specs.LambdaPi.{Term}
use Rattle.lp_term.specs.Problems.{goal_type_of}
use Rattle.lp_term.specs.Typing.{Declaration, HasType}
use Rattle.lp_term.specs.View.{term_of}
use Rattle.lp_term.specs.declared.Dev.{Dev}
use Rattle.plan.specs.declared.plan.Plan.{Plan}
use Rattle.plan_typing.proofs.BodyLaws.{plan_body_typed}
use Rattle.plan_typing.specs.Laws.{IsProperPlan, PlanBodyIsTyped, plan_body}
use Rattle.tstp_trace.specs.declared.Trace.{Trace}
use Rattle.dk_cli.specs.Answer.{Answers, AnswersCommand, IsTold}
use Rattle.words.specs.Commands.{Names}
use Rattle.dk_cli.specs.Commands.{Command, convert}
use Rattle.dk_cli.specs.Delivery.{Change, Delivers}
use Rattle.dk_cli.specs.Conversion.{IsDeveloped, IsPrinted, IsWritten}
use Rattle.dk_cli.specs.Derivations.{IsDerivationOf, IsProblemIn}
use Rattle.dk_cli.specs.Outcome.{IsOutcome}
use Rattle.dk_cli.specs.Planning.{IsPlanOf}
use Rattle.dk_cli.specs.Proof.{IsProofOf, IsProofText, IsReadAlone, WritesProof, signature_for}
use Rattle.dk_cli.specs.Stages.{Follows}
use Rattle.dk_cli.specs.Syntaxes.{text_in}
use Rattle.dk_cli.specs.declared.derivation.Derivation.{Derivation}
use Rattle.dk_cli.specs.declared.refusal.Refusal.{Refusal}
use Rattle.dk_cli.specs.declared.refusal.Status.{Status}
use Rattle.dk_cli.specs.declared.refusal.Status.TheVariants as status
use Rattle.dk_cli.specs.declared.syntax.Syntax.{Syntax}
use Rattle.dk_cli.proofs.Carried.{has_written, refusal_not_done}
use Rattle.dk_cli.proofs.PlanningLaws.{plan_found}
use Rattle.dk_cli.proofs.ProperPlans.{proper_plan}
use Rattle.dk_cli.proofs.ReadBack.{read_alone}
use Rattle.dk_cli.proofs.ReadDerivations.{IsRead, are_read, derivation_read}
use Rattle.dk_cli.proofs.StageLaws.{follows_found, found_same}

-- the development of a proper plan is a proof
module _ (typing : PlanBodyIsTyped) (syntax : Syntax) (problem : Problem) (trace : Trace) (limit : ℕ) (plan : Plan) (proper : IsProperPlan problem trace limit plan) where
  module _ (development : Dev) (is : IsDevelopment problem trace plan development) where
    body_typed : HasType (signature_for problem) [] (term_of is.body) (term_of (goal_type_of problem))
    body_typed =
        let Here : List Declaration → Type 0 = λ signature. HasType signature [] (term_of is.body) (term_of (goal_type_of problem)) in
        let WithBody : Term → Type 0 = λ body. HasType (problem_signature problem.symbols) [] body (term_of (goal_type_of problem)) in
        let WithType : Term → Type 0 = λ goal. HasType (problem_signature problem.symbols) [] (plan_body problem trace plan) goal in
        subst Here (sym (view_signature problem.symbols)) (subst WithBody (sym is.is) (subst WithType (sym (view_closed_goal problem proper.proper.closed)) (typing problem trace limit plan proper)))

    development_is_proof : IsProofOf problem development
    development_is_proof =
        let sorted = goal_sorted problem proper.proper in record {
          body = is.body;
          commands = is.commands;
          sorted = sorted;
          typed = body_typed;
          closed = typed_below body_typed;
          type_declared = typed_declared sorted;
          body_declared = typed_declared body_typed;
        }

    proof_text_of : (text : List ℕ) → IsPrinted problem development → text ≡ text_in syntax development → IsProofText syntax problem text
    proof_text_of text printed same = record {
      development = development;
      is_read = subst (λ bytes. IsReadAlone syntax bytes development) (sym same) (read_alone syntax problem development development_is_proof printed);
      canonical = same;
      is_proof = development_is_proof;
    }

-- a text that is developed is that of a proof
pub proved_by : (syntax : Syntax) (found other : Option (List ℕ)) (limit : ℕ) (d : Derivation) (text : List ℕ) → IsRead found other d → IsDeveloped syntax limit d (Ok text) → IsProofText syntax d.problem text
proved_by syntax found other limit d text read h =
    let planned = follows_found (IsPlanOf limit d) (IsWritten syntax d) text h in
    let plan = planned.0 in
    let proper = proper_plan d.problem d.trace (are_read read.bytes read.others d.problem d.trace read.spelled read.traced) limit plan (plan_found limit d plan planned.1) in
    let development = planned.2.0 in
    proof_text_of plan_body_typed syntax d.problem d.trace limit plan proper development planned.2.1 text planned.2.2 (found_same {F = Refusal} text (text_in syntax development) planned.2.3)

-- a text is that of a proof of the problem that was read
record IsReadProof (syntax : Syntax) (found : Option (List ℕ)) (text : List ℕ) : Type 0 where
  pub bytes : List ℕ
  pub is : found ≡ Some bytes
  pub problem : Problem
  pub spelled : IsProblemIn bytes (Ok problem)
  pub proof : IsProofText syntax problem text

proof_text : (syntax : Syntax) (limit : ℕ) (found other : Option (List ℕ)) (text : List ℕ) → Follows (IsDerivationOf found other) (IsDeveloped syntax limit) (Ok text) → IsReadProof syntax found text
proof_text syntax limit found other text h =
    let first = follows_found (IsDerivationOf found other) (IsDeveloped syntax limit) text h in
    let read = derivation_read found other first.0 first.1 in
    record {
      bytes = read.bytes;
      is = read.is;
      problem = first.0.problem;
      spelled = read.spelled;
      proof = proved_by syntax found other limit first.0 text read first.2;
    }

-- a text that was written whole
module _ (syntax : Syntax) (told : Told) (names : Names) (limit before now : ℕ) where
  writes_text : (given : Told) (text : List ℕ) (out : Change) → IsTold given (IsOutcome (convert syntax names limit)) (Ok text) → Appends out.old out.new text
      → WritesProof syntax given names out
  writes_text None text out outcome bytes = tt
  writes_text (Some files) text out outcome bytes =
      let proof = proof_text syntax limit (files names.problem) (files names.trace) text outcome.given in
      (proof.bytes, proof.is, (proof.problem, proof.spelled, (text, proof.proof, bytes)))

  told_text : (text : List ℕ) → AnswersCommand told (convert syntax names limit) before now (Ok text) → IsTold told (IsOutcome (convert syntax names limit)) (Ok text)
  told_text text a = elim a.outcome [ inl h ↦ absurd h.0 | inr rest ↦ elim rest [ inl h ↦ absurd h | inr outcome ↦ outcome ] ]

  converts : (answer : Result (List ℕ) Refusal) (result : Status) (out notes : Change)
      → AnswersCommand told (convert syntax names limit) before now answer → Delivers answer result out notes → result ≡ status.Done → WritesProof syntax told names out
  converts (Ok text) result out notes a d done = writes_text told text out (told_text text a) (has_written text result out notes d done).bytes
  converts (Err refusal) result out notes a d done = absurd (refusal_not_done refusal result notes d.1 done)

-- status 0 of `convert` comes with a proof
pub writes_proof : (told : Told) (command : Option Command) (before now : ℕ) (answer : Result (List ℕ) Refusal) (result : Status) (out notes : Change)
    → Answers told command before now answer → Delivers answer result out notes → (syntax : Syntax) (names : Names) (limit : ℕ) → command ≡ Some (convert syntax names limit) → result ≡ status.Done
    → WritesProof syntax told names out
writes_proof told command before now answer result out notes a d syntax names limit asked done =
    converts syntax told names limit before now answer result out notes (subst (λ c. Answers told c before now answer) asked a) d done
