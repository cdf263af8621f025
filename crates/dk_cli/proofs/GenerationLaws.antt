-- What `generate` refuses, and that what is made gives one answer.
use Rattle.std.proofs.Common.{◌≡◌, ◌≢◌, ℕ, ◌<◌, ◌⊎◌, List, length, Ok, Err, None, Some, IfErr, inl, inr, sym, ◌∙◌, ap, subst, arith}
use Rattle.std.proofs.lemmas.List.{length-map}
use Rattle.std.specs.declared.result.Result.{Result}
use Rattle.derivation_graph.specs.Graphs.{HasNoCycle}
use Rattle.dk_io.specs.Outside.{Told}
use Rattle.dk_syntax.specs.Problems.{HasItsSymbols}
use Rattle.generator.specs.Files.{problem_text, trace_text}
use Rattle.ground_instances.specs.Lists.{instances_of}
use Rattle.ground_instances.specs.Rows.{written}
use Rattle.ground_instances.specs.declared.instance.Instances.{Instances}
use Rattle.plan.proofs.OnePlan.{plans_are_one}
use Rattle.plan.specs.Laws.{AreWellFormed}
use Rattle.plan.specs.declared.plan.Plan.{Plan}
use Rattle.plan_symbols.specs.Laws.{RootsAreWellFormed}
use Rattle.dk_cli.specs.Answer.{AnswersCommand, IsAnswer, IsMemory, IsOfMade, IsReadFault, IsTold, LacksFile, Refuses}
use Rattle.dk_cli.specs.Checking.{IsCheckedIn}
use Rattle.dk_cli.specs.Commands.{generate}
use Rattle.dk_cli.specs.Conversion.{IsWritten}
use Rattle.dk_cli.specs.Derivations.{IsDerivationIn}
use Rattle.dk_cli.specs.Generation.{IsGenerated, IsSummarized, IsSummaryOf, IsSummed, counts_text, made_limit, summary_text}
use Rattle.dk_cli.specs.Outcome.{IsGiven}
use Rattle.dk_cli.specs.Planning.{IsPlanOf}
use Rattle.dk_cli.specs.Stages.{Answered, Continues, Follows}
use Rattle.dk_cli.specs.declared.derivation.Derivation.{Derivation}
use Rattle.dk_cli.specs.declared.refusal.Refusal.{Refusal}
use Rattle.dk_cli.specs.declared.refusal.Refusal.TheVariants as refusal
use Rattle.dk_cli.specs.declared.syntax.Syntax.TheVariants.{Lambdapi}
use Rattle.dk_cli.proofs.CheckLaws.{IsOfCheck, checked_in_later, one_checked_in}
use Rattle.dk_cli.proofs.Continued.{answers_command}
use Rattle.dk_cli.proofs.ConversionLaws.{written_later, written_same}
use Rattle.dk_cli.proofs.DerivationLaws.{IsLater, derivation_later}
use Rattle.dk_cli.proofs.PlanningLaws.{plan_found, plan_later, plan_refuses}
use Rattle.dk_cli.proofs.StageLaws.{IsOne, Only, one_of_refusing, one_of_two, only_follows}

-- ---- what is refused

made_of_later : (why : Refusal) → IsLater why → IsOfMade why
made_of_later refusal.Words h = absurd h
made_of_later (refusal.ReadFault which) h = absurd h
made_of_later refusal.WriteFault h = absurd h
made_of_later other h = tt

made_of_check : (why : Refusal) → IsOfCheck why → IsOfMade why
made_of_check refusal.Words h = absurd h
made_of_check (refusal.ReadFault which) h = absurd h
made_of_check refusal.WriteFault h = absurd h
made_of_check other h = tt

wider : {A : Type 0} (P Q : Refusal → Type 0) → ((why : Refusal) → P why → Q why) → (answer : Result A Refusal) → Only P answer → Only Q answer
wider P Q from (Ok found) h = tt
wider P Q from (Err why) h = from why h

summary_later : (number : ℕ) (d : Derivation) (plan : Plan) (text : List ℕ) (answer : Result (List ℕ) Refusal) → IsSummaryOf number d plan text answer → Only IsOfMade answer
summary_later number d plan text =
    only_follows IsOfMade (IsCheckedIn Lambdapi text) (λ said end. end ≡ Ok (summary_text number d plan))
    (λ first h. wider IsOfCheck IsOfMade made_of_check first (checked_in_later Lambdapi text first h)) (λ said end same. subst (Only IsOfMade) (sym same) tt)

summarized_later : (number : ℕ) (d : Derivation) (plan : Plan) (answer : Result (List ℕ) Refusal) → IsSummarized number d plan answer → Only IsOfMade answer
summarized_later number d plan =
    only_follows IsOfMade (IsWritten Lambdapi d plan) (IsSummaryOf number d plan)
    (λ first h. wider IsLater IsOfMade made_of_later first (written_later Lambdapi d plan first h)) (summary_later number d plan)

summed_later : (number : ℕ) (d : Derivation) (answer : Result (List ℕ) Refusal) → IsSummed number d answer → Only IsOfMade answer
summed_later number d =
    only_follows IsOfMade (IsPlanOf made_limit d) (IsSummarized number d)
    (λ first h. wider IsLater IsOfMade made_of_later first (plan_later made_limit d first h)) (summarized_later number d)

generated_later : (number : ℕ) (answer : Result (List ℕ) Refusal) → IsGenerated number answer → Only IsOfMade answer
generated_later number =
    only_follows IsOfMade (IsDerivationIn (problem_text number) (trace_text number)) (IsSummed number)
    (λ first h. wider IsLater IsOfMade made_of_later first (derivation_later (problem_text number) (trace_text number) first h)) (summed_later number)

-- ---- the answer to the command

unread : (answer : Result (List ℕ) Refusal) → Only IsOfMade answer → IsReadFault answer → ⊥
unread (Ok text) h k = k
unread (Err (refusal.ReadFault which)) h k = h
unread (Err why) h k = k

refuses_such : (answer : Result (List ℕ) Refusal) → Only IsOfMade answer → IfErr answer IsOfMade
refuses_such (Ok text) h = tt
refuses_such (Err why) h = h

module _ (told : Told) (number n : ℕ) where
  told_made : (given : Told) (answer : Result (List ℕ) Refusal) → IsGenerated number answer → IsTold given (IsGiven (generate number)) answer
  told_made None answer h = tt
  told_made (Some files) answer h = h

  made_answer : (answer : Result (List ℕ) Refusal) → Only IsOfMade answer → IsMemory answer ⊎ IsTold told (IsGiven (generate number)) answer
      → AnswersCommand told (generate number) n n answer
  made_answer answer later outcome = answers_command told (generate number) n n answer record {
    later = omega arith;
    rose = λ r. absurd (omega (arith, r));
    lacks = λ l. absurd l;
    outcome = inr outcome;
    read_fault = λ f. absurd (unread answer later f);
    refusal = refuses_such answer later;
  }

  -- no file of the inputs is read
  pub generated_answers : (answer : Result (List ℕ) Refusal) → Answered (IsGenerated number) answer → AnswersCommand told (generate number) n n answer
  generated_answers (Ok text) h = made_answer (Ok text) tt (inr (told_made told (Ok text) h))
  generated_answers (Err refusal.Memory) h = made_answer (Err refusal.Memory) tt (inl tt)
  generated_answers (Err why) h = made_answer (Err why) (generated_later number (Err why) h) (inr (told_made told (Err why) h))

-- ---- one answer

-- an accepted text gives this line
abbrev EndsWith : List ℕ → List ℕ → Result (List ℕ) Refusal → Type 0
EndsWith sum text answer = Follows (IsCheckedIn Lambdapi text) (λ said end. end ≡ Ok sum) answer

-- plans that are alike have as many instances
rows_same : (one other : Instances) → instances_of one ≡ instances_of other → length one.rows ≡ length other.rows
rows_same one other same = sym (length-map one.rows (written one.table)) ∙ ap length same ∙ length-map other.rows (written other.table)

module _ (roots : RootsAreWellFormed) (number : ℕ) (d : Derivation) (acyclic : HasNoCycle d.graph.parents) (symbols : HasItsSymbols d.problem) (formed : AreWellFormed d.trace.steps) where
  summary_same : (x y : Plan) → IsPlanOf made_limit d (Ok x) → IsPlanOf made_limit d (Ok y) → summary_text number d x ≡ summary_text number d y
  summary_same x y found another =
      let h = plan_found made_limit d x found in
      let alike = plans_are_one d.problem d.trace made_limit x y h (plan_found made_limit d y another) in
      let order = alike.order formed (roots d.problem d.trace made_limit x h symbols formed) in
      let hypotheses = length d.problem.hyps in
      let steps = length d.trace.steps in
      ap (λ rows. counts_text number hypotheses steps rows (length x.order) x.weight) (rows_same x.instances y.instances alike.instances)
      ∙ ap (λ terms. counts_text number hypotheses steps (length y.instances.rows) (length terms) x.weight) order
      ∙ ap (counts_text number hypotheses steps (length y.instances.rows) (length y.order)) alike.weight

  -- from one text
  ended : (sum : List ℕ) (first one other : Result (List ℕ) Refusal) → Continues (EndsWith sum) first one
      → Continues (EndsWith sum) first other → one ≢ Err refusal.Memory → other ≢ Err refusal.Memory → one ≡ other
  ended sum (Ok text) one other h k not_one not_other =
      one_of_two (IsCheckedIn Lambdapi text) (λ said end. end ≡ Ok sum) (one_checked_in Lambdapi text) (λ said a b i j not_a not_b. i ∙ sym j) one other h k not_one not_other
  ended sum (Err why) one other h k not_one not_other = h ∙ sym k

  summarized_same : (x y : Plan) → IsPlanOf made_limit d (Ok x) → IsPlanOf made_limit d (Ok y) → (one other : Result (List ℕ) Refusal) → IsSummarized number d x one → IsSummarized number d y other
      → one ≢ Err refusal.Memory → other ≢ Err refusal.Memory → one ≡ other
  summarized_same x y found another one other (first, h, k) (second, i, j) not_one not_other =
      let texts = written_same roots Lambdapi made_limit d acyclic symbols formed x y found another first second h i in
      let after = subst (λ text. Continues (IsSummaryOf number d y) text other) (sym texts) j in
      ended (summary_text number d y) first one other (subst (λ sum. Continues (EndsWith sum) first one) (summary_same x y found another) k) after not_one not_other

  pub one_summed : IsOne refusal.Memory (IsSummed number d)
  one_summed = one_of_refusing (IsPlanOf made_limit d) (IsSummarized number d) (plan_refuses made_limit d acyclic) summarized_same
