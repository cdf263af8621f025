-- Verdicts on the steps of a derivation: one list, one first bad step.
use Rattle.std.proofs.Common.{◌≡◌, ℕ, suc, ◌+◌, ◌-◌, List, [], ◌∷◌, length, Ok, Err, None, Some, slice_get, inl, inr, refl, sym, ◌∙◌, ap, subst}
use Rattle.std.proofs.lemmas.Bool.{cases_order}
use Rattle.std.specs.declared.option.Option.{Option}
use Rattle.std.specs.declared.result.Result.{Result}
use Rattle.dk_syntax.specs.declared.SymKey.{SymKey}
use Rattle.extract.specs.StepLines.{lines_of}
use Rattle.step_check.proofs.OneVerdict.{one_verdict_list}
use Rattle.step_check.specs.Freshness.{IsBadFirst, IsFirstBad, freshened}
use Rattle.step_check.specs.Steps.{case_of}
use Rattle.step_check.specs.declared.verdict.Verdict.{Verdict}
use Rattle.step_check.specs.declared.verdict.Verdict.TheVariants as verdict
use Rattle.step_check.specs.declared.verdict.Verdicts.{Verdicts}
use Rattle.dk_cli.specs.Judging.{AreRight, HasVerdicts, IsJudged}
use Rattle.dk_cli.specs.Stages.{Follows}
use Rattle.dk_cli.specs.StepReport.{IsReported}
use Rattle.dk_cli.specs.declared.derivation.Derivation.{Derivation}
use Rattle.dk_cli.specs.declared.refusal.Refusal.{Refusal}
use Rattle.dk_cli.specs.declared.refusal.Refusal.TheVariants as refusal
use Rattle.dk_cli.specs.declared.refusal.StepFault.{StepFault}
use Rattle.dk_cli.specs.declared.refusal.StepFault.TheVariants as step_fault
use Rattle.dk_cli.proofs.DerivationLaws.{IsLater}
use Rattle.dk_cli.proofs.StageLaws.{IsOne, Only, found_same, one_of_two, only_follows}

-- ---- the verdict list

one_list : (d : Derivation) (one other : List Verdict) → HasVerdicts d one → HasVerdicts d other → one ≡ other
one_list d = one_verdict_list (case_of d.problem d.trace d.graph)

freshened_long : (known : List SymKey) (verdicts : List Verdict) → length (freshened known verdicts) ≡ length verdicts
freshened_long known [] = refl
freshened_long known (one ∷ rest) = ap suc (freshened_long _ rest)

-- there are as many verdicts as steps
pub verdicts_long : (d : Derivation) (verdicts : List Verdict) → HasVerdicts d verdicts → length verdicts ≡ length d.trace.steps
verdicts_long d list (verdicts, first, same) = ap length same ∙ freshened_long d.problem.symbols verdicts ∙ first.long

-- ---- the first bad step

one_bad : (list : List Verdict) (one other : ℕ) → IsBadFirst list one → IsBadFirst list other → one ≡ other
one_bad list one other (p, e, bad, least) (q, d, worse, first) = elim (cases_order p q) [
  | inl same ↦ e ∙ ap (λ n. n + 1) same ∙ sym d
  | inr rest ↦ elim rest [ inl less ↦ absurd (first p less bad) | inr more ↦ absurd (least q more worse) ]
]

one_first : (list : List Verdict) (one other : Option ℕ) → IsFirstBad list one → IsFirstBad list other → one ≡ other
one_first list None None h k = refl
one_first list None (Some other) h (q, d, worse, first) = absurd (h q worse)
one_first list (Some one) None (p, e, bad, least) k = absurd (k p bad)
one_first list (Some one) (Some other) h k = ap Some (one_bad list one other h k)

-- ---- what is told of it

-- a bad verdict, told
abbrev verdict_told : ℕ → Option Verdict → Result Unit Refusal
verdict_told step (Some (verdict.Wrong reason)) = Err (refusal.Step step (step_fault.Wrong reason))
verdict_told step (Some (verdict.Over limit)) = Err (refusal.Step step (step_fault.Over limit))
verdict_told step other = Ok tt

abbrev first_told : List Verdict → Option ℕ → Result Unit Refusal
first_told list None = Ok tt
first_told list (Some step) = verdict_told step (slice_get list (step - 1))

record IsToldFirst (list : List Verdict) (answer : Result Unit Refusal) : Type 0 where
  pub bad : Option ℕ
  pub first : IsFirstBad list bad
  pub is : answer ≡ first_told list bad

told_fault : (list : List Verdict) (step : ℕ) (fault : StepFault) → AreRight list (Err (refusal.Step step fault)) → IsToldFirst list (Err (refusal.Step step fault))
told_fault list step (step_fault.Wrong reason) h = record { bad = Some step; first = h.0; is = sym (ap (verdict_told step) h.1) }
told_fault list step (step_fault.Over limit) h = record { bad = Some step; first = h.0; is = sym (ap (verdict_told step) h.1) }
told_fault list step other h = absurd h

told_first : (list : List Verdict) (answer : Result Unit Refusal) → AreRight list answer → IsToldFirst list answer
told_first list (Ok nothing) h = record { bad = None; first = h; is = refl }
told_first list (Err (refusal.Step step fault)) h = told_fault list step fault h
told_first list (Err other) h = absurd h

one_right : (list : List Verdict) (one other : Result Unit Refusal) → AreRight list one → AreRight list other → one ≡ other
one_right list one other h k =
    let a = told_first list one h in
    let b = told_first list other k in
    a.is ∙ ap (first_told list) (one_first list a.bad b.bad a.first b.first) ∙ sym b.is

-- ---- the stages

-- what is answered of a verdict list
abbrev AreHandedOn : Verdicts → Result Verdicts Refusal → Type 0
AreHandedOn verdicts answer = Follows (AreRight verdicts.list) (λ nothing end. end ≡ Ok verdicts) answer

-- verdicts that are handed on are the derivation's, and none is bad
pub record AreRightOf (d : Derivation) (verdicts : Verdicts) : Type 0 where
  pub are : HasVerdicts d verdicts.list
  pub right : IsFirstBad verdicts.list None

pub judged_right : (d : Derivation) (verdicts : Verdicts) → IsJudged d (Ok verdicts) → AreRightOf d verdicts
judged_right d verdicts (found, h, (Ok nothing, k, e)) = subst (AreRightOf d) (sym (found_same {F = Refusal} verdicts found e)) record { are = h; right = k }
judged_right d verdicts (found, h, (Err why, k, e)) = absurd cc

one_verdicts : (one other : Verdicts) → one.list ≡ other.list → one ≡ other
one_verdicts one other e = λ i. record { list = e i }

one_handed : (verdicts : Verdicts) → IsOne refusal.Memory (AreHandedOn verdicts)
one_handed verdicts =
    one_of_two (AreRight verdicts.list) (λ nothing end. end ≡ Ok verdicts) (λ one other h k not_one not_other. one_right verdicts.list one other h k)
    (λ nothing one other h k not_one not_other. h ∙ sym k)

pub one_judged : (d : Derivation) → IsOne refusal.Memory (IsJudged d)
one_judged d one other (verdicts, h, k) (others, i, j) not_one not_other =
    let same : verdicts ≡ others = one_verdicts verdicts others (one_list d verdicts.list others.list h i) in
    one_handed verdicts one other k (subst (λ v. AreHandedOn v other) (sym same) j) not_one not_other

pub one_reported : (d : Derivation) → IsOne refusal.Memory (IsReported d)
one_reported d one other (list, h, k) (another, i, j) not_one not_other = k ∙ ap (λ l. Ok (lines_of d.trace.steps l)) (one_list d list another h i) ∙ sym j

right_later : (list : List Verdict) (answer : Result Unit Refusal) → AreRight list answer → Only IsLater answer
right_later list (Ok nothing) h = tt
right_later list (Err (refusal.Step step fault)) h = tt
right_later list (Err other) h = absurd h

pub judged_later : (d : Derivation) (answer : Result Verdicts Refusal) → IsJudged d answer → Only IsLater answer
judged_later d answer (verdicts, h, k) =
    only_follows IsLater (AreRight verdicts.list) (λ nothing end. end ≡ Ok verdicts) (right_later verdicts.list) (λ nothing end same. subst (Only IsLater) (sym same) tt) answer k

pub reported_later : (d : Derivation) (answer : Result (List ℕ) Refusal) → IsReported d answer → Only IsLater answer
reported_later d answer (list, h, k) = subst (Only IsLater) (sym k) tt
