-- What the parts of a verdict on a derived step rest on: its parent, its parents' lists, and full images.
use Rattle.std.proofs.Common.{◌≡◌, ◌<◌, ◌≤◌, ℕ, zero, suc, Bool, List, [], ◌∷◌, length, Option, Some, None, Contains, MatchOption, refl, sym, ap, ◌∙◌, subst, arith}
use Rattle.dk_syntax.specs.declared.SymKey.{SymKey}
use Rattle.normal_form.specs.ClauseLists.{clause_rows}
use Rattle.normal_form.specs.declared.clause_list.ClauseList.{ClauseList}
use Rattle.normal_form.specs.declared.clause_list.ClauseRow.{ClauseRow}
use Rattle.normal_form.specs.declared.form.Nf.{Nf}
use Rattle.step_check.proofs.NumberedRows.{list_numbered}
use Rattle.step_check.proofs.OneRepresentative.{one_representative}
use Rattle.step_check.proofs.VerdictLaws.{over_verdict, within_all}
use Rattle.step_check.specs.Limits.{full_limit}
use Rattle.step_check.specs.Representatives.{HasOneParent, IsWithin, MayCompose, Represents}
use Rattle.step_check.specs.Steps.{aliens_of, Case, own_form, parents_of}
use Rattle.step_check.specs.Verdicts.{AreLists, HasVerdict, IsFlaggedVerdict, IsWithinAll}
use Rattle.step_check.specs.Verdicts as is
use Rattle.step_check.specs.declared.verdict.Limit.{Limit}
use Rattle.step_check.specs.declared.verdict.Reason.TheVariants.{NotImage}
use Rattle.step_check.specs.declared.verdict.Verdict.TheVariants.{Composes, Over, Wrong}
use Rattle.step_clause.specs.Justifications.{AreNumbered}
use Rattle.step_compose.specs.Composing.{IsComposedAnswer, IsLeastComposed, NoneComposes}
use Rattle.step_compose.specs.declared.composed.Composed.{Composed}

-- ---- one parent

contains_only : (q : ℕ) → Contains (q ∷ []) q
contains_only q = (0, omega arith, refl)

pub parent_there : (case : Case) (i q : ℕ) → HasOneParent case i q → Contains (parents_of case i) q
parent_there case i q one = subst (λ l. Contains l q) (sym one) (contains_only q)

-- ---- lists

pub lists_numbered : (case : Case) (numbers : List ℕ) (lists : List ClauseList) → AreLists case numbers lists → AreNumbered lists
lists_numbered case [] [] h k d less = absurd (omega arith)
lists_numbered case [] (list ∷ lists) h k d less = absurd h
lists_numbered case (n ∷ numbers) [] h k d less = absurd h
lists_numbered case (n ∷ numbers) (list ∷ lists) h zero d less = list_numbered list h.0.0 h.0.2
lists_numbered case (n ∷ numbers) (list ∷ lists) h (suc k) d less = lists_numbered case numbers lists h.1 k d (omega arith)

-- ---- full images and composed images

module _ (case : Case) (i q : ℕ) (r : Nf) where
  pub full_here : IsWithinAll case i → MayCompose case i q → Represents case q r → full_limit r ≡ None
  full_here all may rep = let found = all.full q may in subst (λ x. full_limit x ≡ None) (one_representative case found.1 r rep) found.2

  pub full_answer : (answer : Option Limit) → IsWithin case i → MayCompose case i q → Represents case q r → answer ≡ full_limit r
      → MatchOption answer (IsWithinAll case i) (λ limit. HasVerdict case i (Over limit))
  full_answer None within may rep e = within_all case i q r within may rep (sym e)
  full_answer (Some limit) within may rep e = over_verdict case i q r limit within may rep (sym e)

  -- the answer is about the step's own new symbols and its own clause list
  here : (own : Nf) (aliens : List SymKey) (rows : List ClauseRow) (answer : Option Composed) → own ≡ own_form case i → aliens ≡ aliens_of case i
      → rows ≡ clause_rows own → IsComposedAnswer r aliens rows answer → IsComposedAnswer r (aliens_of case i) (clause_rows (own_form case i)) answer
  here own aliens rows answer e k l h =
      subst (λ (x : List ClauseRow). IsComposedAnswer r (aliens_of case i) x answer) (l ∙ ap clause_rows e)
      (subst (λ (x : List SymKey). IsComposedAnswer r x rows answer) k h)

  pub composed_verdict : (own : Nf) (aliens : List SymKey) (rows : List ClauseRow) (answer : Option Composed) (composed : Composed) → own ≡ own_form case i
      → aliens ≡ aliens_of case i → rows ≡ clause_rows own → MayCompose case i q → Represents case q r → IsComposedAnswer r aliens rows answer
      → answer ≡ Some composed → IsFlaggedVerdict case i (Composes composed)
  composed_verdict own aliens rows answer composed e k l may rep h some =
      is.composes q r composed may rep
      (subst (λ (x : Option Composed). IsComposedAnswer r (aliens_of case i) (clause_rows (own_form case i)) x) some (here own aliens rows answer e k l h))

  pub uncomposed_verdict : (own : Nf) (aliens : List SymKey) (rows : List ClauseRow) (answer : Option Composed) → own ≡ own_form case i
      → aliens ≡ aliens_of case i → rows ≡ clause_rows own → MayCompose case i q → Represents case q r → IsComposedAnswer r aliens rows answer
      → answer ≡ None → IsFlaggedVerdict case i (Wrong NotImage)
  uncomposed_verdict own aliens rows answer e k l may rep h none =
      is.composes_not q r may rep
      (subst (λ (x : Option Composed). IsComposedAnswer r (aliens_of case i) (clause_rows (own_form case i)) x) none (here own aliens rows answer e k l h))
