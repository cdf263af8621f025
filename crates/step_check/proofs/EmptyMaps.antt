-- A structural step with an empty map has its parent's form up to order and grouping, and so means the same.
use Rattle.std.proofs.Common.{◌≡◌, ℕ, Bool, true, false, List, [], ◌∷◌, cond, map, nat_lt, refl, sym, ap, subst, ◌∙◌}
use Rattle.normal_form.specs.ClauseLists.{clause_rows}
use Rattle.normal_form.specs.Sorting.{bare, existentials, sorted_form, universals}
use Rattle.normal_form.specs.declared.clause_list.ClauseList.{ClauseList}
use Rattle.normal_form.specs.declared.clause_list.ClauseRow.{ClauseRow}
use Rattle.normal_form.specs.declared.form.Nf.{Nf}
use Rattle.step_check.proofs.OneRepresentative.{parent_one}
use Rattle.step_check.proofs.OwnForms.{two_images}
use Rattle.step_check.proofs.TrueForms.{same_sorted_truth}
use Rattle.step_check.proofs.TrueSteps.{own_truth}
use Rattle.step_check.specs.Representatives.{HasOneParent, IsSame}
use Rattle.step_check.specs.Steps.{Case, own_form}
use Rattle.step_check.specs.Truth.{EmptyMapKeepsMeaning}
use Rattle.step_check.specs.Verdicts.{HasVerdict, IsClausalVerdict, IsFlaggedVerdict, IsInferenceVerdict, IsLeafVerdict, IsOtherVerdict, IsPlainVerdict}
use Rattle.step_check.specs.Verdicts as is
use Rattle.step_check.specs.declared.verdict.Verdict.{Verdict}
use Rattle.step_check.specs.declared.verdict.Verdict.TheVariants.{Chained, Clausal, Composes, Conjecture, Leaf, Over, Structural, Wrong}
use Rattle.step_skolem.proofs.OneMap.{empty_leads_back}
use Rattle.step_skolem.specs.Carrying.{across, by_number, carried, placed, renumbered}
use Rattle.step_skolem.specs.Images.{IsImage}
use Rattle.step_skolem.specs.declared.map.SkEntry.{SkEntry}
use Rattle.tstp_trace.specs.declared.step.Step.{Step}

-- ---- a map carried to the empty one is empty

either_some : (b : Bool) (x y : SkEntry) (xs ys : List SkEntry) → cond b (x ∷ xs) (y ∷ ys) ≡ [] → ⊥
either_some true x y xs ys h = cc
either_some false x y xs ys h = cc

placed_some : (one : SkEntry) (l : List SkEntry) → placed one l ≡ [] → ⊥
placed_some one [] h = cc
placed_some one (other ∷ rest) h = either_some (nat_lt other.ex one.ex) other one (placed one rest) (other ∷ rest) h

none_sorted : (l : List SkEntry) → by_number l ≡ [] → l ≡ []
none_sorted [] h = refl
none_sorted (one ∷ rest) h = absurd (placed_some one (by_number rest) h)

none_mapped : (f : SkEntry → SkEntry) (l : List SkEntry) → map f l ≡ [] → l ≡ []
none_mapped f [] h = refl
none_mapped f (one ∷ rest) h = absurd (cc)

none_carried : (n r : Nf) (entries : List SkEntry) → carried n r entries ≡ [] → entries ≡ []
none_carried n r entries h =
    let f = renumbered (across (universals (sorted_form n)) (universals (sorted_form r))) (across (existentials (sorted_form n)) (existentials (sorted_form r))) in
    none_mapped f entries (none_sorted (map f entries) h)

-- ---- the cases of the verdict

abbrev is_none : List SkEntry → Bool
is_none [] = true
is_none (one ∷ rest) = false

no_entry : (l : List SkEntry) → is_none l ≡ true → l ≡ []
no_entry [] h = refl
no_entry (one ∷ rest) h = absurd (cc)

-- it is structural, by a map without entries
abbrev is_regrouping : Verdict → Bool
is_regrouping Leaf = false
is_regrouping Conjecture = false
is_regrouping (Structural map_here) = is_none map_here.entries
is_regrouping (Clausal steps) = false
is_regrouping (Chained chains) = false
is_regrouping (Composes composed) = false
is_regrouping (Wrong reason) = false
is_regrouping (Over limit) = false

clausal_not : {v : Verdict} → (lists : List ClauseList) (rows : List ClauseRow) → IsClausalVerdict lists rows v → is_regrouping v ≡ true → ⊥
clausal_not lists rows (is.clausal steps n a) e = cc
clausal_not lists rows (is.chained chains n a) e = cc
clausal_not lists rows (is.unjustified number first) e = cc

module _ (case : Case) where
  plain_not : (k : ℕ) {v : Verdict} → IsPlainVerdict case k v → is_regrouping v ≡ true → ⊥
  plain_not k (is.has_exists h) e = cc
  plain_not k (is.alien symbol h a) e = cc
  plain_not k (is.by_clauses lists v h a at c) e = clausal_not lists (clause_rows (own_form case k)) c e

  flagged_not : (k : ℕ) {v : Verdict} → IsFlaggedVerdict case k v → is_regrouping v ≡ true → ⊥
  flagged_not k (is.composes q r composed may rep least) e = cc
  flagged_not k (is.composes_not q r may rep none) e = cc
  flagged_not k (is.in_no_question none) e = cc

  other_not : (k : ℕ) (cth esa : Bool) (v : Verdict) → IsOtherVerdict case k cth esa v → is_regrouping v ≡ true → ⊥
  other_not k false false v o e = plain_not k o e
  other_not k true esa v o e = flagged_not k o e
  other_not k false true v o e = flagged_not k o e

  leaf_not : (step : Step) (name : List ℕ) {v : Verdict} → IsLeafVerdict case step name v → is_regrouping v ≡ true → ⊥
  leaf_not step name (is.unknown h) e = cc
  leaf_not step name (is.altered item h k) e = cc
  leaf_not step name (is.conjecture item h k l) e = cc
  leaf_not step name (is.leaf item h k l) e = cc

  same_form : (k : ℕ) (cth esa : Bool) {v : Verdict} → IsInferenceVerdict case k cth esa v → is_regrouping v ≡ true → (q : ℕ) → HasOneParent case k q → IsSame case k q
  same_form k cth esa (is.conjecture_parent c h) e q one = absurd (cc)
  same_form k cth esa (is.not_conjecture c h) e q one = absurd (cc)
  same_form k cth esa (is.same p fit one' like) e q one = subst (λ x. IsSame case k x) (parent_one case k p q one' one) like
  same_form k cth esa (is.skolem p r entries fit one' s like rep) e q one =
      let empty = none_carried (own_form case p) r entries (no_entry (carried (own_form case p) r entries) e) in
      let leads : IsImage (own_form case p) [] (own_form case k) = subst (λ m. IsImage (own_form case p) m (own_form case k)) empty like.1 in
      let alike : own_form case k ≡ own_form case p = two_images (own_form case p) (own_form case k) (own_form case p) [] leads (empty_leads_back (own_form case p)) in
      absurd (like.0 (ap (λ n. bare (sorted_form n)) alike))
  same_form k cth esa (is.other v fit nor o) e q one = absurd (other_not k cth esa v o e)

  regroups : {k : ℕ} {v : Verdict} → HasVerdict case k v → is_regrouping v ≡ true → (q : ℕ) → HasOneParent case k q → IsSame case k q
  regroups (is.over k limit h) e q one = absurd (cc)
  regroups (is.over_full k p r limit within may rep h) e q one = absurd (cc)
  regroups (is.of_leaf k step name v within at from h) e q one = absurd (leaf_not step name h e)
  regroups (is.of_inference k cth esa v within derived h) e q one = same_form k cth esa h e q one

pub empty_map_keeps_meaning : {D : Type 0} → EmptyMapKeepsMeaning D
empty_map_keeps_meaning case k q one h i v =
    sym (own_truth i case k v) ∙ (same_sorted_truth i (own_form case k) (own_form case q) (regroups case h refl q one) v ∙ own_truth i case q v)
