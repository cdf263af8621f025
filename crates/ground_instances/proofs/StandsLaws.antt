-- The forms that a verdict list tells represent the steps, so the map of each structural step leads to one form.
use Rattle.std.proofs.Common.{◌≡◌, ◌+◌, ℕ, zero, suc, Bool, true, false, not, List, [], ◌∷◌, ◌++◌, Option, Some, None, slice_get, refl, sym, ap, ◌∙◌, subst, arith}
use Rattle.dk_syntax.specs.declared.SymKey.{SymKey}
use Rattle.normal_form.specs.Normal.{normal_of}
use Rattle.normal_form.specs.declared.form.Nf.{Nf}
use Rattle.step_check.proofs.OneRepresentative.{one_representative, parent_one, same_some}
use Rattle.step_check.proofs.SortedLaws.{representative_is_sorted}
use Rattle.step_check.specs.Freshness.{AreVerdicts, freshened, introduced, is_bad, IsFirstBad, refused_by, stale}
use Rattle.step_check.specs.Limits.{full_limit}
use Rattle.step_check.specs.Representatives.{HasOneParent, IsDerived, IsFullWithin, IsSame, IsSkolem, leaf, Represents, same, shapeless, skolem}
use Rattle.step_check.specs.Steps.{Case, form_of_step, is_conjecture_leaf, names_conjecture, own_form, step_in}
use Rattle.step_check.specs.Verdicts.{HasVerdict, IsClausalVerdict, IsFlaggedVerdict, IsInferenceVerdict, IsLeafVerdict, IsOtherVerdict, IsPlainVerdict, IsWithinAll, map_of}
use Rattle.step_check.specs.Verdicts as is
use Rattle.step_check.specs.declared.verdict.Verdict.{Verdict}
use Rattle.step_check.specs.declared.verdict.Verdict.TheVariants.{Structural}
use Rattle.step_skolem.proofs.Carried.{carried_is_image}
use Rattle.step_skolem.proofs.OneImage.{image_is_one}
use Rattle.step_skolem.proofs.OneMap.{empty_leads_back}
use Rattle.step_skolem.specs.Carrying.{carried}
use Rattle.step_skolem.specs.Images.{IsImage}
use Rattle.step_skolem.specs.declared.map.SkEntry.{SkEntry}
use Rattle.step_skolem.specs.declared.map.SkMap.{SkMap}
use Rattle.tstp_trace.specs.declared.step.Step.{Step}
use Rattle.ground_instances.specs.Keys.{Has, image, IsOwnBase, Judged, own, sign_of, Stands}
use Rattle.ground_instances.specs.Notes.{HasImages}

abbrev pub judged_of : Case → List Verdict → Judged
judged_of case list = record { steps = case.steps; rows = case.rows; verdicts = list }

two_images : (n r s : Nf) (entries : List SkEntry) → IsImage n entries r → IsImage n entries s → r ≡ s
two_images n r s entries h k = sym (image_is_one n r entries h) ∙ image_is_one n s entries k

empty_image : (r s : Nf) → IsImage r [] s → r ≡ s
empty_image r s h = two_images r r s [] (empty_leads_back r) h

-- ---- verdicts that stay

bad_not : (v : Verdict) → is_bad v ≡ true → is_bad v ≡ false → ⊥
bad_not v h k = cc

kept_by : (s : Option SymKey) (v w : Verdict) → refused_by s v ≡ w → is_bad w ≡ false → v ≡ w
kept_by None v w h k = h
kept_by (Some s) v w h k = let e : true ≡ false = ap is_bad h ∙ k in cc

kept_at : (known : List SymKey) (vs : List Verdict) (place : ℕ) (v : Verdict) → slice_get (freshened known vs) place ≡ Some v → is_bad v ≡ false → slice_get vs place ≡ Some v
kept_at known [] place v h k = h
kept_at known (w ∷ vs) zero v h k = ap Some (kept_by (stale known w) w v (same_some (Some (refused_by (stale known w) w)) (refused_by (stale known w) w) v refl h) k)
kept_at known (w ∷ vs) (suc place) v h k = kept_at (known ++ introduced w) vs place v h k

-- ---- what a verdict says of the step's own form

module _ (case : Case) where
  n_is : (i : ℕ) (step : Step) → step_in case.steps i ≡ Some step → (b : Bool) → is_conjecture_leaf case.problem step.source ≡ b → own_form case i ≡ normal_of step.formula (not b)
  n_is i step at b h = ap (form_of_step case.problem) at ∙ ap (λ x. normal_of step.formula (not x)) h

  clausal_sign : {lists : _} {rows : _} {v : Verdict} → IsClausalVerdict lists rows v → sign_of v ≡ true
  clausal_sign (is.clausal steps n h) = refl
  clausal_sign (is.chained chains n h) = refl
  clausal_sign (is.unjustified number h) = refl

  plain_sign : {i : ℕ} {v : Verdict} → IsPlainVerdict case i v → sign_of v ≡ true
  plain_sign (is.has_exists h) = refl
  plain_sign (is.alien symbol h k) = refl
  plain_sign (is.by_clauses lists v h k l c) = clausal_sign c

  flagged_sign : {i : ℕ} {v : Verdict} → IsFlaggedVerdict case i v → sign_of v ≡ true
  flagged_sign (is.composes q r c may rep least) = refl
  flagged_sign (is.composes_not q r may rep none) = refl
  flagged_sign (is.in_no_question h) = refl

  other_sign : (i : ℕ) (cth esa : Bool) (v : Verdict) → IsOtherVerdict case i cth esa v → sign_of v ≡ true
  other_sign i false false v h = plain_sign h
  other_sign i true esa v h = flagged_sign h
  other_sign i false true v h = flagged_sign h

  clausal_own : {lists : _} {rows : _} {v : Verdict} → IsClausalVerdict lists rows v → IsOwnBase v
  clausal_own (is.clausal steps n h) = tt
  clausal_own (is.chained chains n h) = tt
  clausal_own (is.unjustified number h) = tt

  plain_own : {i : ℕ} {v : Verdict} → IsPlainVerdict case i v → IsOwnBase v
  plain_own (is.has_exists h) = tt
  plain_own (is.alien symbol h k) = tt
  plain_own (is.by_clauses lists v h k l c) = clausal_own c

  flagged_own : {i : ℕ} {v : Verdict} → IsFlaggedVerdict case i v → IsOwnBase v
  flagged_own (is.composes q r c may rep least) = tt
  flagged_own (is.composes_not q r may rep none) = tt
  flagged_own (is.in_no_question h) = tt

  other_own : (i : ℕ) (cth esa : Bool) (v : Verdict) → IsOtherVerdict case i cth esa v → IsOwnBase v
  other_own i false false v h = plain_own h
  other_own i true esa v h = flagged_own h
  other_own i false true v h = flagged_own h

  leaf_own : {step : Step} {name : List ℕ} {v : Verdict} → IsLeafVerdict case step name v → IsOwnBase v
  leaf_own (is.unknown h) = tt
  leaf_own (is.altered item at h) = tt
  leaf_own (is.conjecture item at h k) = tt
  leaf_own (is.leaf item at h k) = tt

  leaf_sign : {step : Step} {name : List ℕ} {v : Verdict} → IsLeafVerdict case step name v → is_bad v ≡ false → names_conjecture case.problem name ≡ not (sign_of v)
  leaf_sign (is.unknown h) k = cc
  leaf_sign (is.altered item at h) k = cc
  leaf_sign (is.conjecture item at h l) k = l
  leaf_sign (is.leaf item at h l) k = l

  twice_not : (b : Bool) → not (not b) ≡ b
  twice_not true = refl
  twice_not false = refl

  derived_form : (i : ℕ) (step : Step) (cth esa : Bool) → step_in case.steps i ≡ Some step → IsDerived case i cth esa → own_form case i ≡ normal_of step.formula true
  derived_form i step cth esa at (other, names, at', is) =
      let s : other ≡ step = same_some (step_in case.steps i) other step at' at in
      n_is i step at false (ap (λ x. is_conjecture_leaf case.problem x.source) (sym s) ∙ ap (is_conjecture_leaf case.problem) is)

  inference_own : (i : ℕ) (cth esa : Bool) (step : Step) (v : Verdict) → IsInferenceVerdict case i cth esa v → is_bad v ≡ false → IsOwnBase v → step_in case.steps i ≡ Some step → IsDerived case i cth esa
      → Represents case i (normal_of step.formula (sign_of v))
  inference_own i cth esa step _ (is.conjecture_parent c h) good base at derived = cc
  inference_own i cth esa step _ (is.not_conjecture c h) good base at derived = cc
  inference_own i cth esa step _ (is.same q fit one like) good base at derived = absurd base
  inference_own i cth esa step _ (is.skolem q r entries fit one e like rep) good base at derived = absurd base
  inference_own i cth esa step _ (is.other v fit nor o) good base at derived =
      subst (λ x. Represents case i x) (derived_form i step cth esa at derived ∙ ap (normal_of step.formula) (sym (other_sign i cth esa v o))) (shapeless i cth esa derived nor)

  own_represents : {i : ℕ} {v : Verdict} → HasVerdict case i v → (step : Step) → is_bad v ≡ false → IsOwnBase v → step_in case.steps i ≡ Some step → Represents case i (normal_of step.formula (sign_of v))
  own_represents (is.over i l h) step good base at = cc
  own_represents (is.over_full i q r l within may rep h) step good base at = cc
  own_represents (is.of_leaf i found name v bounds at' from h) step good base at =
      let s : found ≡ step = same_some (step_in case.steps i) found step at' at in
      let c : is_conjecture_leaf case.problem step.source ≡ not (sign_of v) =
      ap (λ x. is_conjecture_leaf case.problem x.source) (sym s) ∙ ap (is_conjecture_leaf case.problem) from ∙ leaf_sign h good in
      subst (λ x. Represents case i x) (n_is i step at (not (sign_of v)) c ∙ ap (normal_of step.formula) (twice_not (sign_of v))) (leaf i name (found, at', from))
  own_represents (is.of_inference i cth esa v bounds derived h) step good base at = inference_own i cth esa step v h good base at derived

  full_within : (i q : ℕ) (r : Nf) → IsWithinAll case i → Represents case q r → IsFullWithin case i q r
  full_within i q r bounds rep may =
      let w = bounds.full q may in subst (λ x. full_limit x ≡ None) (one_representative case w.1 r rep) w.2

  structural_map : (a b : SkMap) → Structural a ≡ Structural b → a ≡ b
  structural_map a b h = cc

  inference_image : (i q : ℕ) (cth esa : Bool) (r s : Nf) {v : Verdict} → IsInferenceVerdict case i cth esa v → (m : SkMap) → v ≡ Structural m → IsWithinAll case i → IsDerived case i cth esa → HasOneParent case i q
      → Represents case q r → IsImage r m.entries s → Represents case i s
  inference_image i q cth esa r s (is.conjecture_parent c h) m e bounds derived one rep img = cc
  inference_image i q cth esa r s (is.not_conjecture c h) m e bounds derived one rep img = cc
  inference_image i q cth esa r s (is.same p fit one' like) m e bounds derived one rep img =
      let m_is : map_of [] ≡ m = structural_map (map_of []) m e in
      let s_is : r ≡ s = empty_image r s (subst (λ x. IsImage r x.entries s) (sym m_is) img) in
      subst (λ x. Represents case i x) s_is
      (same i q r cth esa bounds.within (full_within i q r bounds rep) derived fit one (subst (λ x. IsSame case i x) (parent_one case i p q one' one) like) rep)
  inference_image i q cth esa r s (is.skolem p t entries fit one' true_flag like up) m e bounds derived one rep img =
      let at : p ≡ q = parent_one case i p q one' one in
      let t_is : t ≡ r = one_representative case up r (subst (λ x. Represents case x r) (sym at) rep) in
      let m_is : map_of (carried (own_form case p) t entries) ≡ m = structural_map (map_of (carried (own_form case p) t entries)) m e in
      let img' : IsImage r (carried (own_form case p) t entries) s = subst (λ x. IsImage r x.entries s) (sym m_is) img in
      let img'' : IsImage r (carried (own_form case p) r entries) s = subst (λ x. IsImage r (carried (own_form case p) x entries) s) t_is img' in
      skolem i q r s cth entries bounds.within (full_within i q r bounds rep) (subst (λ x. IsDerived case i cth x) true_flag derived) fit one
      (subst (λ x. IsSkolem case i x entries) at like) rep (subst (λ x. IsImage r (carried (own_form case x) r entries) s) at img'')
  inference_image i q cth esa r s (is.other v fit nor o) m e bounds derived one rep img = absurd (subst IsOwnBase e (other_own i cth esa v o))

  image_form : {i : ℕ} {v : Verdict} → HasVerdict case i v → (m : SkMap) → v ≡ Structural m → (q : ℕ) (r s : Nf) → HasOneParent case i q → Represents case q r → IsImage r m.entries s → Represents case i s
  image_form (is.over i l h) m e q r s one rep img = cc
  image_form (is.over_full i p t l within may up h) m e q r s one rep img = cc
  image_form (is.of_leaf i found name v bounds at from h) m e q r s one rep img = absurd (subst IsOwnBase e (leaf_own h))
  image_form (is.of_inference i cth esa v bounds derived h) m e q r s one rep img = inference_image i q cth esa r s h m e bounds derived one rep img

  module _ (list : List Verdict) (are : AreVerdicts case list) (right : IsFirstBad list None) where
    good_at : (place : ℕ) (v : Verdict) → slice_get list place ≡ Some v → is_bad v ≡ false
    good_at place v h = by_test (is_bad v) refl
      where
        by_test : (b : Bool) → is_bad v ≡ b → is_bad v ≡ false
        by_test true k = absurd (right place (v, h, k))
        by_test false k = k

    pub verdict_at : (i : ℕ) (v : Verdict) → Has (judged_of case list) i v → HasVerdict case i v
    verdict_at zero v h = cc
    verdict_at (suc place) v h =
        let number : 0 + suc place ≡ suc place = omega arith in
        subst (λ n. HasVerdict case n v) number
        (are.1.each place v (kept_at case.problem.symbols are.0 place v (subst (λ x. slice_get x place ≡ Some v) are.2 h) (good_at place v h)))

    pub good : (i : ℕ) (v : Verdict) → Has (judged_of case list) i v → is_bad v ≡ false
    good zero v h = cc
    good (suc place) v h = good_at place v h

    pub stands_represents : {i : ℕ} {r : Nf} → Stands (judged_of case list) i r → Represents case i r
    stands_represents (own i step v has base at) = own_represents (verdict_at i v has) step (good i v has) base at
    stands_represents (image i q r s m has one up img) = image_form (verdict_at i (Structural m) has) m refl q r s one (stands_represents up) img

    -- the map of a structural step
    structural_image : (i q : ℕ) (r : Nf) (m : SkMap) {v : Verdict} → HasVerdict case i v → v ≡ Structural m → HasOneParent case i q → Represents case q r
        → (s : Nf) × IsImage r m.entries s
    structural_image i q r m (is.over _ l h) e one rep = cc
    structural_image i q r m (is.over_full _ p t l within may up h) e one rep = cc
    structural_image i q r m (is.of_leaf _ found name v bounds at from h) e one rep = absurd (subst IsOwnBase e (leaf_own h))
    structural_image i q r m (is.of_inference _ cth esa _ bounds derived (is.conjecture_parent c h)) e one rep = cc
    structural_image i q r m (is.of_inference _ cth esa _ bounds derived (is.not_conjecture c h)) e one rep = cc
    structural_image i q r m (is.of_inference _ cth esa _ bounds derived (is.same p fit one' like)) e one rep =
        let m_is : map_of [] ≡ m = structural_map (map_of []) m e in
        (r, subst (λ (x : SkMap). IsImage r x.entries r) m_is (empty_leads_back r))
    structural_image i q r m (is.of_inference _ cth esa _ bounds derived (is.skolem p t entries fit one' true_flag like up)) e one rep =
        let at : p ≡ q = parent_one case i p q one' one in
        let t_is : t ≡ r = one_representative case up r (subst (λ x. Represents case x r) (sym at) rep) in
        let m_is : map_of (carried (own_form case p) t entries) ≡ m = structural_map (map_of (carried (own_form case p) t entries)) m e in
        let x = carried_is_image (own_form case p) t (own_form case i) entries (representative_is_sorted case p t up) like.1 in
        (x.0, subst (λ z. IsImage z m.entries x.0) t_is (subst (λ (y : SkMap). IsImage t y.entries x.0) m_is x.1))
    structural_image i q r m (is.of_inference _ cth esa _ bounds derived (is.other v fit nor o)) e one rep = absurd (subst IsOwnBase e (other_own i cth esa v o))

    -- leads to one form
    pub images : HasImages (judged_of case list)
    images i q r m has one stands =
        let found = structural_image i q r m (verdict_at i (Structural m) has) refl one (stands_represents stands) in
        (found.0, found.1, λ other leads. two_images r other found.0 m.entries leads found.1)
