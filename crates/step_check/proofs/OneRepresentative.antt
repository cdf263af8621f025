-- A step has one representative at most: by induction over the way in which one is found.
use Rattle.std.proofs.Common.{◌≡◌, ℕ, Bool, true, false, List, [], ◌∷◌, Option, Some, None, refl, sym, ap, ◌∙◌, subst, rules}
use Rattle.normal_form.specs.declared.form.Nf.{Nf}
use Rattle.step_check.proofs.OwnForms.{one_map, two_images}
use Rattle.step_check.specs.Limits.{full_limit, limit_at}
use Rattle.step_check.specs.Representatives.{HasOneParent, IsDerived, IsFit, IsLeaf, IsSame, MayCompose, Represents, over, over_full, leaf, unfit, shapeless, same, skolem}
use Rattle.step_check.specs.Steps.{Case, own_form, parents_of, step_in}
use Rattle.step_check.specs.declared.verdict.Limit.{Limit}
use Rattle.step_skolem.specs.Carrying.{carried}
use Rattle.step_skolem.specs.Images.{IsImage}
use Rattle.step_skolem.specs.declared.map.SkEntry.{SkEntry}
use Rattle.tstp_trace.specs.declared.step.Step.{Step}
use Rattle.tstp_trace.specs.declared.step.StepSource.TheVariants.{Leaf, Derived}

pub some_or_none : {A : Type 0} (x : Option A) (a : A) → x ≡ Some a → x ≡ None → ⊥
some_or_none x a h k = cc

pub same_some : {A : Type 0} (x : Option A) (a b : A) → x ≡ Some a → x ≡ Some b → a ≡ b
same_some x a b h k = cc

pub same_item : (l : List ℕ) (q p : ℕ) → l ≡ q ∷ [] → l ≡ p ∷ [] → q ≡ p
same_item l q p h k = cc

pub same_flags : (a b c d : Bool) (l m : List (List ℕ)) → Derived a b l ≡ Derived c d m → (a ≡ c) × (b ≡ d)
same_flags a b c d l m h = (cc, cc)

pub leaf_or_derived : (name : List ℕ) (a b : Bool) (l : List (List ℕ)) → Leaf name ≡ Derived a b l → ⊥
leaf_or_derived name a b l h = cc

module _ (case : Case) where
  pub derived_one : (i : ℕ) (a b c d : Bool) → IsDerived case i a b → IsDerived case i c d → (a ≡ c) × (b ≡ d)
  derived_one i a b c d (step, names, at, is) (other, others, at', is') =
      same_flags a b c d names others (sym is ∙ ap (λ x. x.source) (same_some (step_in case.steps i) step other at at') ∙ is')

  pub not_both : (i : ℕ) (name : List ℕ) (a b : Bool) → IsLeaf case i name → IsDerived case i a b → ⊥
  not_both i name a b (step, at, is) (other, others, at', is') =
      leaf_or_derived name a b others (sym is ∙ ap (λ x. x.source) (same_some (step_in case.steps i) step other at at') ∙ is')

  pub parent_one : (i q p : ℕ) → HasOneParent case i q → HasOneParent case i p → q ≡ p
  parent_one i q p h k = same_item (parents_of case i) q p h k

  pub one_representative : {i : ℕ} {r : Nf} → Represents case i r → (s : Nf) → Represents case i s → r ≡ s
  -- a structural step first
  one_representative (same i q r cth esa within full derived fit parent like rep) _ (over _ limit h) = absurd (some_or_none _ limit h within)
  one_representative (same i q r cth esa within full derived fit parent like rep) _ (over_full _ p t limit w may up h) =
      let e = parent_one i p q may.one parent in
      let r_is : r ≡ t = one_representative rep t (subst (λ x. Represents case x t) e up) in
      absurd (some_or_none (full_limit t) limit h (subst (λ x. full_limit x ≡ None) r_is (full (subst (λ x. MayCompose case i x) e may))))
  one_representative (same i q r cth esa within full derived fit parent like rep) _ (leaf _ name h) = absurd (not_both i name cth esa h derived)
  one_representative (same i q r cth esa within full derived fit parent like rep) _ (unfit _ cth' esa' derived' h) =
      absurd (h (subst (λ x. IsFit case i x) (derived_one i cth esa cth' esa' derived derived').0 fit))
  one_representative (same i q r cth esa within full derived fit parent like rep) _ (shapeless _ cth' esa' derived' h) = absurd ((h q parent).0 like)
  one_representative (same i q r cth esa within full derived fit parent like rep) s (same _ p _ cth' esa' within' full' derived' fit' parent' like' rep') =
      one_representative rep s (subst (λ x. Represents case x s) (parent_one i p q parent' parent) rep')
  one_representative (same i q r cth esa within full derived fit parent like rep) _ (skolem _ p t s cth' entries within' full' derived' fit' parent' like' rep' image') =
      absurd (like'.0 (subst (λ x. IsSame case i x) (parent_one i q p parent parent') like))
  one_representative (skolem i q r r' cth entries within full derived fit parent like rep image) _ (over _ limit h) = absurd (some_or_none _ limit h within)
  one_representative (skolem i q r r' cth entries within full derived fit parent like rep image) _ (over_full _ p t limit w may up h) =
      let e = parent_one i p q may.one parent in
      let r_is : r ≡ t = one_representative rep t (subst (λ x. Represents case x t) e up) in
      absurd (some_or_none (full_limit t) limit h (subst (λ x. full_limit x ≡ None) r_is (full (subst (λ x. MayCompose case i x) e may))))
  one_representative (skolem i q r r' cth entries within full derived fit parent like rep image) _ (leaf _ name h) = absurd (not_both i name cth true h derived)
  one_representative (skolem i q r r' cth entries within full derived fit parent like rep image) _ (unfit _ cth' esa' derived' h) =
      absurd (h (subst (λ x. IsFit case i x) (derived_one i cth true cth' esa' derived derived').0 fit))
  one_representative (skolem i q r r' cth entries within full derived fit parent like rep image) _ (shapeless _ cth' esa' derived' h) =
      absurd ((h q parent).1 (sym (derived_one i cth true cth' esa' derived derived').1) entries like.1)
  one_representative (skolem i q r r' cth entries within full derived fit parent like rep image) _ (same _ p s cth' esa' within' full' derived' fit' parent' like' rep') =
      absurd (like.0 (subst (λ x. IsSame case i x) (parent_one i p q parent' parent) like'))
  one_representative (skolem i q r r' cth entries within full derived fit parent like rep image) _ (skolem _ p t s cth' entries' within' full' derived' fit' parent' like' rep' image') =
      let e = parent_one i p q parent' parent in
      let t_is : r ≡ t = one_representative rep t (subst (λ x. Represents case x t) e rep') in
      let same_map : entries' ≡ entries = one_map case i q entries' entries (subst (λ x. IsImage (own_form case x) entries' (own_form case i)) e like'.1) like.1 in
      two_images r r' s (carried (own_form case q) r entries) image
      (subst (λ x. IsImage x (carried (own_form case q) x entries) s) (sym t_is)
      (subst (λ x. IsImage t (carried (own_form case q) t x) s) same_map (subst (λ x. IsImage t (carried (own_form case x) t entries') s) e image')))
  -- the step's own form first, and a structural step second
  one_representative (over i limit h) _ (same _ q r cth esa within full derived fit parent like rep) = absurd (some_or_none _ limit h within)
  one_representative (over i limit h) _ (skolem _ q r s cth entries within full derived fit parent like rep image) = absurd (some_or_none _ limit h within)
  one_representative (over_full i p t limit w may up h) _ (same _ q r cth esa within full derived fit parent like rep) =
      let e = parent_one i q p parent may.one in
      let t_is : t ≡ r = one_representative up r (subst (λ x. Represents case x r) e rep) in
      absurd (some_or_none (full_limit r) limit (subst (λ x. full_limit x ≡ Some limit) t_is h) (full (subst (λ x. MayCompose case i x) (sym e) may)))
  one_representative (over_full i p t limit w may up h) _ (skolem _ q r s cth entries within full derived fit parent like rep image) =
      let e = parent_one i q p parent may.one in
      let t_is : t ≡ r = one_representative up r (subst (λ x. Represents case x r) e rep) in
      absurd (some_or_none (full_limit r) limit (subst (λ x. full_limit x ≡ Some limit) t_is h) (full (subst (λ x. MayCompose case i x) (sym e) may)))
  one_representative (leaf i name h) _ (same _ q r cth esa within full derived fit parent like rep) = absurd (not_both i name cth esa h derived)
  one_representative (leaf i name h) _ (skolem _ q r s cth entries within full derived fit parent like rep image) = absurd (not_both i name cth true h derived)
  one_representative (unfit i cth' esa' derived' h) _ (same _ q r cth esa within full derived fit parent like rep) =
      absurd (h (subst (λ x. IsFit case i x) (derived_one i cth esa cth' esa' derived derived').0 fit))
  one_representative (unfit i cth' esa' derived' h) _ (skolem _ q r s cth entries within full derived fit parent like rep image) =
      absurd (h (subst (λ x. IsFit case i x) (derived_one i cth true cth' esa' derived derived').0 fit))
  one_representative (shapeless i cth' esa' derived' h) _ (same _ q r cth esa within full derived fit parent like rep) = absurd ((h q parent).0 like)
  one_representative (shapeless i cth' esa' derived' h) _ (skolem _ q r s cth entries within full derived fit parent like rep image) =
      absurd ((h q parent).1 (sym (derived_one i cth true cth' esa' derived derived').1) entries like.1)
  -- the step's own form both times
  one_representative (over i limit h) _ (over _ m k) = refl
  one_representative (over i limit h) _ (over_full _ q r m w' may' up' k) = refl
  one_representative (over i limit h) _ (leaf _ n k) = refl
  one_representative (over i limit h) _ (unfit _ c e d k) = refl
  one_representative (over i limit h) _ (shapeless _ c e d k) = refl
  one_representative (over_full i p t limit w may up h) _ (over _ m k) = refl
  one_representative (over_full i p t limit w may up h) _ (over_full _ q r m w' may' up' k) = refl
  one_representative (over_full i p t limit w may up h) _ (leaf _ n k) = refl
  one_representative (over_full i p t limit w may up h) _ (unfit _ c e d k) = refl
  one_representative (over_full i p t limit w may up h) _ (shapeless _ c e d k) = refl
  one_representative (leaf i name h) _ (over _ m k) = refl
  one_representative (leaf i name h) _ (over_full _ q r m w' may' up' k) = refl
  one_representative (leaf i name h) _ (leaf _ n k) = refl
  one_representative (leaf i name h) _ (unfit _ c e d k) = refl
  one_representative (leaf i name h) _ (shapeless _ c e d k) = refl
  one_representative (unfit i cth esa derived h) _ (over _ m k) = refl
  one_representative (unfit i cth esa derived h) _ (over_full _ q r m w' may' up' k) = refl
  one_representative (unfit i cth esa derived h) _ (leaf _ n k) = refl
  one_representative (unfit i cth esa derived h) _ (unfit _ c e d k) = refl
  one_representative (unfit i cth esa derived h) _ (shapeless _ c e d k) = refl
  one_representative (shapeless i cth esa derived h) _ (over _ m k) = refl
  one_representative (shapeless i cth esa derived h) _ (over_full _ q r m w' may' up' k) = refl
  one_representative (shapeless i cth esa derived h) _ (leaf _ n k) = refl
  one_representative (shapeless i cth esa derived h) _ (unfit _ c e d k) = refl
  one_representative (shapeless i cth esa derived h) _ (shapeless _ c e d k) = refl
