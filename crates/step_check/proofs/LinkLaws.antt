-- Steps that don't hang on a parent are represented by their own forms, and those that do by images.
use Rattle.std.proofs.Common.{◌≡◌, ◌<◌, ◌≤◌, ℕ, zero, suc, Bool, true, false, List, [], ◌∷◌, length, slice_get, Option, Some, None, Contains, refl, sym, ap, ◌∙◌, subst, arith, ◌⊎◌, inl, inr}
use Rattle.derivation_graph.specs.Graphs.{IsStep}
use Rattle.normal_form.specs.declared.form.Nf.{Nf}
use Rattle.step_check.proofs.OneRepresentative.{derived_one, parent_one}
use Rattle.step_check.proofs.SortedLaws.{representative_is_sorted}
use Rattle.step_check.proofs.WithinLaws.{parent_nodes}
use Rattle.step_check.specs.Limits.{full_limit, limit_at, nodes_limit}
use Rattle.step_check.specs.Notes.{AreForms, HangsSame, HangsSkolem, IsApart, IsFitted, IsLink, IsOpened, IsSameLink, IsSkolemLink, IsSound, MayComposeOne}
use Rattle.step_check.specs.Representatives.{HasNoShape, HasOneParent, IsDerived, IsFit, IsFullWithin, IsSame, IsSkolem, IsWithin, MayCompose, Represents, leaf, over, over_full, same, shapeless, skolem, unfit}
use Rattle.step_check.specs.Steps.{Case, has_conjecture_parent, own_form, parents_of, step_in}
use Rattle.step_check.specs.Tables.{at, IsKnown}
use Rattle.step_check.specs.declared.notes.Forms.{Forms}
use Rattle.step_check.specs.declared.notes.Link.{Link}
use Rattle.step_check.specs.declared.notes.Link.TheVariants as link
use Rattle.step_check.specs.declared.verdict.Limit.{Limit}
use Rattle.step_skolem.proofs.Carried.{carried_is_image}
use Rattle.step_skolem.specs.Carrying.{carried}
use Rattle.step_skolem.specs.Images.{IsImage}
use Rattle.step_skolem.specs.declared.map.SkEntry.{SkEntry}
use Rattle.step_skolem.specs.declared.map.SkMap.{SkMap}
use Rattle.tstp_trace.specs.declared.step.Step.{Step}
use Rattle.tstp_trace.specs.declared.step.StepSource.{StepSource}
use Rattle.tstp_trace.specs.declared.step.StepSource.TheVariants.{Leaf, Derived}

-- ---- a step of the graph is a step of the trace

item_at : {A : Type 0} (l : List A) (k : ℕ) → k < length l → (a : A) × (slice_get l k ≡ Some a)
item_at [] k h = absurd (omega arith)
item_at (a ∷ l) zero h = (a, refl)
item_at (a ∷ l) (suc k) h = item_at l k (omega arith)

pub step_stands : (case : Case) (i : ℕ) → IsSound case → IsStep case.rows i → (step : Step) × (step_in case.steps i ≡ Some step)
step_stands case zero sound h = absurd (omega (arith, h.0))
step_stands case (suc k) sound h = item_at case.steps k (omega (arith, h.1, sound.long))

-- ---- steps that aren't structural

bool_cases : (a b : Bool) → ((a ≡ b) ⊎ (a ≡ b → ⊥))
bool_cases true true = inl refl
bool_cases false false = inl refl
bool_cases true false = inr (λ h. cc)
bool_cases false true = inr (λ h. cc)

option_cases : {A : Type 0} (x : Option A) → (x ≡ None) ⊎ ((a : A) × (x ≡ Some a))
option_cases None = inl refl
option_cases (Some a) = inr (a, refl)

source_cases : (source : StepSource) → ((name : List ℕ) × (source ≡ Leaf name)) ⊎ ((cth esa : Bool) × (names : List (List ℕ)) × (source ≡ Derived cth esa names))
source_cases (Leaf name) = inl (name, refl)
source_cases (Derived cth esa names) = inr (cth, esa, names, refl)

module _ (case : Case) (i : ℕ) where
  shape_of : (cth esa : Bool) → IsDerived case i cth esa → IsFit case i cth → IsApart case i → HasNoShape case i esa
  shape_of cth esa derived fit apart q one = apart q esa (record { cth = cth; derived = derived; fit = fit; one = one }) q one

  pub apart_represents : IsSound case → IsStep case.rows i → (IsWithin case i → IsApart case i) → Represents case i (own_form case i)
  apart_represents sound stands apart = elim (option_cases (limit_at case i)) [
    | inl within ↦ by_source (step_stands case i sound stands) within
    | inr some ↦ over i some.0 some.1
  ]
    where
      by_fit : (cth esa : Bool) → IsDerived case i cth esa → IsWithin case i → Represents case i (own_form case i)
      by_fit cth esa derived within = elim (bool_cases (has_conjecture_parent case i) cth) [
        | inl fit ↦ shapeless i cth esa derived (shape_of cth esa derived fit (apart within))
        | inr not ↦ unfit i cth esa derived not
      ]

      by_source : (step : Step) × (step_in case.steps i ≡ Some step) → IsWithin case i → Represents case i (own_form case i)
      by_source (step, at) within = elim (source_cases step.source) [
        | inl is ↦ leaf i is.0 (step, at, is.1)
        | inr is ↦ by_fit is.0 is.1 (step, is.2, at, is.3) within
      ]

  -- ---- structural steps

  pub contains_one : (q : ℕ) → HasOneParent case i q → Contains (parents_of case i) q
  contains_one q h = subst (λ (l : List ℕ). Contains l q) (sym h) (zero, omega arith, refl)

  pub parent_known : (forms : Forms) (q : ℕ) → IsOpened case forms i → HasOneParent case i q → IsKnown forms.owns q
  parent_known forms q opened one = opened.owns.parents q (contains_one q one)

  pub parent_within : (q : ℕ) → IsWithin case i → HasOneParent case i q → nodes_limit (own_form case q) ≡ None
  parent_within q within one = parent_nodes case i q within (contains_one q one)

  pub apart_link : (forms : Forms) (found : Link) → AreForms case forms → at forms.links i ≡ Some found → found ≡ link.Apart → IsWithin case i → IsApart case i
  apart_link forms found right there is = subst (λ (x : Link). IsLink case i x) is (right.links i found there)

  pub same_link : (forms : Forms) (found : Link) (q : ℕ) → AreForms case forms → at forms.links i ≡ Some found → found ≡ link.Same q → IsSameLink case i q
  same_link forms found q right there is = subst (λ (x : Link). IsLink case i x) is (right.links i found there)

  pub skolem_link : (forms : Forms) (found : Link) (q : ℕ) (map : SkMap) → AreForms case forms → at forms.links i ≡ Some found → found ≡ link.Skolem q map → IsSkolemLink case i q map.entries
  skolem_link forms found q map right there is = subst (λ (x : Link). IsLink case i x) is (right.links i found there)

  pub fitted_one : {q p : ℕ} {a b : Bool} → IsFitted case i q a → IsFitted case i p b → (q ≡ p) × (a ≡ b)
  fitted_one {q = q} {p = p} {a = a} {b = b} h k = (parent_one case i q p h.one k.one, (derived_one case i h.cth a k.cth b h.derived k.derived).1)

  over_by : (r : Nf) (limit : Limit) (q : ℕ) → IsWithin case i → HasOneParent case i q → Represents case q r → MayComposeOne case i → full_limit r ≡ Some limit
      → Represents case i (own_form case i)
  over_by r limit q within one rep may h =
      over_full i q r limit within (subst (λ x. MayCompose case i x) (parent_one case i may.0 q may.1.one one) may.1) rep h

  pub same_over : (r : Nf) (limit : Limit) → HangsSame case i r → MayComposeOne case i → full_limit r ≡ Some limit → Represents case i (own_form case i)
  same_over r limit hangs may h = over_by r limit hangs.parent hangs.link.within hangs.link.fitted.one hangs.above may h

  pub same_image : (r : Nf) → HangsSame case i r → ((q : ℕ) → IsFullWithin case i q r) → Represents case i r
  same_image r hangs full =
      let link = hangs.link in
      same i hangs.parent r link.fitted.cth link.esa link.within (full hangs.parent) link.fitted.derived link.fitted.fit link.fitted.one link.same hangs.above

  pub skolem_over : (n r : Nf) (entries : List SkEntry) (limit : Limit) → HangsSkolem case i n r entries → MayComposeOne case i → full_limit r ≡ Some limit → Represents case i (own_form case i)
  skolem_over n r entries limit hangs may h = over_by r limit hangs.parent hangs.link.within hangs.link.fitted.one hangs.above may h

  -- the image under the carried map is there, and represents the step
  pub skolem_leads : (n r : Nf) (entries : List SkEntry) → HangsSkolem case i n r entries → (image : Nf) × IsImage r (carried n r entries) image
  skolem_leads n r entries hangs =
      let q = hangs.parent in
      let found = carried_is_image (own_form case q) r (own_form case i) entries (representative_is_sorted case q r hangs.above) hangs.link.map.1 in
      (found.0, subst (λ x. IsImage r (carried x r entries) found.0) (sym hangs.own) found.1)

  pub skolem_represents : (n r image : Nf) (entries : List SkEntry) → HangsSkolem case i n r entries → ((q : ℕ) → IsFullWithin case i q r)
      → IsImage r (carried n r entries) image → Represents case i image
  skolem_represents n r image entries hangs full leads =
      let link = hangs.link in let q = hangs.parent in
      skolem i q r image link.fitted.cth entries link.within (full q) link.fitted.derived link.fitted.fit link.fitted.one link.map hangs.above
      (subst (λ x. IsImage r (carried x r entries) image) hangs.own leads)
