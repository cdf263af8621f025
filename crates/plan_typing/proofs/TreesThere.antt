-- An instance that needs nothing has a thin tree.
use Rattle.std.proofs.Common.{◌≡◌, ℕ, List, [], ◌∷◌, Some, slice_get, refl, sym, ap, subst}
use Rattle.dk_syntax.specs.declared.clause.Clause.{Clause}
use Rattle.dk_syntax.specs.declared.term.Term.{Term}
use Rattle.expansion.specs.Choices.{thin_tree}
use Rattle.expansion.specs.declared.thin.Thin.{Thin}
use Rattle.normal_form.specs.ClauseLists.{clause_rows}
use Rattle.normal_form.specs.Normal.{normal_of}
use Rattle.normal_form.specs.declared.clause_list.ClauseRow.{ClauseRow}
use Rattle.normal_form.specs.declared.form.Nf.{Nf}
use Rattle.step_check.specs.Steps.{Case}
use Rattle.step_check.specs.declared.verdict.Verdict.{Verdict}
use Rattle.step_check.specs.declared.verdict.Verdict.TheVariants.{Chained, Composes}
use Rattle.step_compose.specs.declared.composed.Composed.{Composed}
use Rattle.ground_instances.proofs.OneVisit.{one_has}
use Rattle.ground_instances.specs.Instances.{key_of}
use Rattle.ground_instances.specs.Keys.{Has, imaged, IsClauseOf, IsLeafBase, Judged, Key, key, listed, middle, parents_at, sign_of, Stands}
use Rattle.ground_instances.specs.Needs.{by_base, by_chain, by_clauses, by_image, by_leaf, by_parent, by_stage, by_thin, named_by, Needs, of_image, of_parents, of_stage}
use Rattle.ground_instances.specs.declared.instance.Instance.{Instance}
use Rattle.plan.proofs.Existence.{leaf_gives_composed_map, leaf_gives_map, step_of}
use Rattle.plan.proofs.StepMaps.{same_composed, stands_one}
use Rattle.plan.specs.Laws.{AreRightSteps, IsOverLeaf, judged_of}
use Rattle.plan.specs.Maps.{IsComposedMap, IsMap}
use Rattle.plan.specs.Thins.{IsFormTree, IsImageTree, IsThin}
use Rattle.plan.specs.Thins as thins
use Rattle.step_clause.specs.declared.justification.Justification.{Justification}
use Rattle.step_clause.specs.declared.justification.Justification.TheVariants.{Resolve, Subsume}

some_needed : (at : ℕ → ℕ → List Term → Key) (terms : List Term) (step : Justification) → named_by at terms step ≡ [] → ⊥
some_needed at terms (Subsume parent number picks ts) e = cc
some_needed at terms (Resolve p c q d picks others ts us) e = cc

module _ (case : Case) (verdicts : List Verdict) (right : AreRightSteps case verdicts) where
  abbrev judged : Judged
  judged = judged_of case verdicts

  over_leaf : (i : ℕ) → IsLeafBase judged i → IsOverLeaf judged i
  over_leaf i (base, v, from, has, leaf) =
      let step = step_of case verdicts right base v has in (
        step.0.formula,
        sign_of v,
        record { base = base; verdict = v; step = step.0; from = from; here = has; leaf = leaf; stands = step.1; formula = refl; signed = refl },
      )

  listed_row : (q c : ℕ) (ts : List Term) {clause : Clause} → IsClauseOf judged (key q 0 c ts) clause → (r : Nf) × (row : ClauseRow) × Stands judged q r × (slice_get (clause_rows r) c ≡ Some row)
  listed_row q c ts (listed _ _ _ r row stands at) = (r, row, stands, at)

  image_row : (i c : ℕ) (ts : List Term) (composed : Composed) → Has judged i (Composes composed) → {clause : Clause} → IsClauseOf judged (key i 1 c ts) clause
      → (row : ClauseRow) × (slice_get composed.image.rows c ≡ Some row)
  image_row i c ts composed has (middle _ _ _ _ chains chain clause has' here at) = absurd (let e = one_has judged i (Chained chains) (Composes composed) has' has in cc)
  image_row i c ts composed has (imaged _ _ _ other row has' at) =
      let same : other ≡ composed = same_composed other composed (one_has judged i (Composes other) (Composes composed) has' has) in
      (row, subst (λ (x : Composed). slice_get x.image.rows c ≡ Some row) same at)

  -- the parts of the instance are those of its key
  abbrev HasTree : Instance → Type 0
  HasTree it = (thin : Thin) × IsThin judged it thin

  form_tree : (i c : ℕ) (terms : List Term) (clause : Clause) → IsLeafBase judged i → IsClauseOf judged (key i 0 c terms) clause → (it : Instance) → key_of it ≡ key i 0 c terms → HasTree it
  form_tree i c terms clause leaf of it e =
      let over = over_leaf i leaf in
      let m = leaf_gives_map case verdicts right i over.0 over.1 over.2 in
      let w = listed_row i c terms of in
      let step : it.step ≡ i = ap (λ (k : Key). k.step) e in
      let number : it.clause ≡ c = ap (λ (k : Key). k.clause) e in
      let maps : IsMap judged it.step over.0 over.1 m.0 = subst (λ x. IsMap judged x over.0 over.1 m.0) (sym step) m.1 in
      let form : w.0 ≡ maps.form = stands_one case verdicts right.are right.right right.acyclic (subst (λ x. Stands judged x w.0) (sym step) w.2) maps.represents in
      let at : slice_get (clause_rows maps.form) it.clause ≡ Some w.1 =
      subst (λ x. slice_get (clause_rows maps.form) x ≡ Some w.1) (sym number) (subst (λ x. slice_get (clause_rows x) c ≡ Some w.1) form w.3) in (
        thin_tree over.1 (normal_of over.0 over.1) m.0 w.1 it.terms,
        thins.of_form (record { stage = ap (λ (k : Key). k.stage) e; leaf = over.0; sign = over.1; entries = m.0; maps = maps; row = w.1; listed = at; tree = refl }),
      )

  image_tree : (i q c : ℕ) (terms : List Term) (composed : Composed) (clause : Clause) → Has judged i (Composes composed) → parents_at judged i ≡ q ∷ [] → IsLeafBase judged q
      → IsClauseOf judged (key i 1 c terms) clause → (it : Instance) → key_of it ≡ key i 1 c terms → HasTree it
  image_tree i q c terms composed clause has one leaf of it e =
      let over = over_leaf q leaf in
      let m = leaf_gives_composed_map case verdicts right i q composed over.0 over.1 has one over.2 in
      let w = image_row i c terms composed has of in
      let step : it.step ≡ i = ap (λ (k : Key). k.step) e in
      let number : it.clause ≡ c = ap (λ (k : Key). k.clause) e in
      let maps : IsComposedMap judged it.step over.0 over.1 m.0 = subst (λ x. IsComposedMap judged x over.0 over.1 m.0) (sym step) m.1 in
      let same : composed ≡ maps.composed =
      same_composed composed maps.composed (one_has judged i (Composes composed) (Composes maps.composed) has (subst (λ x. Has judged x (Composes maps.composed)) step maps.here)) in
      let at : slice_get maps.composed.image.rows it.clause ≡ Some w.0 =
      subst (λ x. slice_get maps.composed.image.rows x ≡ Some w.0) (sym number) (subst (λ (x : Composed). slice_get x.image.rows c ≡ Some w.0) same w.1) in (
        thin_tree over.1 (normal_of over.0 over.1) m.0 w.0 it.terms,
        thins.of_image (record { stage = ap (λ (k : Key). k.stage) e; leaf = over.0; sign = over.1; entries = m.0; maps = maps; row = w.0; listed = at; tree = refl }),
      )

  tree_of_key : {one : Key} {needed : List Key} → Needs judged one needed → needed ≡ [] → (clause : Clause) → IsClauseOf judged one clause → (it : Instance) → key_of it ≡ one → HasTree it
  tree_of_key (by_leaf i c terms leaf) none clause of it e = form_tree i c terms clause leaf of it e
  tree_of_key (by_base i base c terms m has none_leaf b) none clause of it e = absurd (cc)
  tree_of_key (by_clauses i c terms steps step has at) none clause of it e = absurd (some_needed (of_parents judged i) terms step none)
  tree_of_key (by_stage i j c terms chains chain step has here at) none clause of it e = absurd (some_needed (of_stage judged i c j) terms step none)
  tree_of_key (by_chain i c terms chains chain step has here at) none clause of it e = absurd (some_needed (of_stage judged i c _) terms step none)
  tree_of_key (by_image i c terms composed step has at) none clause of it e = absurd (some_needed (of_image judged i) terms step none)
  tree_of_key (by_thin i q c terms composed has one leaf) none clause of it e = image_tree i q c terms composed clause has one leaf of it e
  tree_of_key (by_parent i q base c terms composed has one none_leaf b) none clause of it e = absurd (cc)

  pub tree_there : (it : Instance) (needed : List Key) → Needs judged (key_of it) needed → needed ≡ [] → (clause : Clause) → IsClauseOf judged (key_of it) clause
      → (thin : Thin) × IsThin judged it thin
  tree_there it needed needs none clause of = tree_of_key needs none clause of it refl
