-- An instance has one clause, and its terms stand in its ground clause.
use Rattle.std.proofs.Common.{◌≡◌, ◌<◌, ℕ, zero, suc, List, [], ◌∷◌, map, length, get_or, Option, Some, None, slice_get, arith, refl, sym, ap, ap₂, ◌∙◌, subst}
use Rattle.std.specs.Bool.{⊤}
use Rattle.std.specs.Option.{MatchOption}
use Rattle.dk_syntax.specs.Terms.{instance}
use Rattle.dk_syntax.specs.declared.clause.Clause.{Clause}
use Rattle.dk_syntax.specs.declared.term.Term.{Term}
use Rattle.dk_syntax.specs.declared.term.Term.TheVariants.{Any}
use Rattle.normal_form.specs.ClauseLists.{clause_rows}
use Rattle.normal_form.specs.Normal.{normal_of}
use Rattle.normal_form.specs.declared.clause_list.ClauseList.{ClauseList}
use Rattle.normal_form.specs.declared.clause_list.ClauseRow.{ClauseRow}
use Rattle.normal_form.specs.declared.form.Nf.{Nf}
use Rattle.step_chain.specs.declared.chain.Chain.{Chain}
use Rattle.step_check.specs.Steps.{step_in}
use Rattle.step_check.specs.declared.verdict.Verdict.{Verdict}
use Rattle.step_check.specs.declared.verdict.Verdict.TheVariants.{Chained, Composes, Structural}
use Rattle.step_compose.specs.declared.composed.Composed.{Composed}
use Rattle.step_skolem.specs.Images.{IsImage}
use Rattle.step_skolem.specs.declared.map.SkMap.{SkMap}
use Rattle.tstp_trace.specs.declared.step.Step.{Step}
use Rattle.ground_instances.proofs.OneVisit.{not_own, one_has, same_item, same_some}
use Rattle.ground_instances.proofs.Parts.{literal_part, mapped, part_then}
use Rattle.ground_instances.specs.Clauses as found
use Rattle.ground_instances.specs.Clauses.{IsFound, IsStaged}
use Rattle.ground_instances.specs.Instances.{IsInstance, key_of}
use Rattle.ground_instances.specs.Keys.{image, imaged, IsClauseOf, Judged, Key, key, listed, middle, own, parents_at, sign_of, Stands}
use Rattle.ground_instances.specs.Naming.{HasEachVariable, IsFit, key_at}
use Rattle.ground_instances.specs.Needs.{value_in}
use Rattle.ground_instances.specs.Notes.{AreRight, HasImages, IsListOf, Known}
use Rattle.ground_instances.specs.Weights.{IsInClause, IsPart, IsPartOf}
use Rattle.ground_instances.specs.declared.instance.Instance.{Instance}
use Rattle.ground_instances.specs.declared.naming.Place.{Place}

same_map : (m n : SkMap) (v w : Verdict) → v ≡ w → v ≡ Structural m → w ≡ Structural n → m ≡ n
same_map m n v w e h k = cc

module _ (judged : Judged) where
  -- ---- where a clause is found

  pub found_clause : (lists : Known ClauseList) (place : Place) (it : Clause) → AreRight (IsListOf judged) lists → IsFound judged.verdicts lists place it
      → (terms : List Term) → IsClauseOf judged (key_at place terms) it
  found_clause lists place it right (found.listed stage (list, known, (row, at, is))) terms =
      let r = right place.step list known in
      subst (λ c. IsClauseOf judged (key_at place terms) c) is
      (subst (λ s. IsClauseOf judged (key place.step s place.clause terms) row.clause) (sym stage)
      (listed place.step place.clause terms r.0 row r.1 (subst (λ x. slice_get x place.clause ≡ Some row) r.2 at)))
  found_clause lists place it right (found.staged (found.middle chains j here stage (chain, at, mid))) terms =
      subst (λ s. IsClauseOf judged (key place.step s place.clause terms) it) (sym stage) (middle place.step j place.clause terms chains chain it here at mid)
  found_clause lists place it right (found.staged (found.imaged composed here stage (row, at, is))) terms =
      subst (λ c. IsClauseOf judged (key_at place terms) c) is
      (subst (λ s. IsClauseOf judged (key place.step s place.clause terms) row.clause) (sym stage) (imaged place.step place.clause terms composed row here at))

  pub found_fit : (lists : Known ClauseList) (place : Place) (it : Clause) → AreRight (IsListOf judged) lists → IsFound judged.verdicts lists place it
      → HasEachVariable it → (terms : List Term) → length terms ≡ it.vars → IsFit judged (key_at place terms)
  found_fit lists place it right at each terms long = record { clause = it; of = found_clause lists place it right at terms; each = long; stand = each }

  -- ---- one clause

  module _ (images : HasImages judged) where
    one_stands : {i : ℕ} {r : Nf} → Stands judged i r → (s : Nf) → Stands judged i s → r ≡ s
    one_stands (own i step v has base at) _ (own _ step' v' has' base' at') =
        ap₂ (λ (x : Step) (y : Verdict). normal_of x.formula (sign_of y)) (same_some (step_in judged.steps i) step step' at at') (one_has judged i v v' has has')
    one_stands (own i step v has base at) _ (image _ q r s m here one up img) = absurd (not_own judged i v m has here base)
    one_stands (image i q r s m here one up img) _ (own _ step v has base at) = absurd (not_own judged i v m has here base)
    one_stands (image i q r s m here one up img) t (image _ q' r' _ m' here' one' up' img') =
        let q_is : q' ≡ q = same_item (parents_at judged i) q' q one' one in
        let r_is : r ≡ r' = one_stands up r' (subst (λ x. Stands judged x r') q_is up') in
        let m_is : m ≡ m' = same_map m m' (Structural m) (Structural m') (one_has judged i (Structural m) (Structural m') here here') refl refl in
        let img'' : IsImage r m.entries t = subst (λ x. IsImage r x.entries t) (sym m_is) (subst (λ x. IsImage x m'.entries t) (sym r_is) img') in
        let one_image = (images i q r m here one up).2 in
        one_image s img ∙ sym (one_image t img'')

    pub one_clause : {k : Key} {c : Clause} → IsClauseOf judged k c → (d : Clause) → IsClauseOf judged k d → c ≡ d
    one_clause (listed i n terms r row stands at) _ (listed _ _ _ r' row' stands' at') =
        let r_is : r ≡ r' = one_stands stands r' stands' in
        ap (λ (x : ClauseRow). x.clause) (same_some (slice_get (clause_rows r') n) row row' (subst (λ x. slice_get (clause_rows x) n ≡ Some row) r_is at) at')
    one_clause (middle i j n terms chains chain clause here at mid) _ (middle _ _ _ _ chains' chain' clause' here' at' mid') =
        let e = one_has judged i (Chained chains) (Chained chains') here here' in
        let l : chains ≡ chains' = cc in
        let d : chain ≡ chain' = same_some (slice_get chains' n) chain chain' (subst (λ x. slice_get x n ≡ Some chain) l at) at' in
        same_some (slice_get chain'.mids j) clause clause' (subst (λ (x : Chain). slice_get x.mids j ≡ Some clause) d mid) mid'
    one_clause (middle i _ n terms chains chain clause here at mid) _ (imaged _ _ _ composed row here' at') =
        let e = one_has judged i (Chained chains) (Composes composed) here here' in cc
    one_clause (imaged i n terms composed row here at) _ (middle _ _ _ _ chains chain clause here' at' mid) =
        let e = one_has judged i (Chained chains) (Composes composed) here' here in cc
    one_clause (imaged i n terms composed row here at) _ (imaged _ _ _ composed' row' here' at') =
        let e = one_has judged i (Composes composed) (Composes composed') here here' in
        let l : composed ≡ composed' = cc in
        ap (λ (x : ClauseRow). x.clause) (same_some (slice_get composed'.image.rows n) row row' (subst (λ (x : Composed). slice_get x.image.rows n ≡ Some row) l at) at')

    -- ---- terms of an instance

    stands_in : (clause : Clause) → HasEachVariable clause → (terms : List Term) → length terms ≡ clause.vars → (t : Term) → IsPartOf terms t
        → IsInClause (map (instance (value_in terms)) clause.lits) t
    stands_in clause each terms long t (u, (k, l, e), p) =
        let v = each k (omega arith) in
        let r = literal_part (value_in terms) k v.0 v.2 in
        let at : get_or terms k Any ≡ u = any_default terms k u l ∙ e in
        let q : IsPart u r.0 = subst (λ x. IsPart x r.0) at r.2 in
        (instance (value_in terms) v.0, mapped (instance (value_in terms)) clause.lits v.0 v.1, (r.0, r.1, part_then p q))
      where
        any_default : (xs : List Term) (k : ℕ) (d : Term) → k < length xs → get_or xs k Any ≡ get_or xs k d
        any_default [] k d l = absurd (omega arith)
        any_default (x ∷ xs) zero d l = refl
        any_default (x ∷ xs) (suc k) d l = any_default xs k d (omega arith)

    -- the terms of an instance that has its clause stand in its ground clause
    pub part_in_clause : (list : List Key) (it : Instance) → IsInstance judged list it → IsFit judged (key_of it) → (t : Term) → IsPartOf it.terms t → IsInClause it.lits t
    part_in_clause list it is fit t p =
        let same : fit.clause ≡ is.clause = one_clause fit.of is.clause is.of in
        subst (λ x. IsInClause x t) (sym is.lits) (stands_in is.clause (subst HasEachVariable same fit.stand) it.terms is.each t p)

-- what holds of the item, where there is one
pub match_as : {X : Type 0} {P Q : X → Type 0} (o : Option X) → ((x : X) → P x → Q x) → MatchOption o ⊤ P → MatchOption o ⊤ Q
match_as None f h = h
match_as (Some x) f h = f x h
