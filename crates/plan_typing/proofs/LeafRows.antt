-- The rows of which instances with thin trees are, and their leaves.
use Rattle.std.proofs.Common.{◌≡◌, ℕ, Bool, true, false, List, map, length, slice_get, Some, refl, sym, ap, ◌∙◌, subst}
use Rattle.dk_syntax.specs.Lists.{Every}
use Rattle.dk_syntax.specs.Terms.{instance}
use Rattle.dk_syntax.specs.WellFormed.{IsClosed, IsGround}
use Rattle.dk_syntax.specs.declared.clause.Clause.{Clause}
use Rattle.dk_syntax.specs.declared.formula.Formula.{Formula}
use Rattle.expansion.specs.Choices.{thin_tree}
use Rattle.expansion.specs.Rows.{IsGrounded, ground_clause}
use Rattle.expansion.specs.declared.thin.Thin.{Thin}
use Rattle.ground_instances.proofs.ClauseLaws.{one_clause}
use Rattle.ground_instances.proofs.StandsLaws.{images, stands_represents, verdict_at}
use Rattle.ground_instances.specs.Instances.{IsInstance, key_of}
use Rattle.ground_instances.specs.Keys.{IsClauseOf, Key, imaged, key, listed}
use Rattle.ground_instances.specs.Needs.{value_in}
use Rattle.ground_instances.specs.declared.instance.Instance.{Instance}
use Rattle.normal_form.proofs.NormalFacts.{closed_stays_closed}
use Rattle.normal_form.specs.ClauseLists.{clause_rows}
use Rattle.normal_form.specs.Normal.{normal_of}
use Rattle.normal_form.specs.declared.clause_list.ClauseRow.{ClauseRow}
use Rattle.normal_form.specs.declared.form.Nf.{Nf}
use Rattle.plan.specs.Laws.{AreRightSteps, judged_of}
use Rattle.plan.specs.Maps.{IsComposedMap, IsMapOf, to_form, to_image}
use Rattle.plan.specs.Thins.{IsThin, of_form, of_image}
use Rattle.plan_typing.proofs.LeafLists.{entry_got}
use Rattle.step_check.proofs.OneRepresentative.{one_representative, parent_one}
use Rattle.step_check.specs.Representatives.{HasOneParent, Represents}
use Rattle.step_check.specs.Steps.{Case, aliens_of}
use Rattle.step_check.specs.Verdicts as is
use Rattle.step_check.specs.Verdicts.{HasVerdict, IsClausalVerdict, IsFlaggedVerdict, IsInferenceVerdict, IsOtherVerdict, IsPlainVerdict}
use Rattle.step_check.specs.declared.verdict.Verdict.{Verdict}
use Rattle.step_check.specs.declared.verdict.Verdict.TheVariants.{Composes}
use Rattle.step_compose.proofs.FullImages.{full_is_image}
use Rattle.step_compose.specs.Composing.{symbol_by}
use Rattle.step_compose.specs.FullImages.{full_image}
use Rattle.step_compose.specs.declared.composed.Composed.{Composed}
use Rattle.step_skolem.proofs.OneImage.{image_is_one}
use Rattle.step_skolem.specs.Images.{IsImage}
use Rattle.step_skolem.specs.declared.map.SkEntry.{SkEntry}

-- ---- the image of a composed step

-- its rows are those of an image of the form that represents the parent
record IsImaged (case : Case) (i : ℕ) (c : Composed) : Type 0 where
  pub parent : ℕ
  pub above : Nf
  pub form : Nf
  pub one : HasOneParent case i parent
  pub represents : Represents case parent above
  pub leads : IsImage above c.map.entries form
  pub rows : c.image.rows ≡ clause_rows form

same_composed : (c d : Composed) → Composes c ≡ Composes d → c ≡ d
same_composed c d e = cc

module _ (case : Case) where
  leaf_alone : {step : _} {name : List ℕ} {v : Verdict} → is.IsLeafVerdict case step name v → (c : Composed) → v ≡ Composes c → ⊥
  leaf_alone (is.unknown h) c e = cc
  leaf_alone (is.altered item at h) c e = cc
  leaf_alone (is.conjecture item at h k) c e = cc
  leaf_alone (is.leaf item at h k) c e = cc

  clausal_alone : {lists : _} {rows : _} {v : Verdict} → IsClausalVerdict lists rows v → (c : Composed) → v ≡ Composes c → ⊥
  clausal_alone (is.clausal steps n h) c e = cc
  clausal_alone (is.chained chains n h) c e = cc
  clausal_alone (is.unjustified number h) c e = cc

  plain_alone : {i : ℕ} {v : Verdict} → IsPlainVerdict case i v → (c : Composed) → v ≡ Composes c → ⊥
  plain_alone (is.has_exists h) c e = cc
  plain_alone (is.alien symbol h k) c e = cc
  plain_alone (is.by_clauses lists v h k l by) c e = clausal_alone by c e

  flagged_image : {i : ℕ} {v : Verdict} → IsFlaggedVerdict case i v → (c : Composed) → v ≡ Composes c → IsImaged case i c
  flagged_image {i} (is.composes q r found may rep least) c e =
      let symbols = symbol_by (aliens_of case i) least.0 in
      let led : IsImage r found.map.entries (full_image symbols r) = subst (λ l. IsImage r l (full_image symbols r)) (sym least.1.map_is) (full_is_image symbols r) in
      let same : found ≡ c = same_composed found c e in
      record {
        parent = q;
        above = r;
        form = full_image symbols r;
        one = may.one;
        represents = rep;
        leads = subst (λ (x : Composed). IsImage r x.map.entries (full_image symbols r)) same led;
        rows = subst (λ (x : Composed). x.image.rows ≡ clause_rows (full_image symbols r)) same least.1.image;
      }
  flagged_image (is.composes_not q r may rep none) c e = cc
  flagged_image (is.in_no_question h) c e = cc

  other_image : (i : ℕ) (cth esa : Bool) (v : Verdict) → IsOtherVerdict case i cth esa v → (c : Composed) → v ≡ Composes c → IsImaged case i c
  other_image i false false v h c e = absurd (plain_alone h c e)
  other_image i true esa v h c e = flagged_image h c e
  other_image i false true v h c e = flagged_image h c e

  inference_image : {i : ℕ} {cth esa : Bool} {v : Verdict} → IsInferenceVerdict case i cth esa v → (c : Composed) → v ≡ Composes c → IsImaged case i c
  inference_image (is.conjecture_parent a h) c e = cc
  inference_image (is.not_conjecture a h) c e = cc
  inference_image (is.same q fit one like) c e = cc
  inference_image (is.skolem q r entries fit one flag like rep) c e = cc
  inference_image {i} {cth} {esa} (is.other v fit nor o) c e = other_image i cth esa v o c e

  composed_image : {i : ℕ} {v : Verdict} → HasVerdict case i v → (c : Composed) → v ≡ Composes c → IsImaged case i c
  composed_image (is.over i l h) c e = cc
  composed_image (is.over_full i q r l within may rep h) c e = cc
  composed_image (is.of_leaf i step name v all at from h) c e = absurd (leaf_alone h c e)
  composed_image (is.of_inference i cth esa v all derived h) c e = inference_image h c e

-- ---- the row of an instance

-- the map from the leaf's form leads to one whose clause list has the row, and the tree and the literals are those of the row
pub record IsOfRow (case : Case) (list : List Verdict) (it : Instance) (thin : Thin) : Type 0 where
  pub leaf : Formula
  pub sign : Bool
  pub entries : List SkEntry
  pub maps : IsMapOf (judged_of case list) it.step leaf sign entries
  pub row : ClauseRow
  pub image : Nf
  pub leads : IsImage (normal_of leaf sign) entries image
  pub listed : slice_get (clause_rows image) it.clause ≡ Some row
  pub tree : thin ≡ thin_tree sign (normal_of leaf sign) entries row it.terms
  pub many : length it.terms ≡ row.clause.vars
  pub lits : it.lits ≡ ground_clause row it.terms

module _ (case : Case) (list : List Verdict) (s : AreRightSteps case list) where
  -- the rows of a composed step's image are those of the form to which its map leads
  image_rows : (i : ℕ) (f : Formula) (sign : Bool) (entries : List SkEntry) → (maps : IsComposedMap (judged_of case list) i f sign entries) → maps.composed.image.rows ≡ clause_rows maps.form
  image_rows i f sign entries maps =
      let d = composed_image case (verdict_at case list s.are s.right i (Composes maps.composed) maps.here) maps.composed refl in
      let at : d.parent ≡ maps.parent = parent_one case i d.parent maps.parent d.one maps.one in
      let above : d.above ≡ maps.above =
      one_representative case d.represents maps.above (subst (λ q. Represents case q maps.above) (sym at) (stands_represents case list s.are s.right maps.represents)) in
      let led : IsImage maps.above maps.composed.map.entries d.form = subst (λ x. IsImage x maps.composed.map.entries d.form) above d.leads in
      let form : d.form ≡ maps.form =
      sym (image_is_one maps.above d.form maps.composed.map.entries led) ∙ image_is_one maps.above maps.form maps.composed.map.entries maps.image in
      d.rows ∙ ap clause_rows form

  -- an instance that has the row's clause
  module _ (keys : List Key) (it : Instance) (of : IsInstance (judged_of case list) keys it) (row : ClauseRow) (has : IsClauseOf (judged_of case list) (key_of it) row.clause) where
    same_clause : of.clause ≡ row.clause
    same_clause = one_clause (judged_of case list) (images case list s.are s.right) of.of row.clause has

    row_many : length it.terms ≡ row.clause.vars
    row_many = of.each ∙ ap (λ (c : Clause). c.vars) same_clause

    row_lits : it.lits ≡ ground_clause row it.terms
    row_lits = subst (λ (c : Clause). it.lits ≡ map (instance (value_in it.terms)) c.lits) same_clause of.lits

  pub row_of : (keys : List Key) (it : Instance) (thin : Thin) → IsInstance (judged_of case list) keys it → IsThin (judged_of case list) it thin → IsOfRow case list it thin
  row_of keys it thin of (of_form h) =
      let has : IsClauseOf (judged_of case list) (key_of it) h.row.clause =
      subst (λ n. IsClauseOf (judged_of case list) (key it.step n it.clause it.terms) h.row.clause) (sym h.stage)
      (listed it.step it.clause it.terms h.maps.form h.row h.maps.represents h.listed) in
      record {
        leaf = h.leaf;
        sign = h.sign;
        entries = h.entries;
        maps = to_form h.maps;
        row = h.row;
        image = h.maps.form;
        leads = h.maps.leads;
        listed = h.listed;
        tree = h.tree;
        many = row_many keys it of h.row has;
        lits = row_lits keys it of h.row has;
      }
  row_of keys it thin of (of_image h) =
      let has : IsClauseOf (judged_of case list) (key_of it) h.row.clause =
      subst (λ n. IsClauseOf (judged_of case list) (key it.step n it.clause it.terms) h.row.clause) (sym h.stage)
      (imaged it.step it.clause it.terms h.maps.composed h.row h.maps.here h.listed) in
      record {
        leaf = h.leaf;
        sign = h.sign;
        entries = h.entries;
        maps = to_image h.maps;
        row = h.row;
        image = h.maps.form;
        leads = h.maps.leads;
        listed = subst (λ (l : List ClauseRow). slice_get l it.clause ≡ Some h.row) (image_rows it.step h.leaf h.sign h.entries h.maps) h.listed;
        tree = h.tree;
        many = row_many keys it of h.row has;
        lits = row_lits keys it of h.row has;
      }

-- so the row is grounded, where the leaf is closed and the terms are ground
pub row_grounded : (case : Case) (list : List Verdict) (it : Instance) (thin : Thin) (r : IsOfRow case list it thin) → IsClosed r.leaf → Every IsGround it.terms
    → IsGrounded (normal_of r.leaf r.sign) r.entries r.row it.terms
row_grounded case list it thin r closed grounds = record {
  closed = closed_stays_closed r.leaf r.sign closed;
  image = r.image;
  leads = r.leads;
  place = it.clause;
  listed = entry_got (clause_rows r.image) it.clause r.row r.listed;
  many = r.many;
  ground = grounds;
}
