-- The thin trees of instances.
use Rattle.std.specs.Prelude.{◌≡◌, Bool, List, [], ◌∷◌, slice_get, Option, Some, MatchOption}
use Rattle.dk_syntax.specs.declared.formula.Formula.{Formula}
use Rattle.expansion.specs.Choices.{thin_tree}
use Rattle.expansion.specs.declared.thin.Thin.{Thin}
use Rattle.ground_instances.specs.Keys.{Judged}
use Rattle.ground_instances.specs.declared.instance.Instance.{Instance}
use Rattle.normal_form.specs.ClauseLists.{clause_rows}
use Rattle.normal_form.specs.Normal.{normal_of}
use Rattle.normal_form.specs.declared.clause_list.ClauseRow.{ClauseRow}
use Rattle.plan.specs.Maps.{IsComposedMap, IsMap}
use Rattle.step_skolem.specs.declared.map.SkEntry.{SkEntry}

-- the thin tree of the row and the instance's terms, through the leaf's form and the map
abbrev pub IsTreeOf : Formula → Bool → List SkEntry → ClauseRow → Instance → Thin → Type 0
IsTreeOf f sign entries row it thin = thin ≡ thin_tree sign (normal_of f sign) entries row it.terms

-- a leaf's instance, or that of a structural step over a leaf
pub record IsFormTree (judged : Judged) (it : Instance) (thin : Thin) : Type 0 where
  pub stage : it.stage ≡ 0
  pub leaf : Formula
  pub sign : Bool
  pub entries : List SkEntry
  pub maps : IsMap judged it.step leaf sign entries
  pub row : ClauseRow
  pub listed : slice_get (clause_rows maps.form) it.clause ≡ Some row
  pub tree : IsTreeOf leaf sign entries row it thin

-- an instance of the image of a form over a leaf
pub record IsImageTree (judged : Judged) (it : Instance) (thin : Thin) : Type 0 where
  pub stage : it.stage ≡ 1
  pub leaf : Formula
  pub sign : Bool
  pub entries : List SkEntry
  pub maps : IsComposedMap judged it.step leaf sign entries
  pub row : ClauseRow
  pub listed : slice_get maps.composed.image.rows it.clause ≡ Some row
  pub tree : IsTreeOf leaf sign entries row it thin

-- the instance has that thin tree
pub data IsThin (judged : Judged) (it : Instance) (thin : Thin) : Type 0 where
  of_form : IsFormTree judged it thin → IsThin judged it thin
  of_image : IsImageTree judged it thin → IsThin judged it thin

-- the instance's thin tree, or none where it has none
abbrev pub IsThinAnswer : Judged → Instance → Option Thin → Type 0
IsThinAnswer judged it answer = MatchOption answer ((thin : Thin) → IsThin judged it thin → ⊥) (IsThin judged it)

-- the thin trees of the instances, in order
abbrev pub AreThins : Judged → List Instance → List (Option Thin) → Type 0
AreThins judged [] [] = Unit {0}
AreThins judged [] (thin ∷ thins) = ⊥
AreThins judged (it ∷ instances) [] = ⊥
AreThins judged (it ∷ instances) (thin ∷ thins) = IsThinAnswer judged it thin × AreThins judged instances thins
