-- One map, one list of origins, one thin tree.
use Rattle.std.proofs.Common.{◌≡◌, ℕ, suc, Bool, List, [], ◌∷◌, ◌++◌, Some, slice_get, refl, sym, ap, ap₂, ◌∙◌, subst, arith}
use Rattle.std.specs.List.{Contains}
use Rattle.dk_syntax.specs.declared.formula.Formula.{Formula}
use Rattle.dk_syntax.specs.declared.symbol.SymKey.{SymKey}
use Rattle.expansion.specs.Choices.{thin_tree}
use Rattle.expansion.specs.declared.thin.Thin.{Thin}
use Rattle.ground_instances.specs.declared.instance.Instance.{Instance}
use Rattle.normal_form.specs.ClauseLists.{clause_rows}
use Rattle.normal_form.specs.Normal.{normal_of}
use Rattle.normal_form.specs.declared.clause_list.ClauseRow.{ClauseRow}
use Rattle.plan.proofs.Counts.{only_one}
use Rattle.plan.proofs.Membership.{among}
use Rattle.plan.proofs.StepMaps.{map_one, same_composed, same_verdict, sources_of, stands_one}
use Rattle.plan.specs.Laws.{AreRightSteps, judged_of, MapsAreOne, OriginsAreOne, ThinIsOne}
use Rattle.plan.specs.Maps.{to_form, to_image}
use Rattle.plan.specs.Origins.{AreOriginsFrom, AreOriginsOf, IsOrigin}
use Rattle.plan.specs.Thins.{IsThin, of_form, of_image}
use Rattle.skolem_order.specs.declared.origins.Origin.{Origin}
use Rattle.step_check.proofs.OneRepresentative.{same_some}
use Rattle.step_check.specs.Freshness.{introduced}
use Rattle.step_check.specs.Steps.{Case}
use Rattle.step_check.specs.declared.verdict.Verdict.{Verdict}
use Rattle.step_check.specs.declared.verdict.Verdict.TheVariants.{Composes}
use Rattle.step_compose.specs.declared.composed.Composed.{Composed}
use Rattle.step_skolem.specs.Images.{entry}
use Rattle.step_skolem.specs.declared.map.SkEntry.{SkEntry}

pub maps_are_one : MapsAreOne
maps_are_one case list s i f g sign other m n h k = let r = map_one case list s.are s.right s.acyclic h k in record { formula = r.formula; sign = r.sign; entries = r.entries }

-- ---- origins

origin_of_parts : (o p : Origin) → o.symbol ≡ p.symbol → o.leaf ≡ p.leaf → o.sign ≡ p.sign → o.ex ≡ p.ex → o.map.entries ≡ p.map.entries → o ≡ p
origin_of_parts o p a b c d e = λ i. record { symbol = a i; leaf = b i; sign = c i; ex = d i; map = record { entries = e i } }

module _ (case : Case) (list : List Verdict) (s : AreRightSteps case list) where
  one_origin : (i : ℕ) (x : SymKey) (o p : Origin) → IsOrigin (judged_of case list) i x o → IsOrigin (judged_of case list) i x p → o ≡ p
  one_origin i x o p h k =
      let same = map_one case list s.are s.right s.acyclic h.maps k.maps in
      let sources = sources_of case list s.are s.right s.acyclic k.maps in
      let here = subst (λ l. Contains l (entry o.ex x h.args)) same.entries h.own in
      let alike = only_one p.map.entries (entry o.ex x h.args) (entry p.ex x k.args) sources.once
      (among p.map.entries (entry o.ex x h.args) here) (among p.map.entries (entry p.ex x k.args) k.own) refl in
      origin_of_parts o p (h.named ∙ sym k.named) same.formula same.sign (ap (λ (y : SkEntry). y.ex) alike) same.entries

  one_step : (i : ℕ) (symbols : List SymKey) (os ps : List Origin) → AreOriginsOf (judged_of case list) i symbols os → AreOriginsOf (judged_of case list) i symbols ps → os ≡ ps
  one_step i [] [] [] h k = refl
  one_step i [] [] (p ∷ ps) h k = absurd k
  one_step i [] (o ∷ os) ps h k = absurd h
  one_step i (x ∷ symbols) [] ps h k = absurd h
  one_step i (x ∷ symbols) (o ∷ os) [] h k = absurd k
  one_step i (x ∷ symbols) (o ∷ os) (p ∷ ps) h k = ap₂ (λ a b. a ∷ b) (one_origin i x o p h.0 k.0) (one_step i symbols os ps h.1 k.1)

  one_list : (before : ℕ) (vs : List Verdict) (os ps : List Origin) → AreOriginsFrom (judged_of case list) before vs os → AreOriginsFrom (judged_of case list) before vs ps → os ≡ ps
  one_list before [] os ps h k = h ∙ sym k
  one_list before (v ∷ vs) os ps (a, b, is, h, k) (c, d, at, l, m) =
      is ∙ ap₂ (λ x y. x ++ y) (one_step (suc before) (introduced v) a c h l) (one_list (suc before) vs b d k m) ∙ sym at

  -- ---- thin trees

  tree_same : (it : Instance) (f g : Formula) (a b : Bool) (m n : List SkEntry) (row other : ClauseRow) (t u : Thin) → f ≡ g → a ≡ b → m ≡ n → row ≡ other
      → t ≡ thin_tree a (normal_of f a) m row it.terms → u ≡ thin_tree b (normal_of g b) n other it.terms → t ≡ u
  tree_same it f g a b m n row other t u p q r w h k =
      h ∙ ap (λ x. thin_tree a (normal_of x a) m row it.terms) p ∙ ap (λ x. thin_tree x (normal_of g x) m row it.terms) q
      ∙ ap (λ x. thin_tree b (normal_of g b) x row it.terms) r ∙ ap (λ x. thin_tree b (normal_of g b) n x it.terms) w ∙ sym k

  apart : (n : ℕ) → n ≡ 0 → n ≡ 1 → ⊥
  apart n h k = omega (arith, h, k)

  one_thin : (it : Instance) (t u : Thin) → IsThin (judged_of case list) it t → IsThin (judged_of case list) it u → t ≡ u
  one_thin it t u (of_form h) (of_form k) =
      let same = map_one case list s.are s.right s.acyclic (to_form h.maps) (to_form k.maps) in
      let form : h.maps.form ≡ k.maps.form = stands_one case list s.are s.right s.acyclic h.maps.represents k.maps.represents in
      let row : h.row ≡ k.row = same_some (slice_get (clause_rows k.maps.form) it.clause) h.row k.row
      (subst (λ n. slice_get (clause_rows n) it.clause ≡ Some h.row) form h.listed) k.listed in
      tree_same it h.leaf k.leaf h.sign k.sign h.entries k.entries h.row k.row t u same.formula same.sign same.entries row h.tree k.tree
  one_thin it t u (of_form h) (of_image k) = absurd (apart it.stage h.stage k.stage)
  one_thin it t u (of_image h) (of_form k) = absurd (apart it.stage k.stage h.stage)
  one_thin it t u (of_image h) (of_image k) =
      let same = map_one case list s.are s.right s.acyclic (to_image h.maps) (to_image k.maps) in
      let c : h.maps.composed ≡ k.maps.composed = same_composed h.maps.composed k.maps.composed
      (same_verdict (judged_of case list) it.step (Composes h.maps.composed) (Composes k.maps.composed) h.maps.here k.maps.here) in
      let row : h.row ≡ k.row = same_some (slice_get k.maps.composed.image.rows it.clause) h.row k.row
      (subst (λ (x : Composed). slice_get x.image.rows it.clause ≡ Some h.row) c h.listed) k.listed in
      tree_same it h.leaf k.leaf h.sign k.sign h.entries k.entries h.row k.row t u same.formula same.sign same.entries row h.tree k.tree

pub origins_are_one : OriginsAreOne
origins_are_one case list s origins others h k = one_list case list s 0 list origins others h k

pub thin_is_one : ThinIsOne
thin_is_one case list s it thin other h k = one_thin case list s it thin other h k
