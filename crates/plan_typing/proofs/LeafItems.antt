-- The items of a problem that leaves name.
use Rattle.std.proofs.Common.{◌≡◌, ℕ, Bool, true, false, not, ◌||◌, List, [], ◌∷◌, ◌++◌, map, find, length, slice_get, Option, Some, None, refl, sym, ap, ◌∙◌, subst}
use Rattle.std.specs.Prelude.{option_to_list}
use Rattle.std.specs.List.{list_any}
use Rattle.std.proofs.lemmas.Option.{same_Some}
use Rattle.assemble.specs.Problem.{theory_conclusion, theory_formulas}
use Rattle.dk_syntax.proofs.SymbolLaws.{names_same}
use Rattle.dk_syntax.specs.Lists.{Entry}
use Rattle.dk_syntax.specs.declared.Named.{Named}
use Rattle.dk_syntax.specs.declared.Problem.{Problem}
use Rattle.ground_instances.specs.Keys.{IsLeafVerdict, sign_of}
use Rattle.nd_term.specs.Views.{theory_formula}
use Rattle.plan.proofs.LeafSymbols.{inference_not}
use Rattle.plan_typing.proofs.LeafLists.{entry_put, found_place, got_placed, got_put, last_place}
use Rattle.plan_typing.specs.Laws.{item_names}
use Rattle.plan_typing.specs.Reasons.{formula_at, leaf_name, place_named}
use Rattle.step_check.proofs.OneRepresentative.{same_some}
use Rattle.step_check.specs.Steps.{Case, has_name, item_named, names_conjecture, step_in}
use Rattle.step_check.specs.Verdicts as is
use Rattle.step_check.specs.Verdicts.{HasVerdict}
use Rattle.step_check.specs.declared.verdict.Verdict.{Verdict}
use Rattle.tstp_trace.specs.Names.{AreDistinct}
use Rattle.tstp_trace.specs.declared.step.Step.{Step}

-- the item that a leaf names has its formula, and is the conjecture where the sign is negative
pub record IsItem (problem : Problem) (step : Step) (sign : Bool) : Type 0 where
  pub item : Named
  pub found : item_named problem (leaf_name step.source) ≡ Some item
  pub formula : item.formula ≡ step.formula
  pub named : names_conjecture problem (leaf_name step.source) ≡ not sign

module _ (case : Case) where
  leaf_item : (step : Step) (name : List ℕ) {v : Verdict} → leaf_name step.source ≡ name → is.IsLeafVerdict case step name v → IsLeafVerdict v → IsItem case.problem step (sign_of v)
  leaf_item step name e (is.unknown h) l = absurd l
  leaf_item step name e (is.altered item at h) l = absurd l
  leaf_item step name e (is.conjecture item at h k) l =
      record { item = item; found = ap (item_named case.problem) e ∙ at; formula = h; named = ap (names_conjecture case.problem) e ∙ k }
  leaf_item step name e (is.leaf item at h k) l =
      record { item = item; found = ap (item_named case.problem) e ∙ at; formula = h; named = ap (names_conjecture case.problem) e ∙ k }

  pub item_of : {i : ℕ} {v : Verdict} → HasVerdict case i v → IsLeafVerdict v → (step : Step) → step_in case.steps i ≡ Some step → IsItem case.problem step (sign_of v)
  item_of (is.over i limit h) l step at = absurd l
  item_of (is.over_full i q r limit w may rep h) l step at = absurd l
  item_of (is.of_leaf i found name v bounds there from h) l step at =
      let s : found ≡ step = same_some (step_in case.steps i) found step there at in
      subst (λ (x : Step). IsItem case.problem x (sign_of v)) s (leaf_item found name (ap leaf_name from) h l)
  item_of (is.of_inference i cth esa v bounds derived h) l step at = absurd (inference_not case h l)

-- ---- a hypothesis

-- the item stands at the place of its name among the hypotheses
pub hypothesis_at : (problem : Problem) (step : Step) → (it : IsItem problem step true) → slice_get problem.hyps (place_named problem.hyps (leaf_name step.source)) ≡ Some it.item
hypothesis_at problem step it = got_placed (has_name (leaf_name step.source)) problem.hyps (option_to_list problem.conjecture) 0 it.item it.found it.named

pub hypothesis_entry : (problem : Problem) (step : Step) → IsItem problem step true
    → Entry (theory_formulas problem.hyps) (place_named problem.hyps (leaf_name step.source)) (theory_formula step.formula)
hypothesis_entry problem step it =
    subst (λ f. Entry (theory_formulas problem.hyps) (place_named problem.hyps (leaf_name step.source)) (theory_formula f)) it.formula
    (entry_put (λ (h : Named). theory_formula h.formula) problem.hyps (place_named problem.hyps (leaf_name step.source)) it.item (hypothesis_at problem step it))

-- so the formula there is the leaf's
pub hypothesis_formula : (problem : Problem) (step : Step) → IsItem problem step true
    → formula_at (slice_get problem.hyps (place_named problem.hyps (leaf_name step.source))) ≡ step.formula
hypothesis_formula problem step it = ap formula_at (hypothesis_at problem step it) ∙ it.formula

-- ---- the conjecture

or_false : (b : Bool) → (b || false) ≡ true → b ≡ true
or_false true h = refl
or_false false h = h

module _ (hyps : List Named) (c : Named) (distinct : AreDistinct (map (λ (n : Named). n.name) (hyps ++ c ∷ []))) where
  -- the items of the conjecture's name are the conjecture
  one_conjecture : (name : List ℕ) (item : Named) → find (has_name name) (hyps ++ c ∷ []) ≡ Some item → has_name name c ≡ true → item ≡ c
  one_conjecture name item h k =
      let names = map (λ (n : Named). n.name) (hyps ++ c ∷ []) in
      let r = found_place (has_name name) (hyps ++ c ∷ []) item h in
      let mine : name ≡ item.name = names_same name item.name r.2 in
      let other : name ≡ c.name = names_same name c.name k in
      let first : slice_get names r.0 ≡ Some name = got_put (λ (n : Named). n.name) (hyps ++ c ∷ []) r.0 item r.1 ∙ ap Some (sym mine) in
      let last : slice_get names (length hyps) ≡ Some name =
      got_put (λ (n : Named). n.name) (hyps ++ c ∷ []) (length hyps) c (last_place hyps c) ∙ ap Some (sym other) in
      let at : r.0 ≡ length hyps = distinct r.0 (length hyps) name first last in
      same_Some item c (sym r.1 ∙ ap (slice_get (hyps ++ c ∷ [])) at ∙ last_place hyps c)

-- the formula of the conjecture is the leaf's
pub record IsConjectured (conjecture : Option Named) (step : Step) : Type 0 where
  pub formula : formula_at conjecture ≡ step.formula
  pub theory : theory_conclusion conjecture ≡ theory_formula step.formula

conjectured_by : (hyps : List Named) (conjecture : Option Named) (step : Step) (item : Named) → AreDistinct (map (λ (n : Named). n.name) (hyps ++ option_to_list conjecture))
    → find (has_name (leaf_name step.source)) (hyps ++ option_to_list conjecture) ≡ Some item → item.formula ≡ step.formula
    → list_any (has_name (leaf_name step.source)) (option_to_list conjecture) ≡ true → IsConjectured conjecture step
conjectured_by hyps None step item distinct found formula named = absurd cc
conjectured_by hyps (Some c) step item distinct found formula named =
    let one = one_conjecture hyps c distinct (leaf_name step.source) item found (or_false (has_name (leaf_name step.source) c) named) in
    let same : c.formula ≡ step.formula = ap (λ (n : Named). n.formula) (sym one) ∙ formula in
    record { formula = same; theory = ap theory_formula same }

pub conjectured : (problem : Problem) (step : Step) → AreDistinct (item_names problem) → IsItem problem step false → IsConjectured problem.conjecture step
conjectured problem step distinct it = conjectured_by problem.hyps problem.conjecture step it.item distinct it.found it.formula it.named
