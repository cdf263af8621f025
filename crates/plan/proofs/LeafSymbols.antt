-- The symbols of leaves are symbols of the problem.
use Rattle.std.proofs.Common.{◌≡◌, ◌⊎◌, ℕ, Bool, true, false, List, [], ◌∷◌, ◌++◌, map, Option, Some, None, cond, if◌then◌else◌, find, refl, sym, ap, ◌∙◌, subst, inl, inr}
use Rattle.std.specs.Prelude.{option_to_list}
use Rattle.std.specs.List.{list_any}
use Rattle.std.proofs.lemmas.Option.{same_Some}
use Rattle.dk_syntax.specs.Problems.{formula_of, formulas_of, HasItsSymbols, symbols_of_formulas}
use Rattle.dk_syntax.specs.Symbols.{first_symbols, formula_occurrences, joined, same_symbol, with_symbol, with_symbols}
use Rattle.dk_syntax.specs.declared.Named.{Named}
use Rattle.dk_syntax.specs.declared.Problem.{Problem}
use Rattle.dk_syntax.specs.declared.formula.Formula.{Formula}
use Rattle.dk_syntax.specs.declared.symbol.SymKey.{SymKey}
use Rattle.ground_instances.specs.Keys.{IsLeafVerdict}
use Rattle.plan.proofs.Counts.{among_stands, stands_among}
use Rattle.plan.proofs.Membership.{Among, among_either, among_left, among_right}
use Rattle.step_check.specs.Steps.{Case, has_name, item_named, stands_in, step_in}
use Rattle.step_check.specs.Verdicts as is
use Rattle.step_check.specs.Verdicts.{HasVerdict, IsClausalVerdict, IsFlaggedVerdict, IsInferenceVerdict, IsOtherVerdict, IsPlainVerdict}
use Rattle.step_check.proofs.OneRepresentative.{same_some}
use Rattle.step_check.specs.declared.verdict.Verdict.{Verdict}
use Rattle.tstp_trace.specs.declared.step.Step.{Step}

-- ---- symbols that are added once

old_stays : (seen : List SymKey) (s x : SymKey) → Among seen x → Among (with_symbol seen s) x
old_stays seen s x h = by_test (list_any (same_symbol s) seen)
  where
    by_test : (b : Bool) → Among (if b then seen else seen ++ s ∷ []) x
    by_test true = h
    by_test false = among_left seen (s ∷ []) x h

new_put : (seen : List SymKey) (s : SymKey) → Among (with_symbol seen s) s
new_put seen s = by_test (list_any (same_symbol s) seen) refl
  where
    by_test : (b : Bool) → list_any (same_symbol s) seen ≡ b → Among (if b then seen else seen ++ s ∷ []) s
    by_test true e = stands_among seen s e
    by_test false e = among_right seen (s ∷ []) s (inl refl)

one_from : (seen : List SymKey) (s x : SymKey) → Among (with_symbol seen s) x → Among seen x ⊎ (s ≡ x)
one_from seen s x h = by_test (list_any (same_symbol s) seen) h
  where
    last : Among (s ∷ []) x → s ≡ x
    last (inl e) = e
    last (inr k) = absurd k

    by_test : (b : Bool) → Among (if b then seen else seen ++ s ∷ []) x → Among seen x ⊎ (s ≡ x)
    by_test true k = inl k
    by_test false k = elim (among_either seen (s ∷ []) x k) [ inl l ↦ inl l | inr r ↦ inr (last r) ]

all_from : (l seen : List SymKey) (x : SymKey) → Among (with_symbols seen l) x → Among seen x ⊎ Among l x
all_from [] seen x h = inl h
all_from (s ∷ l) seen x h = elim (all_from l (with_symbol seen s) x h) [
  | inl k ↦ (elim (one_from seen s x k) [ inl m ↦ inl m | inr e ↦ inr (inl e) ])
  | inr k ↦ inr (inr k)
]

all_old : (l seen : List SymKey) (x : SymKey) → Among seen x → Among (with_symbols seen l) x
all_old [] seen x h = h
all_old (s ∷ l) seen x h = all_old l (with_symbol seen s) x (old_stays seen s x h)

all_put : (l seen : List SymKey) (x : SymKey) → Among l x → Among (with_symbols seen l) x
all_put [] seen x h = absurd h
all_put (s ∷ l) seen x (inl e) = all_old l (with_symbol seen s) x (subst (λ y. Among (with_symbol seen s) y) e (new_put seen s))
all_put (s ∷ l) seen x (inr h) = all_put l (with_symbol seen s) x h

among_joined : (fs : List Formula) (f : Formula) (x : SymKey) → Among fs f → Among (formula_occurrences f) x → Among (joined (map formula_occurrences fs)) x
among_joined [] f x h k = absurd h
among_joined (g ∷ fs) f x (inl e) k =
    among_left (formula_occurrences g) (joined (map formula_occurrences fs)) x (subst (λ y. Among (formula_occurrences y) x) (sym e) k)
among_joined (g ∷ fs) f x (inr h) k = among_right (formula_occurrences g) (joined (map formula_occurrences fs)) x (among_joined fs f x h k)

none_there : (l : List SymKey) (x : SymKey) → Among [] x ⊎ Among l x → Among l x
none_there l x (inl h) = absurd h
none_there l x (inr h) = h

-- a symbol of a formula of the problem is one of the problem
pub symbol_known : (problem : Problem) → HasItsSymbols problem → (f : Formula) → Among (formulas_of problem) f → (x : SymKey) → stands_in (first_symbols f) x ≡ true → stands_in problem.symbols x ≡ true
symbol_known problem own f h x k =
    let occurs = none_there (formula_occurrences f) x (all_from (formula_occurrences f) [] x (stands_among (first_symbols f) x k)) in
    let there = all_put (joined (map formula_occurrences (formulas_of problem))) [] x (among_joined (formulas_of problem) f x h occurs) in
    ap (λ l. stands_in l x) own ∙ among_stands (symbols_of_formulas (formulas_of problem)) x there

-- ---- the items of leaves

find_among : (test : Named → Bool) (l : List Named) (item : Named) → find test l ≡ Some item → Among l item
find_among test [] item h = absurd cc
find_among test (n ∷ l) item h = by_test (test n) h (λ k. find_among test l item k)
  where
    by_test : (b : Bool) → cond b (Some n) (find test l) ≡ Some item → (find test l ≡ Some item → Among l item) → Among (n ∷ l) item
    by_test true k more = inl (same_Some n item k)
    by_test false k more = inr (more k)

mapped : (l : List Named) (item : Named) → Among l item → Among (map (λ (n : Named). n.formula) l) item.formula
mapped [] item h = absurd h
mapped (n ∷ l) item (inl e) = inl (ap (λ (x : Named). x.formula) e)
mapped (n ∷ l) item (inr h) = inr (mapped l item h)

conjectured : (c : Option Named) (item : Named) → Among (option_to_list c) item → Among (formula_of c) item.formula
conjectured None item h = absurd h
conjectured (Some n) item (inl e) = inl (ap (λ (x : Named). x.formula) e)
conjectured (Some n) item (inr h) = absurd h

item_formula : (problem : Problem) (name : List ℕ) (item : Named) → item_named problem name ≡ Some item → Among (formulas_of problem) item.formula
item_formula problem name item h = elim (among_either problem.hyps (option_to_list problem.conjecture) item (find_among (has_name name) (problem.hyps ++ option_to_list problem.conjecture) item h)) [
  | inl l ↦ among_left (map (λ (n : Named). n.formula) problem.hyps) (formula_of problem.conjecture) item.formula (mapped problem.hyps item l)
  | inr r ↦ among_right (map (λ (n : Named). n.formula) problem.hyps) (formula_of problem.conjecture) item.formula (conjectured problem.conjecture item r)
]

module _ (case : Case) where
  clausal_not : {lists : _} {rows : _} {v : Verdict} → IsClausalVerdict lists rows v → IsLeafVerdict v → ⊥
  clausal_not (is.clausal steps n h) l = l
  clausal_not (is.chained chains n h) l = l
  clausal_not (is.unjustified number h) l = l

  plain_not : {i : ℕ} {v : Verdict} → IsPlainVerdict case i v → IsLeafVerdict v → ⊥
  plain_not (is.has_exists h) l = l
  plain_not (is.alien symbol h k) l = l
  plain_not (is.by_clauses lists v h k m c) l = clausal_not c l

  flagged_not : {i : ℕ} {v : Verdict} → IsFlaggedVerdict case i v → IsLeafVerdict v → ⊥
  flagged_not (is.composes q r c may rep least) l = l
  flagged_not (is.composes_not q r may rep none) l = l
  flagged_not (is.in_no_question h) l = l

  other_not : (i : ℕ) (cth esa : Bool) (v : Verdict) → IsOtherVerdict case i cth esa v → IsLeafVerdict v → ⊥
  other_not i false false v h l = plain_not h l
  other_not i true esa v h l = flagged_not h l
  other_not i false true v h l = flagged_not h l

  pub inference_not : {i : ℕ} {cth esa : Bool} {v : Verdict} → IsInferenceVerdict case i cth esa v → IsLeafVerdict v → ⊥
  inference_not (is.conjecture_parent c h) l = l
  inference_not (is.not_conjecture c h) l = l
  inference_not (is.same q fit one like) l = l
  inference_not (is.skolem q r entries fit one e like rep) l = l
  inference_not {i} {cth} {esa} (is.other v fit nor o) l = other_not i cth esa v o l

  leaf_formula : (step : Step) (name : List ℕ) {v : Verdict} → is.IsLeafVerdict case step name v → IsLeafVerdict v → Among (formulas_of case.problem) step.formula
  leaf_formula step name (is.unknown h) l = absurd l
  leaf_formula step name (is.altered item at h) l = absurd l
  leaf_formula step name (is.conjecture item at h k) l = subst (λ f. Among (formulas_of case.problem) f) h (item_formula case.problem name item at)
  leaf_formula step name (is.leaf item at h k) l = subst (λ f. Among (formulas_of case.problem) f) h (item_formula case.problem name item at)

  -- the formula of a leaf is one of the problem's
  pub leaf_in_problem : {i : ℕ} {v : Verdict} → HasVerdict case i v → IsLeafVerdict v → (step : Step) → step_in case.steps i ≡ Some step → Among (formulas_of case.problem) step.formula
  leaf_in_problem (is.over i limit h) l step at = absurd l
  leaf_in_problem (is.over_full i q r limit w may rep h) l step at = absurd l
  leaf_in_problem (is.of_leaf i found name v bounds there from h) l step at =
      let s : found ≡ step = same_some (step_in case.steps i) found step there at in
      subst (λ (x : Step). Among (formulas_of case.problem) x.formula) s (leaf_formula found name h l)
  leaf_in_problem (is.of_inference i cth esa v bounds derived h) l step at = absurd (inference_not h l)
