-- The symbols of a step that isn't bad: they are the problem's, stand in a parent's formula, or are introduced by the step.
use Rattle.std.proofs.Common.{◌≡◌, ℕ, Bool, true, false, not, List, [], ◌∷◌, ◌++◌, map, cond, find, Option, Some, None, refl, sym, ap, ◌∙◌, subst}
use Rattle.std.specs.Prelude.{option_to_list}
use Rattle.std.proofs.lemmas.Option.{same_Some}
use Rattle.dk_syntax.specs.Lists.{Every, every_cons, every_nil}
use Rattle.dk_syntax.specs.Problems.{formula_of, formulas_of, HasItsSymbols}
use Rattle.dk_syntax.specs.Symbols.{formula_occurrences, joined}
use Rattle.dk_syntax.specs.declared.Named.{Named}
use Rattle.dk_syntax.specs.declared.formula.Formula.{Formula}
use Rattle.dk_syntax.specs.declared.symbol.SymKey.{SymKey}
use Rattle.normal_form.proofs.FormLaws.{form-True}
use Rattle.normal_form.proofs.Regroups.{sorting_is_exact}
use Rattle.normal_form.specs.ClauseLists.{clause_rows}
use Rattle.normal_form.specs.Forms.{form_of}
use Rattle.plan_symbols.proofs.ComposedSymbols.{new_symbols}
use Rattle.plan_symbols.proofs.EveryLaws.{every_head}
use Rattle.plan_symbols.proofs.FormSymbols.{form_occurrences, from_normal, to_normal}
use Rattle.plan_symbols.proofs.ImageSymbols.{EntriesHave, from_carried, image_symbols, regrouped_has}
use Rattle.plan_symbols.proofs.SymbolLists.{before_added, in_joined, left_or_there, of_joined, once_added}
use Rattle.step_check.specs.Freshness.{introduced, is_bad}
use Rattle.step_check.specs.Representatives.{HasOneParent, IsSame}
use Rattle.step_check.specs.Steps.{aliens_of, Case, form_of_step, is_conjecture_leaf, item_named, own_form, parent_symbols, parents_of, step_in, symbols_of_step}
use Rattle.step_check.specs.Verdicts as is
use Rattle.step_check.specs.Verdicts.{HasVerdict, IsClausalVerdict, IsFlaggedVerdict, IsInferenceVerdict, IsLeafVerdict, IsOtherVerdict, IsPlainVerdict}
use Rattle.step_check.specs.declared.verdict.Verdict.{Verdict}
use Rattle.step_skolem.specs.declared.map.SkEntry.{SkEntry}
use Rattle.tstp_trace.specs.declared.step.Step.{Step}

-- ---- lists

found_has : {X : Type 0} (P : X → Type 0) (test : X → Bool) (l : List X) (x : X) → find test l ≡ Some x → Every P l → P x
found_has P test [] x h w = absurd cc
found_has P test (y ∷ l) x h (every_cons w ws) = by_test (test y) h (λ k. found_has P test l x k ws)
  where
    by_test : (b : Bool) → cond b (Some y) (find test l) ≡ Some x → (find test l ≡ Some x → P x) → P x
    by_test true k more = subst P (same_Some y x k) w
    by_test false k more = more k

named_have : (P : Formula → Type 0) (hyps : List Named) (last : Option Named) → Every P (map (λ (named : Named). named.formula) hyps ++ formula_of last)
    → Every (λ (named : Named). P named.formula) (hyps ++ option_to_list last)
named_have P [] None h = every_nil
named_have P [] (Some named) (every_cons w ws) = every_cons w every_nil
named_have P (named ∷ hyps) last (every_cons w ws) = every_cons w (named_have P hyps last ws)

entries_have : (K : SymKey → Type 0) (entries : List SkEntry) → Every K (map (λ (one : SkEntry). one.symbol) entries) → EntriesHave K entries
entries_have K [] h = every_nil
entries_have K (one ∷ entries) (every_cons w ws) = every_cons w (entries_have K entries ws)

-- ---- formulas of steps

module _ (case : Case) (K : SymKey → Type 0) where
  abbrev FormulaHas : Formula → Type 0
  FormulaHas f = Every K (formula_occurrences f)

  -- each symbol of the step's formula, if there is such a step, has the property
  abbrev pub StepHas : ℕ → Type 0
  StepHas i = (step : Step) → step_in case.steps i ≡ Some step → Every K (formula_occurrences step.formula)

  form_has : (one : Option Step) → ((step : Step) → one ≡ Some step → FormulaHas step.formula) → Every K (form_occurrences (form_of (form_of_step case.problem one)))
  form_has None h = subst (Every K) (sym (ap form_occurrences form-True)) every_nil
  form_has (Some step) h = to_normal K step.formula (not (is_conjecture_leaf case.problem step.source)) (h step refl)

  formula_has : (one : Option Step) (step : Step) → one ≡ Some step → Every K (form_occurrences (form_of (form_of_step case.problem one))) → FormulaHas step.formula
  formula_has None step e h = absurd cc
  formula_has (Some other) step e h =
      subst (λ (x : Step). FormulaHas x.formula) (same_Some other step e) (from_normal K other.formula (not (is_conjecture_leaf case.problem other.source)) h)

  -- a step has what its own form has
  from_own : (i : ℕ) → Every K (form_occurrences (form_of (own_form case i))) → StepHas i
  from_own i h step e = formula_has (step_in case.steps i) step e h

  to_own : (i : ℕ) → StepHas i → Every K (form_occurrences (form_of (own_form case i)))
  to_own i h = form_has (step_in case.steps i) h

  symbols_have : (one : Option Step) → ((step : Step) → one ≡ Some step → FormulaHas step.formula) → Every K (symbols_of_step one)
  symbols_have None h = every_nil
  symbols_have (Some step) h = once_added K (formula_occurrences step.formula) (h step refl)

  from_symbols : (one : Option Step) (step : Step) → one ≡ Some step → Every K (symbols_of_step one) → FormulaHas step.formula
  from_symbols None step e h = absurd cc
  from_symbols (Some other) step e h = subst (λ (x : Step). FormulaHas x.formula) (same_Some other step e) (before_added K (formula_occurrences other.formula) h)

  parents_have : (parents : List ℕ) → Every StepHas parents → Every K (joined (map (λ q. symbols_of_step (step_in case.steps q)) parents))
  parents_have [] h = every_nil
  parents_have parents h = in_joined K (λ q. symbols_of_step (step_in case.steps q)) parents (each parents h)
    where
      each : (parents : List ℕ) → Every StepHas parents → Every (λ q. Every K (symbols_of_step (step_in case.steps q))) parents
      each [] h = every_nil
      each (q ∷ parents) (every_cons w ws) = every_cons (symbols_have (step_in case.steps q) w) (each parents ws)

  -- where the symbols that no parent's formula has have the property, so have all
  from_aliens : (i : ℕ) → Every StepHas (parents_of case i) → Every K (aliens_of case i) → StepHas i
  from_aliens i h k step e =
      from_symbols (step_in case.steps i) step e (left_or_there K (parent_symbols case i) (symbols_of_step (step_in case.steps i)) (parents_have (parents_of case i) h) k)

  one_parent : (i q : ℕ) → HasOneParent case i q → Every StepHas (parents_of case i) → StepHas q
  one_parent i q one h = every_head (subst (Every StepHas) one h)

  from_same : (i q : ℕ) → IsSame case i q → StepHas q → StepHas i
  from_same i q same h = from_own i (regrouped_has K ((sorting_is_exact (own_form case q) (own_form case i)).0 (sym same)) (to_own q h))

  -- ---- verdicts

  module _ (own : HasItsSymbols case.problem) (known : Every K case.problem.symbols) where
    problem_has : Every FormulaHas (formulas_of case.problem)
    problem_has =
        of_joined K formula_occurrences (formulas_of case.problem) (before_added K (joined (map formula_occurrences (formulas_of case.problem))) (subst (Every K) own known))

    item_has : (name : List ℕ) (item : Named) → item_named case.problem name ≡ Some item → FormulaHas item.formula
    item_has name item h =
        found_has (λ (named : Named). FormulaHas named.formula) _ (case.problem.hyps ++ option_to_list case.problem.conjecture) item h
        (named_have FormulaHas case.problem.hyps case.problem.conjecture problem_has)

    from_leaf : {step : Step} {name : List ℕ} {v : Verdict} → IsLeafVerdict case step name v → is_bad v ≡ false → FormulaHas step.formula
    from_leaf (is.unknown h) good = absurd cc
    from_leaf (is.altered item at h) good = absurd cc
    from_leaf {name = name} (is.conjecture item at h k) good = subst FormulaHas h (item_has name item at)
    from_leaf {name = name} (is.leaf item at h k) good = subst FormulaHas h (item_has name item at)

    module _ (i : ℕ) (parents : Every StepHas (parents_of case i)) where
      no_aliens : aliens_of case i ≡ [] → StepHas i
      no_aliens e = from_aliens i parents (subst (Every K) (sym e) every_nil)

      from_plain : {v : Verdict} → IsPlainVerdict case i v → is_bad v ≡ false → StepHas i
      from_plain (is.has_exists h) good = absurd cc
      from_plain (is.alien symbol h k) good = absurd cc
      from_plain (is.by_clauses lists v h k l c) good = no_aliens k

      from_flagged : {v : Verdict} → IsFlaggedVerdict case i v → is_bad v ≡ false → Every K (introduced v) → StepHas i
      from_flagged (is.composes q r c may rep least) good w =
          from_aliens i parents (new_symbols K r (aliens_of case i) (clause_rows (own_form case i)) least.0 c least.1 (entries_have K c.map.entries w))
      from_flagged (is.composes_not q r may rep none) good w = absurd cc
      from_flagged (is.in_no_question h) good w = absurd cc

      from_other : (cth esa : Bool) (v : Verdict) → IsOtherVerdict case i cth esa v → is_bad v ≡ false → Every K (introduced v) → StepHas i
      from_other false false v h good w = from_plain h good
      from_other true esa v h good w = from_flagged h good w
      from_other false true v h good w = from_flagged h good w

      from_inference : {cth esa : Bool} {v : Verdict} → IsInferenceVerdict case i cth esa v → is_bad v ≡ false → Every K (introduced v) → StepHas i
      from_inference (is.conjecture_parent c h) good w = absurd cc
      from_inference (is.not_conjecture c h) good w = absurd cc
      from_inference (is.same q fit one same) good w = from_same i q same (one_parent i q one parents)
      from_inference (is.skolem q r entries fit one e like rep) good w =
          from_own i
          (image_symbols K (own_form case q) (own_form case i) entries like.1
          (from_carried K (own_form case q) r entries (entries_have K _ w)) (to_own q (one_parent i q one parents)))
      from_inference {cth} {esa} (is.other v fit nor o) good w = from_other cth esa v o good w

    -- a step's symbols have what the problem's, the parents' and the introduced ones have
    pub from_verdict : {i : ℕ} {v : Verdict} → HasVerdict case i v → is_bad v ≡ false → Every K (introduced v) → Every StepHas (parents_of case i) → StepHas i
    from_verdict (is.over i limit h) good w parents = absurd cc
    from_verdict (is.over_full i q r limit h may rep full) good w parents = absurd cc
    from_verdict (is.of_leaf i found name v bounds there from h) good w parents =
        λ step e. subst (λ (x : Step). FormulaHas x.formula) (same_Some found step (sym there ∙ e)) (from_leaf h good)
    from_verdict (is.of_inference i cth esa v bounds derived h) good w parents = from_inference i parents h good w
