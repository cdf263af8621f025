-- Lists of symbols that all steps' formulas and maps are over: the known ones, and those that stand in any step.
use Rattle.std.proofs.Common.{◌≡◌, ℕ, zero, suc, List, [], ◌∷◌, ◌++◌, map, Some, slice_get, refl, sym, ap, ◌∙◌, subst, inl, inr}
use Rattle.std.proofs.lemmas.Option.{same_Some}
use Rattle.dk_syntax.specs.Lists.{Every}
use Rattle.dk_syntax.specs.Symbols.{formula_occurrences, joined}
use Rattle.dk_syntax.specs.declared.symbol.SymKey.{SymKey}
use Rattle.ground_instances.specs.Keys.{Has, Judged}
use Rattle.plan.proofs.Counts.{among_name, among_stands}
use Rattle.plan.proofs.Membership.{Among, among_left, among_right}
use Rattle.plan.proofs.StepMaps.{entries_of}
use Rattle.plan.specs.Laws.{AreWellFormed, judged_of}
use Rattle.plan.specs.Origins.{AreOrigins, AreOriginsFrom, AreOriginsOf}
use Rattle.plan_symbols.proofs.VerdictsOver.{AreStepsOver, every_of}
use Rattle.plan_symbols.specs.Laws.{AreKnown, StepsAreOver}
use Rattle.plan_symbols.specs.Over.{IsListed, known_symbols}
use Rattle.skolem_order.specs.declared.origins.Origin.{Origin}
use Rattle.step_check.specs.Freshness.{introduced, introduced_by}
use Rattle.step_check.specs.Steps.{Case, step_in}
use Rattle.step_check.specs.declared.verdict.Verdict.{Verdict}
use Rattle.step_check.specs.declared.verdict.Verdict.TheVariants.{Chained, Clausal, Composes, Conjecture, Leaf, Over, Structural, Wrong}
use Rattle.step_skolem.specs.declared.map.SkEntry.{SkEntry}
use Rattle.tstp_trace.specs.declared.step.Step.{Step}

-- the symbol of an entry of the step's map is introduced
put_by : (v : Verdict) (one : SkEntry) → Among (entries_of v) one → Among (introduced v) one.symbol
put_by Leaf one h = absurd h
put_by Conjecture one h = absurd h
put_by (Structural m) one h = among_name m.entries one h
put_by (Clausal steps) one h = absurd h
put_by (Chained chains) one h = absurd h
put_by (Composes composed) one h = among_name composed.map.entries one h
put_by (Wrong reason) one h = absurd h
put_by (Over limit) one h = absurd h

-- ---- the symbols of origins

abbrev symbols_of : List Origin → List SymKey
symbols_of origins = map (λ origin. origin.symbol) origins

module _ (judged : Judged) where
  of_step : (i : ℕ) (symbols : List SymKey) (here : List Origin) → AreOriginsOf judged i symbols here → (x : SymKey) → Among symbols x → Among (symbols_of here) x
  of_step i [] here h x m = absurd m
  of_step i (s ∷ symbols) [] h x m = absurd h
  of_step i (s ∷ symbols) (o ∷ here) h x (inl e) = inl (h.0.named ∙ e)
  of_step i (s ∷ symbols) (o ∷ here) h x (inr m) = inr (of_step i symbols here h.1 x m)

  joined_names : (a b : List Origin) → symbols_of (a ++ b) ≡ symbols_of a ++ symbols_of b
  joined_names [] b = refl
  joined_names (o ∷ a) b = ap (λ l. o.symbol ∷ l) (joined_names a b)

  in_origins : (before : ℕ) (vs : List Verdict) (origins : List Origin) → AreOriginsFrom judged before vs origins → (place : ℕ) (v : Verdict) → slice_get vs place ≡ Some v
      → (x : SymKey) → Among (introduced v) x → Among (symbols_of origins) x
  in_origins before [] origins h place v at x m = absurd cc
  in_origins before (w ∷ vs) origins (here, later, is, first, rest) zero v at x m =
      let there = of_step (suc before) (introduced w) here first x (subst (λ y. Among (introduced y) x) (sym (same_Some w v at)) m) in
      subst (λ l. Among l x) (sym (ap symbols_of is ∙ joined_names here later)) (among_left (symbols_of here) (symbols_of later) x there)
  in_origins before (w ∷ vs) origins (here, later, is, first, rest) (suc place) v at x m =
      subst (λ l. Among l x) (sym (ap symbols_of is ∙ joined_names here later))
      (among_right (symbols_of here) (symbols_of later) x (in_origins (suc before) vs later rest place v at x m))

-- an introduced symbol is an origin's
pub origin_listed : (case : Case) (list : List Verdict) (origins : List Origin) → AreOrigins (judged_of case list) origins → (i : ℕ) (v : Verdict) → Has (judged_of case list) i v
    → (x : SymKey) → Among (introduced v) x → IsListed (known_symbols case.problem origins) x
origin_listed case list origins os zero v has x m = absurd cc
origin_listed case list origins os (suc place) v has x m =
    among_stands (known_symbols case.problem origins) x
    (among_right case.problem.symbols (symbols_of origins) x (in_origins (judged_of case list) 0 list origins os place v has x m))

-- ---- the known symbols

pub known_over : StepsAreOver → (case : Case) (list : List Verdict) (origins : List Origin) → AreKnown case list origins → AreStepsOver case list (known_symbols case.problem origins)
known_over law case list origins known = record {
  steps = λ i step at. record { formed = known.formed i step at; listed = law case list origins known i step at };
  puts = λ i v has one m. origin_listed case list origins known.origins_are i v has one.symbol (put_by v one m);
}

-- ---- all symbols

-- those of the steps' formulas, and those that steps introduce
abbrev pub all_symbols : Case → List Verdict → List SymKey
all_symbols case list = joined (map (λ step. formula_occurrences step.formula) case.steps) ++ introduced_by list

of_formula : (steps : List Step) (place : ℕ) (step : Step) → slice_get steps place ≡ Some step → (x : SymKey) → Among (formula_occurrences step.formula) x
    → Among (joined (map (λ (one : Step). formula_occurrences one.formula) steps)) x
of_formula [] place step at x m = absurd cc
of_formula (one ∷ steps) zero step at x m =
    among_left (formula_occurrences one.formula) (joined (map (λ (s : Step). formula_occurrences s.formula) steps)) x
    (subst (λ (s : Step). Among (formula_occurrences s.formula) x) (sym (same_Some one step at)) m)
of_formula (one ∷ steps) (suc place) step at x m =
    among_right (formula_occurrences one.formula) (joined (map (λ (s : Step). formula_occurrences s.formula) steps)) x (of_formula steps place step at x m)

of_verdict : (vs : List Verdict) (place : ℕ) (v : Verdict) → slice_get vs place ≡ Some v → (x : SymKey) → Among (introduced v) x → Among (introduced_by vs) x
of_verdict [] place v at x m = absurd cc
of_verdict (w ∷ vs) zero v at x m = among_left (introduced w) (introduced_by vs) x (subst (λ y. Among (introduced y) x) (sym (same_Some w v at)) m)
of_verdict (w ∷ vs) (suc place) v at x m = among_right (introduced w) (introduced_by vs) x (of_verdict vs place v at x m)

module _ (case : Case) (list : List Verdict) where
  abbrev formulas : List SymKey
  formulas = joined (map (λ (one : Step). formula_occurrences one.formula) case.steps)

  step_listed : (i : ℕ) (step : Step) → step_in case.steps i ≡ Some step → Every (IsListed (all_symbols case list)) (formula_occurrences step.formula)
  step_listed zero step at = absurd cc
  step_listed (suc place) step at =
      every_of (IsListed (all_symbols case list)) (formula_occurrences step.formula)
      (λ x m. among_stands (all_symbols case list) x (among_left formulas (introduced_by list) x (of_formula case.steps place step at x m)))

  verdict_listed : (i : ℕ) (v : Verdict) → Has (judged_of case list) i v → (x : SymKey) → Among (introduced v) x → IsListed (all_symbols case list) x
  verdict_listed zero v has x m = absurd cc
  verdict_listed (suc place) v has x m =
      among_stands (all_symbols case list) x (among_right formulas (introduced_by list) x (of_verdict list place v has x m))

  pub all_over : AreWellFormed case.steps → AreStepsOver case list (all_symbols case list)
  all_over formed = record {
    steps = λ i step at. record { formed = formed i step at; listed = step_listed i step at };
    puts = λ i v has one m. verdict_listed i v has one.symbol (put_by v one m);
  }
