-- Each symbol of a step's formula is the problem's or a Skolem symbol.
use Rattle.std.proofs.Common.{◌≡◌, ℕ, zero, suc, Bool, true, false, List, [], ◌∷◌, ◌++◌, length, map, Some, slice_get, refl, ap, ap₂, ◌∙◌, subst, arith}
use Rattle.std.proofs.lemmas.Option.{same_Some}
use Rattle.derivation_graph.specs.Graphs.{parents_in}
use Rattle.dk_syntax.specs.Lists.{Every, every_cons}
use Rattle.dk_syntax.specs.declared.symbol.SymKey.{SymKey}
use Rattle.ground_instances.specs.Keys.{Judged}
use Rattle.plan.proofs.StepMaps.{verdict_of}
use Rattle.plan.specs.Laws.{judged_of}
use Rattle.plan.specs.Origins.{AreOriginsFrom, AreOriginsOf}
use Rattle.plan_symbols.proofs.StepRanks.{by_parents}
use Rattle.plan_symbols.proofs.StepSymbols.{from_verdict, StepHas}
use Rattle.plan_symbols.proofs.SymbolLists.{listed_back, listed_front, of_joined}
use Rattle.plan_symbols.specs.Laws.{AreKnown, StepsAreOver}
use Rattle.plan_symbols.specs.Over.{IsListed, known_symbols}
use Rattle.skolem_order.specs.declared.origins.Origin.{Origin}
use Rattle.step_check.specs.Freshness.{freshened, introduced, introduced_by, is_bad}
use Rattle.step_check.specs.Steps.{Case}
use Rattle.step_check.specs.declared.verdict.Verdict.{Verdict}
use Rattle.tstp_trace.specs.declared.step.Step.{Step}

-- ---- the symbols of the origins are the introduced ones

abbrev symbols_of : List Origin → List SymKey
symbols_of origins = map (λ (origin : Origin). origin.symbol) origins

names_step : (judged : Judged) (i : ℕ) (symbols : List SymKey) (here : List Origin) → AreOriginsOf judged i symbols here → symbols_of here ≡ symbols
names_step judged i [] [] h = refl
names_step judged i [] (o ∷ here) h = absurd h
names_step judged i (s ∷ symbols) [] h = absurd h
names_step judged i (s ∷ symbols) (o ∷ here) h = ap₂ (λ a b. a ∷ b) h.0.named (names_step judged i symbols here h.1)

names_joined : (a b : List Origin) → symbols_of (a ++ b) ≡ symbols_of a ++ symbols_of b
names_joined [] b = refl
names_joined (o ∷ a) b = ap (λ l. o.symbol ∷ l) (names_joined a b)

pub names_from : (judged : Judged) (before : ℕ) (vs : List Verdict) (origins : List Origin) → AreOriginsFrom judged before vs origins → symbols_of origins ≡ introduced_by vs
names_from judged before [] origins h = ap symbols_of h
names_from judged before (v ∷ vs) origins (here, later, is, first, rest) =
    ap symbols_of is ∙ names_joined here later ∙ ap₂ (λ a b. a ++ b) (names_step judged (suc before) (introduced v) here first) (names_from judged (suc before) vs later rest)

-- ---- each step has its verdict

long : (known : List SymKey) (vs : List Verdict) → length (freshened known vs) ≡ length vs
long known [] = refl
long known (v ∷ vs) = ap suc (long (known ++ introduced v) vs)

verdict_at : (list : List Verdict) (steps : List Step) → length list ≡ length steps → (place : ℕ) (step : Step) → slice_get steps place ≡ Some step → (v : Verdict) × (slice_get list place ≡ Some v)
verdict_at list [] e place step h = absurd cc
verdict_at [] (s ∷ steps) e place step h = absurd (omega (arith, e))
verdict_at (v ∷ list) (s ∷ steps) e zero step h = (v, refl)
verdict_at (v ∷ list) (s ∷ steps) e (suc place) step h = verdict_at list steps (omega (arith, e)) place step h

every_slice : {X : Type 0} (P : X → Type 0) (l : List X) (place : ℕ) (x : X) → slice_get l place ≡ Some x → Every P l → P x
every_slice P [] place x e h = absurd cc
every_slice P (y ∷ l) zero x e (every_cons w ws) = subst P (same_Some y x e) w
every_slice P (y ∷ l) (suc place) x e (every_cons w ws) = every_slice P l place x e ws

-- ---- a right trace

module _ (case : Case) (list : List Verdict) (origins : List Origin) (known : AreKnown case list origins) where
  -- the symbol is the problem's or a Skolem symbol
  abbrev IsKnown : SymKey → Type 0
  IsKnown = IsListed (known_symbols case.problem origins)

  -- each symbol that a step introduces is listed
  introduced_known : Every (λ v. Every IsKnown (introduced v)) list
  introduced_known =
      of_joined IsKnown introduced list
      (subst (Every IsKnown) (names_from (judged_of case list) 0 list origins known.origins_are) (listed_back case.problem.symbols (symbols_of origins)))

  same_long : length list ≡ length case.steps
  same_long = ap length known.right.are.2 ∙ long case.problem.symbols known.right.are.0 ∙ known.right.are.1.long

  good : (place : ℕ) (v : Verdict) → slice_get list place ≡ Some v → is_bad v ≡ false
  good place v h = by_test (is_bad v) refl
    where
      by_test : (b : Bool) → is_bad v ≡ b → is_bad v ≡ false
      by_test true k = absurd (known.right.right place (v, h, k))
      by_test false k = k

  next : (i : ℕ) → Every (StepHas case IsKnown) (parents_in case.rows i) → StepHas case IsKnown i
  next zero parents step e = absurd cc
  next (suc place) parents step e =
      let found = verdict_at list case.steps same_long place step e in
      from_verdict case IsKnown known.symbols (listed_front case.problem.symbols (symbols_of origins))
      (verdict_of case list known.right.are known.right.right known.right.acyclic (suc place) found.0 found.1) (good place found.0 found.1)
      (every_slice (λ v. Every IsKnown (introduced v)) list place found.0 found.1 introduced_known) parents step e

  each_step : (i : ℕ) → StepHas case IsKnown i
  each_step i = by_parents case.rows known.right.acyclic (StepHas case IsKnown) next i

pub steps_over : StepsAreOver
steps_over case list origins known i step e = each_step case list origins known i step e
