-- The symbols in the maps of origins are functions' with as many arguments.
use Rattle.std.proofs.Common.{◌≡◌, ◌<◌, ℕ, zero, suc, ◌+◌, Bool, true, false, not, List, [], ◌∷◌, ◌++◌, length, get_or, Option, Some, None, refl, sym, ap, subst, inl, inr, arith}
use Rattle.std.specs.List.{All}
use Rattle.std.specs.Prelude.{slice_index_or}
use Rattle.std.proofs.lemmas.List.Elements.{All-contains}
use Rattle.dk_syntax.specs.declared.symbol.Kind.TheVariants.{Function}
use Rattle.dk_syntax.specs.declared.symbol.SymKey.{SymKey}
use Rattle.normal_form.proofs.FormLaws.{form-True}
use Rattle.normal_form.proofs.NormalFacts.{none_is_vacuous, well_formed_stays}
use Rattle.normal_form.specs.FormFacts.{HasNoVacuous, HasWellFormedLiterals}
use Rattle.normal_form.specs.Forms.{all, alls, and, ex, exs, Form, form_of, lit, no, or, yes}
use Rattle.normal_form.specs.declared.form.Nf.{Nf}
use Rattle.plan.proofs.FitLaws.{carried_fits, fit_again, map_fits}
use Rattle.plan.proofs.Membership.{Among, among_either, contained}
use Rattle.plan.proofs.OriginLaws.{from_origin}
use Rattle.plan.proofs.StepMaps.{entries_of, sources_of, verdict_of}
use Rattle.plan.specs.Laws.{AreRightSteps, AreWellFormed, judged_of, OriginsAreFit}
use Rattle.plan.specs.Origins.{AreFit, AreOrigins, IsFitEntry}
use Rattle.skolem_order.specs.declared.origins.Origin.{Origin}
use Rattle.step_check.specs.Steps.{Case, form_of_step, is_conjecture_leaf, own_form, step_in}
use Rattle.step_check.specs.Verdicts as is
use Rattle.step_check.specs.Verdicts.{HasVerdict, IsClausalVerdict, IsFlaggedVerdict, IsInferenceVerdict, IsOtherVerdict, IsPlainVerdict}
use Rattle.step_check.specs.declared.verdict.Verdict.{Verdict}
use Rattle.step_compose.specs.Composing.{Composes, HasItsArity, symbol_by, symbols_at}
use Rattle.step_compose.specs.FullImages.{full_entries, nameless}
use Rattle.step_compose.specs.declared.composed.Composed.{Composed}
use Rattle.step_skolem.specs.declared.map.SkEntry.{SkEntry}
use Rattle.tstp_trace.specs.declared.step.Step.{Step}

-- ---- lists

each_at : {X : Type 0} (P : X → Type 0) (xs : List X) → ((x : X) → Among xs x → P x) → (k : ℕ) (d : X) → k < length xs → P (slice_index_or xs k d)
each_at P [] h k d below = absurd (omega (arith, below))
each_at P (x ∷ xs) h zero d below = h x (inl refl)
each_at P (x ∷ xs) h (suc k) d below = each_at P xs (λ y m. h y (inr m)) k d (omega (arith, below))

each_of : {X : Type 0} (P : X → Type 0) (xs : List X) → ((x : X) → Among xs x → P x) → All P xs
each_of P xs h = each_at P xs h

-- ---- composed steps

kind_at : (l : List SymKey) → ((s : SymKey) → Among l s → s.kind ≡ Function) → (k : ℕ) → (get_or l k nameless).kind ≡ Function
kind_at [] h k = refl
kind_at (s ∷ l) h zero = h s (inl refl)
kind_at (s ∷ l) h (suc k) = kind_at l (λ x m. h x (inr m)) k

kinds_at : (aliens : List SymKey) (places : List ℕ) → ((s : SymKey) → Among aliens s → s.kind ≡ Function) → (s : SymKey) → Among (symbols_at aliens places) s → s.kind ≡ Function
kinds_at aliens [] h s m = absurd m
kinds_at aliens (p ∷ places) h s (inl e) = subst (λ x. x.kind ≡ Function) e (kind_at aliens h p)
kinds_at aliens (p ∷ places) h s (inr m) = kinds_at aliens places h s m

kind_of : (symbols : ℕ → SymKey) → ((e : ℕ) → (symbols e).kind ≡ Function) → (around : List ℕ) (u e : ℕ) (n : Form) (one : SkEntry) → Among (full_entries symbols around u e n) one → one.symbol.kind ≡ Function
kind_of symbols h around u e yes one m = absurd m
kind_of symbols h around u e no one m = absurd m
kind_of symbols h around u e (lit literal) one m = absurd m
kind_of symbols h around u e (and a b) one m = elim (among_either (full_entries symbols around u e a) (full_entries symbols around (alls a + u) (exs a + e) b) one m) [
  | inl l ↦ kind_of symbols h around u e a one l
  | inr r ↦ kind_of symbols h around (alls a + u) (exs a + e) b one r
]
kind_of symbols h around u e (or a b) one m = elim (among_either (full_entries symbols around u e a) (full_entries symbols around (alls a + u) (exs a + e) b) one m) [
  | inl l ↦ kind_of symbols h around u e a one l
  | inr r ↦ kind_of symbols h around (alls a + u) (exs a + e) b one r
]
kind_of symbols h around u e (all a) one m = kind_of symbols h (around ++ u ∷ []) (suc u) e a one m
kind_of symbols h around u e (ex a) one (inl k) = subst (λ (x : SkEntry). x.symbol.kind ≡ Function) k (h e)
kind_of symbols h around u e (ex a) one (inr k) = kind_of symbols h around u (suc e) a one k

composed_fits : (n : Nf) (aliens : List SymKey) (targets : _) (places : List ℕ) (composed : Composed) → Composes n aliens targets places composed → (one : SkEntry) → Among composed.map.entries one → IsFitEntry one
composed_fits n aliens targets places composed c one m =
    let functions : (s : SymKey) → Among aliens s → s.kind ≡ Function = λ s h. All-contains (λ (x : SymKey). x.kind ≡ Function) aliens s c.functions (contained aliens s h) in
    let symbols : (e : ℕ) → (symbol_by aliens places e).kind ≡ Function = λ e. kind_at (symbols_at aliens places) (kinds_at aliens places functions) e in
    record {
      kind = kind_of (symbol_by aliens places) symbols [] 0 0 (form_of n) one (subst (λ l. Among l one) c.map_is m);
      arity = All-contains HasItsArity composed.map.entries one c.arities (contained composed.map.entries one m);
    }

-- ---- steps

module _ (case : Case) (formed : AreWellFormed case.steps) where
  no_vacuous_by : (step : Option Step) → HasNoVacuous (form_of (form_of_step case.problem step))
  no_vacuous_by None = subst HasNoVacuous (sym form-True) tt
  no_vacuous_by (Some step) = none_is_vacuous step.formula (not (is_conjecture_leaf case.problem step.source))

  formed_by : (i : ℕ) (step : Option Step) → step_in case.steps i ≡ step → HasWellFormedLiterals (form_of (form_of_step case.problem step))
  formed_by i None h = subst HasWellFormedLiterals (sym form-True) tt
  formed_by i (Some step) h = well_formed_stays step.formula (not (is_conjecture_leaf case.problem step.source)) (formed i step h)

  clausal_fits : {lists : _} {rows : _} {v : Verdict} → IsClausalVerdict lists rows v → (one : SkEntry) → Among (entries_of v) one → IsFitEntry one
  clausal_fits (is.clausal steps n h) one m = absurd m
  clausal_fits (is.chained chains n h) one m = absurd m
  clausal_fits (is.unjustified number h) one m = absurd m

  plain_fits : {i : ℕ} {v : Verdict} → IsPlainVerdict case i v → (one : SkEntry) → Among (entries_of v) one → IsFitEntry one
  plain_fits (is.has_exists h) one m = absurd m
  plain_fits (is.alien symbol h k) one m = absurd m
  plain_fits (is.by_clauses lists v h k l c) one m = clausal_fits c one m

  flagged_fits : {i : ℕ} {v : Verdict} → IsFlaggedVerdict case i v → (one : SkEntry) → Among (entries_of v) one → IsFitEntry one
  flagged_fits (is.composes q r c may rep least) one m = composed_fits _ _ _ least.0 c least.1 one m
  flagged_fits (is.composes_not q r may rep none) one m = absurd m
  flagged_fits (is.in_no_question h) one m = absurd m

  other_fits : (i : ℕ) (cth esa : Bool) (v : Verdict) → IsOtherVerdict case i cth esa v → (one : SkEntry) → Among (entries_of v) one → IsFitEntry one
  other_fits i false false v h one m = plain_fits h one m
  other_fits i true esa v h one m = flagged_fits h one m
  other_fits i false true v h one m = flagged_fits h one m

  inference_fits : {i : ℕ} {cth esa : Bool} {v : Verdict} → IsInferenceVerdict case i cth esa v → (one : SkEntry) → Among (entries_of v) one → IsFitEntry one
  inference_fits (is.conjecture_parent c h) one m = absurd m
  inference_fits (is.not_conjecture c h) one m = absurd m
  inference_fits (is.same q fit single like) one m = absurd m
  inference_fits {i} (is.skolem q r entries fit single e like rep) one m =
      carried_fits (own_form case q) r entries
      (map_fits (own_form case q) (own_form case i) entries (no_vacuous_by (step_in case.steps q)) (formed_by i (step_in case.steps i) refl) like.1) one m
  inference_fits {i} {cth} {esa} (is.other v fit nor o) one m = other_fits i cth esa v o one m

  leaf_fits : {step : Step} {name : List ℕ} {v : Verdict} → is.IsLeafVerdict case step name v → (one : SkEntry) → Among (entries_of v) one → IsFitEntry one
  leaf_fits (is.unknown h) one m = absurd m
  leaf_fits (is.altered item at h) one m = absurd m
  leaf_fits (is.conjecture item at h k) one m = absurd m
  leaf_fits (is.leaf item at h k) one m = absurd m

  -- the entries of a step's own map are fit
  pub own_fits : {i : ℕ} {v : Verdict} → HasVerdict case i v → (one : SkEntry) → Among (entries_of v) one → IsFitEntry one
  own_fits (is.over i limit h) one m = absurd m
  own_fits (is.over_full i q r limit w may rep h) one m = absurd m
  own_fits (is.of_leaf i found name v bounds there from h) one m = leaf_fits h one m
  own_fits (is.of_inference i cth esa v bounds derived h) one m = inference_fits h one m

  module _ (list : List Verdict) (s : AreRightSteps case list) (origins : List Origin) (os : AreOrigins (judged_of case list) origins) where
    entry_fits : (o : Origin) → Among origins o → (one : SkEntry) → Among o.map.entries one → IsFitEntry one
    entry_fits o m one h =
        let r = from_origin (judged_of case list) 0 list origins os o m in
        let sources = sources_of case list s.are s.right s.acyclic r.origin.maps in
        let t = (sources.each one h).2 in
        let fit = own_fits (verdict_of case list s.are s.right s.acyclic (sources.each one h).0 t.verdict t.has) t.like.0 t.like.1 in
        fit_again t.like.0 one (sym t.like.2) (ap length (sym t.like.3)) fit

    pub all_fit : AreFit origins
    all_fit = each_of (λ (o : Origin). All IsFitEntry o.map.entries) origins (λ o m. each_of IsFitEntry o.map.entries (entry_fits o m))

pub origins_are_fit : OriginsAreFit
origins_are_fit case list s formed origins os = all_fit case formed list s origins os
