-- The parts of the body around the lets.
use Rattle.std.proofs.Common.{◌≡◌, ◌+◌, ◌-◌, ◌<◌, ◌≤◌, ℕ, zero, suc, List, [], ◌∷◌, map, take, length, get_or, refl, sym, ap, ◌∙◌, arith}
use Rattle.std.proofs.lemmas.List.{length-map}
use Rattle.std.specs.List.{All}
use Rattle.assemble.specs.Fitting.{eigenvariable_of, eigenvariables_of}
use Rattle.assemble.specs.Levels.{lets_at}
use Rattle.assemble.specs.Places.{last_of}
use Rattle.assemble.specs.Problem.{theory_conclusion, theory_formulas}
use Rattle.development.proofs.LetSteps.{drop_none, last_levels}
use Rattle.development.specs.Lets.{lets_from}
use Rattle.development.specs.Nest.{assumed, drinking, first_level, inner, nested}
use Rattle.development.specs.Places.{levels_in}
use Rattle.dk_syntax.specs.Lists.{Every, every_cons}
use Rattle.dk_syntax.specs.WellFormed.{IsClosed}
use Rattle.dk_syntax.specs.declared.Named.{Named}
use Rattle.dk_syntax.specs.declared.Problem.{Problem}
use Rattle.ground_instances.specs.Lists.{instances_of}
use Rattle.ground_instances.specs.Rows.{written}
use Rattle.lp_term.specs.Connectives.{proof_of}
use Rattle.lp_term.specs.LambdaPi.{Term, app, con, lam, var}
use Rattle.lp_term.specs.Names.{any_name}
use Rattle.lp_term.specs.ProofTerms.{let_term}
use Rattle.nd_term.specs.Drinkers.{negative_drinker, negative_drinker_type, positive_drinker, positive_drinker_type}
use Rattle.nd_term.specs.Eigenvariables.{Eigenvariable}
use Rattle.nd_term.specs.Places.{last_variables}
use Rattle.nd_term.specs.Translation.{sentence}
use Rattle.nd_term.specs.Views.{theory_formula}
use Rattle.plan.specs.declared.plan.Plan.{Plan}
use Rattle.plan_typing.specs.Reasons.{theory_instances}
use Rattle.tstp_trace.specs.declared.step.Trace.{Trace}

pub first_every : {A : Type 0} {p : A → Type 0} {a : A} {l : List A} → Every p (a ∷ l) → p a
first_every (every_cons h hs) = h

-- ---- hypotheses

assumed_more : (k : ℕ) (hyps : List Named) (x : Named) (u : Term) → k < length hyps → get_or hyps k x ≡ x
    → assumed (theory_formulas (take (suc k) hyps)) u ≡ assumed (theory_formulas (take k hyps)) (lam (proof_of (sentence (theory_formula x.formula))) u)
assumed_more k [] x u h e = absurd (omega arith)
assumed_more zero (y ∷ hyps) x u h e = ap (λ (z : Named). lam (proof_of (sentence (theory_formula z.formula))) u) e
assumed_more (suc k) (y ∷ hyps) x u h e = ap (lam (proof_of (sentence (theory_formula y.formula)))) (assumed_more k hyps x u (omega arith) e)

pub assumed_step : (left : ℕ) (hyps : List Named) (x : Named) (u v w : Term) → 0 < left → left ≤ length hyps → get_or hyps (left - 1) x ≡ x
    → v ≡ lam w u → w ≡ proof_of (sentence (theory_formula x.formula))
    → assumed (theory_formulas (take (left - 1) hyps)) v ≡ assumed (theory_formulas (take left hyps)) u
assumed_step left hyps x u v w p h e q r =
    let k : suc (left - 1) ≡ left = omega arith in
    ap (assumed (theory_formulas (take (left - 1) hyps))) (q ∙ ap (λ d. lam d u) r)
    ∙ sym (assumed_more (left - 1) hyps x u (omega arith) e)
    ∙ ap (λ j. assumed (theory_formulas (take j hyps)) u) k

-- ---- the last instance

pub last_some : (count : ℕ) → 0 < count → last_of (last_variables count) ≡ var 0
last_some zero h = absurd (omega arith)
last_some (suc zero) h = refl
last_some (suc (suc n)) h = last_some (suc n) (omega arith)

pub last_none : (count : ℕ) → count ≡ 0 → last_of (last_variables count) ≡ con any_name
last_none count e = ap (λ n. last_of (last_variables n)) e

module _ (problem : Problem) (trace : Trace) (plan : Plan) where
  -- inside all lets
  pub end_is : (first begin : ℕ) (t c : Term) → t ≡ app (last_of (last_variables (length plan.instances.rows))) c → c ≡ sentence (theory_conclusion problem.conjecture)
      → t ≡ lets_from problem trace plan first begin (length plan.instances.rows)
  end_is first begin t c e q =
      let count = length plan.instances.rows in
      let within : length (instances_of plan.instances) ≤ count = omega (arith, length-map plan.instances.rows (written plan.instances.table)) in
      e ∙ (λ k. app (last_of (sym (last_levels begin count (begin + count) refl) k)) (q k))
      ∙ ap (λ l. lets_at (begin + count) (levels_in (length problem.hyps) first (length plan.order) begin count) l (theory_conclusion problem.conjecture))
      (sym (drop_none problem trace plan (instances_of plan.instances) plan.thins count within))

-- ---- inside the denied conjecture

pub drinking_none : (es : List Eigenvariable) (t : Term) → length es ≡ 0 → drinking es t ≡ t
drinking_none [] t e = refl
drinking_none (o ∷ es) t e = absurd (omega arith)

pub drinking_some : (es : List Eigenvariable) (t : Term) → 0 < length es
    → drinking es t ≡ let_term positive_drinker_type positive_drinker (let_term negative_drinker_type negative_drinker t)
drinking_some [] t e = absurd (omega arith)
drinking_some (o ∷ es) t e = refl

first_is : (n first count : ℕ) (es : List Eigenvariable) → count ≡ length es → (count ≡ 0 → first ≡ n + 1) → (0 < count → first ≡ n + 3) → first ≡ first_level n es
first_is n first count [] e none some = none e
first_is n first count (o ∷ es) e none some = some (omega arith)

module _ (problem : Problem) (trace : Trace) (plan : Plan) where
  abbrev es : List Eigenvariable
  es = eigenvariables_of plan.origins.list plan.order

  pub same_length : length plan.order ≡ length es
  same_length = sym (length-map plan.order (eigenvariable_of plan.origins.list plan.order))

  pub inner_is : (denied first begin : ℕ) (c lets nest : Term) → denied ≡ length problem.hyps
      → (length plan.order ≡ 0 → first ≡ denied + 1) → (0 < length plan.order → first ≡ denied + 3)
      → begin ≡ first + (length plan.order + length plan.order)
      → c ≡ sentence (theory_conclusion problem.conjecture) → lets ≡ lets_from problem trace plan first begin 0 → nest ≡ nested denied first 0 es c lets
      → drinking es nest ≡ inner denied es (theory_instances problem trace plan) (theory_conclusion problem.conjecture)
  inner_is denied first begin c lets nest d none some b ec el en =
      let f = theory_conclusion problem.conjecture in
      let list = theory_instances problem trace plan in
      let same = same_length in
      let level : begin + 0 ≡ begin = omega arith in
      let first_same = first_is denied first (length plan.order) es same none some in
      let begin_same = b ∙ (λ k. first_same k + (same k + same k)) in
      ap (drinking es)
      (en ∙ (λ k. nested denied first 0 es (ec k) (el k))
      ∙ (λ k. nested denied first 0 es (sentence f) (lets_at (level k) (levels_in (sym d k) first (same k) begin 0) list f))
      ∙ (λ k. nested denied (first_same k) 0 es (sentence f) (lets_at (begin_same k) (levels_in denied (first_same k) (length es) (begin_same k) 0) list f)))

-- each hypothesis is closed
pub all_closed : (hyps : List Named) → Every IsClosed (map (λ named. named.formula) hyps) → All (λ (h : Named). IsClosed h.formula) hyps
all_closed [] e k d h = absurd (omega arith)
all_closed (one ∷ hyps) (every_cons c cs) zero d h = c
all_closed (one ∷ hyps) (every_cons c cs) (suc k) d h = all_closed hyps cs k d (omega arith)
