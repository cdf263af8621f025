-- The lets of instances, by levels.
use Rattle.std.proofs.Common.{◌≡◌, ◌+◌, ◌-◌, ◌<◌, ◌≤◌, ℕ, zero, suc, List, [], ◌∷◌, ◌++◌, map, drop, length, get_or, Option, None, Some, refl, sym, ap, ap₂, ◌∙◌, arith, append-nil, append_assoc}
use Rattle.std.specs.Prelude.{slice_get}
use Rattle.std.proofs.lemmas.List.{length-map}
use Rattle.std.proofs.lemmas.Option.{slice_get_past}
use Rattle.assemble.specs.Justification.{Instance as TheoryInstance}
use Rattle.assemble.specs.Problem.{theory_conclusion}
use Rattle.dk_syntax.specs.declared.Problem.{Problem}
use Rattle.expansion.specs.declared.thin.Thin.{Thin}
use Rattle.ground_instances.specs.Lists.{instances_of}
use Rattle.ground_instances.specs.Rows.{written}
use Rattle.ground_instances.specs.declared.instance.Instance.{Instance}
use Rattle.ground_instances.specs.declared.instance.Instances.{Instances}
use Rattle.plan.specs.declared.plan.Plan.{Plan}
use Rattle.plan_typing.specs.Reasons.{theory_instance, theory_instances, theory_instances_of}
use Rattle.tstp_trace.specs.declared.step.Trace.{Trace}
use Rattle.std.specs.List.{range_with_len}
use Rattle.dk_syntax.specs.Lists.{Every, every_cons, every_nil}
use Rattle.assemble.proofs.LevelLaws.{place_at_deeper}
use Rattle.assemble.specs.Body.{reason_proof}
use Rattle.assemble.specs.Justification.{Reason}
use Rattle.assemble.specs.Levels.{Inside, Levels, abstractions_at, at_level, lets_at, place_at}
use Rattle.development.specs.Clauses.{abstracted, typed}
use Rattle.development.specs.Lets.{let_built, lets_from}
use Rattle.development.specs.Places.{levels_in}
use Rattle.lp_term.specs.Connectives.{bot, proof_of}
use Rattle.lp_term.specs.LambdaPi.{lam, pi, var}
use Rattle.nd_term.proofs.InstanceTypes.{clause_shift}
use Rattle.nd_term.specs.Formulas.{Literal}
use Rattle.nd_term.specs.Instances.{clause_type}
use Rattle.nd_term.specs.Places.{last_variables}
use Rattle.nd_term.specs.Translation.{literal_type}

-- ---- consecutive levels

pub range_end : (b k : ℕ) → range_with_len b k ++ (b + k) ∷ [] ≡ range_with_len b (suc k)
range_end b zero = let e : b + 0 ≡ b = omega arith in ap (λ l. l ∷ []) e
range_end b (suc k) = let e : b + suc k ≡ b + 1 + k = omega arith in ap (λ l. b ∷ range_with_len (b + 1) k ++ l ∷ []) e ∙ ap (λ ls. b ∷ ls) (range_end (b + 1) k)

pub range_below : (n b k : ℕ) → b + k ≤ n → Every (λ l. l < n) (range_with_len b k)
range_below n b zero h = every_nil
range_below n b (suc k) h = every_cons (omega arith) (range_below n (b + 1) k (omega arith))

pub last_levels : (n m level : ℕ) → level ≡ n + m → map (at_level level) (range_with_len n m) ≡ last_variables m
last_levels n zero level e = refl
last_levels n (suc m) level e =
    let here : level - suc n ≡ m = omega arith in ap₂ (λ k ts. var k ∷ ts) here (last_levels (n + 1) m level (omega arith))

up_one : {n : ℕ} {ls : List ℕ} → Every (λ l. l < n) ls → Every (λ l. l < suc n) ls
up_one every_nil = every_nil
up_one (every_cons h hs) = every_cons (omega arith) (up_one hs)

pub inside_up : {n : ℕ} {p : Levels} → Inside n p → Inside (suc n) p
inside_up {n = n} {p = p} h =
    let denied : p.denied < suc n = omega (arith, h.denied) in
    let eigens : p.first + (p.count + p.count) ≤ suc n = omega (arith, h.eigens) in
    record { hypotheses = up_one h.hypotheses; denied = denied; eigens = eigens; done = up_one h.done }

-- what is bound is bound before the next instance
pub levels_inside : (denied first count begin done : ℕ) → denied < begin → first + (count + count) ≤ begin → Inside (begin + done) (levels_in denied first count begin done)
levels_inside denied first count begin done h i =
    let below : denied < begin + done = omega arith in
    let eigens : first + (count + count) ≤ begin + done = omega arith in
    record { hypotheses = range_below (begin + done) 0 denied (omega arith); denied = below; eigens = eigens; done = range_below (begin + done) begin done (omega arith) }

-- ---- an instance

-- the type of a clause
pub typed_is : {n : ℕ} {p : Levels} (d : List Literal) → Inside n p → typed n p.first p.count d (proof_of bot) ≡ clause_type (place_at n p).eigenvariables d
typed_is [] h = refl
typed_is {n = n} {p = p} (l ∷ d) h =
    ap (pi (literal_type (place_at n p).eigenvariables l))
    (typed_is d (inside_up h) ∙ ap (λ v. clause_type v.eigenvariables d) (sym (place_at_deeper h)) ∙ sym (clause_shift (place_at n p).eigenvariables d))

-- the abstractions over literals
pub abstractions_are : (d : List Literal) (n : ℕ) (p : Levels) (ls : List ℕ) (r : Reason) (level : ℕ) → level ≡ n + length d
    → abstractions_at d n p ls r ≡ abstracted n p.first p.count d (reason_proof (place_at level p) (map (at_level level) (ls ++ range_with_len n (length d))) r)
abstractions_are [] n p ls r level e =
    let here : n ≡ level = omega arith in ap₂ (λ m l. reason_proof (place_at m p) (map (at_level m) l) r) here (sym (append-nil ls))
abstractions_are (l ∷ d) n p ls r level e =
    let next : suc n ≡ n + 1 = omega arith in
    let more : (ls ++ n ∷ []) ++ range_with_len (suc n) (length d) ≡ ls ++ n ∷ range_with_len (n + 1) (length d) =
    append_assoc ls (n ∷ []) (range_with_len (suc n) (length d)) ∙ ap (λ j. ls ++ n ∷ range_with_len j (length d)) next in
    ap (lam (literal_type (place_at n p).eigenvariables l))
    (abstractions_are d (suc n) p (ls ++ n ∷ []) r level (omega arith)
    ∙ ap (λ x. abstracted (suc n) p.first p.count d (reason_proof (place_at level p) (map (at_level level) x) r)) more)

-- so the proof below the literals is at the variables bound last
pub abstracted_is : (d : List Literal) (n : ℕ) (p : Levels) (r : Reason) → abstracted n p.first p.count d (reason_proof (place_at (n + length d) p) (last_variables (length d)) r) ≡ abstractions_at d n p [] r
abstracted_is d n p r =
    ap (λ lv. abstracted n p.first p.count d (reason_proof (place_at (n + length d) p) lv r)) (sym (last_levels n (length d) (n + length d) refl))
    ∙ sym (abstractions_are d n p [] r (n + length d) refl)

-- ---- the instances from a number on

element_at : {A : Type 0} (l : List A) (k : ℕ) → k < length l → (a : A) × (slice_get l k ≡ Some a)
element_at [] k h = absurd (omega arith)
element_at (a ∷ l) zero h = (a, refl)
element_at (a ∷ l) (suc k) h = element_at l k (omega arith)

-- a list has one element at a number
pub some_same : {A : Type 0} {o : Option A} {a b : A} → o ≡ Some a → o ≡ Some b → a ≡ b
some_same p q = cc

-- the instance of a number
pub instance_there : (list : Instances) (k : ℕ) → k < length list.rows → (it : Instance) × (slice_get (instances_of list) k ≡ Some it)
instance_there list k h = let within : k < length (instances_of list) = rw (length-map list.rows (written list.table)) h in element_at (instances_of list) k within

module _ (problem : Problem) (trace : Trace) (plan : Plan) where
  pub drop_at : (instances : List Instance) (thins : List (Option Thin)) (k : ℕ) (it : Instance) → slice_get instances k ≡ Some it
      → drop k (theory_instances_of problem trace plan instances thins)
      ≡ theory_instance problem trace plan it (get_or thins k None) ∷ drop (suc k) (theory_instances_of problem trace plan instances thins)
  drop_at [] thins k it h = absurd (let e : slice_get {X = Instance} [] k ≡ None = slice_get_past [] k (omega arith) in cc)
  drop_at (one ∷ rest) [] zero it h = let e : one ≡ it = cc in ap (λ x. theory_instance problem trace plan x None ∷ theory_instances_of problem trace plan rest []) e
  drop_at (one ∷ rest) [] (suc k) it h = drop_at rest [] k it h
  drop_at (one ∷ rest) (thin ∷ thins) zero it h = let e : one ≡ it = cc in ap (λ x. theory_instance problem trace plan x thin ∷ theory_instances_of problem trace plan rest thins) e
  drop_at (one ∷ rest) (thin ∷ thins) (suc k) it h = drop_at rest thins k it h

  pub drop_none : (instances : List Instance) (thins : List (Option Thin)) (k : ℕ) → length instances ≤ k → drop k (theory_instances_of problem trace plan instances thins) ≡ []
  drop_none [] thins k h = drop_empty k
    where
      drop_empty : (k : ℕ) → drop {A = TheoryInstance} k [] ≡ []
      drop_empty zero = refl
      drop_empty (suc k) = refl
  drop_none (one ∷ rest) thins zero h = absurd (omega arith)
  drop_none (one ∷ rest) [] (suc k) h = drop_none rest [] k (omega arith)
  drop_none (one ∷ rest) (thin ∷ thins) (suc k) h = drop_none rest thins k (omega arith)

  pub lets_step : (first begin number : ℕ) (it : Instance) → slice_get (instances_of plan.instances) number ≡ Some it
      → lets_from problem trace plan first begin number ≡ let_built problem trace plan first begin number it (lets_from problem trace plan first begin (suc number))
  lets_step first begin number it h =
      let next : suc (begin + number) ≡ begin + suc number = omega arith in
      ap (λ l. lets_at (begin + number) (levels_in (length problem.hyps) first (length plan.order) begin number) l (theory_conclusion problem.conjecture))
      (drop_at (instances_of plan.instances) plan.thins number it h)
      ∙ ap (let_built problem trace plan first begin number it)
      (ap₂ (λ n ls. lets_at n (record { hypotheses = range_with_len 0 (length problem.hyps); denied = length problem.hyps; first = first; count = length plan.order; done = ls })
      (drop (suc number) (theory_instances problem trace plan)) (theory_conclusion problem.conjecture)) next (range_end begin number))
