-- The tests of an entry hold just where its conditions do.
use Rattle.std.proofs.Common.{◌≡◌, ◌<◌, ◌+◌, ◌-◌, ℕ, zero, suc, Bool, true, false, ◌||◌, ◌&&◌, List, [], ◌∷◌, length, map, Option, None, Some, refl, sym, ap, ap₂, ◌∙◌, subst, arith, inl, inr}
use Rattle.std.specs.Prelude.{nat_lt}
use Rattle.std.proofs.lemmas.Bool.{eqb-true, or_cases, or_left, or_right}
use Rattle.dk_syntax.proofs.ListLaws.{for_each, ForEach}
use Rattle.dk_syntax.proofs.SubstitutionLaws.{has_variable-Any, has_variable-App, has_variable-Var}
use Rattle.dk_syntax.proofs.TermLaws.{term_induction}
use Rattle.dk_syntax.specs.Lists.{all_true}
use Rattle.dk_syntax.specs.Terms.{any_true, has_variable}
use Rattle.dk_syntax.specs.declared.Term.{Term}
use Rattle.dk_syntax.specs.declared.Term.TheVariants.{Var}
use Rattle.normal_form.specs.ClauseLists.{has_number}
use Rattle.normal_form.specs.Forms.{all, and, ex, Form, free, lit, no, or, yes}
use Rattle.step_skolem.proofs.Levels.{AreBelow, HasLevels}
use Rattle.step_skolem.proofs.Numbers.{less_up, lt_up, zero_lt}
use Rattle.step_skolem.proofs.OneImage.{first_same, rest_same, universal_eq}
use Rattle.step_skolem.proofs.SeenTerms.{covers-Any, covers-App, covers-Var}
use Rattle.step_skolem.proofs.SubstitutionLaws.{variable_same, variable_there}
use Rattle.step_skolem.specs.Images.{binder, is_outside, outside, universal}
use Rattle.step_skolem.specs.Levels.{denoted, index, kept_of}
use Rattle.step_skolem.specs.Searching.{covers, covers_term, is_covered, number_before, number_in, numbers_in}
use Rattle.step_skolem.specs.declared.walk.Quantifier.{Quantifier}
use Rattle.step_skolem.specs.declared.walk.Quantifier.TheVariants.{Existential, Universal}
use Rattle.step_skolem.specs.declared.walk.Value.{Value}
use Rattle.step_skolem.specs.declared.walk.Value.TheVariants.{Kept, Replaced}

pub some_same : {A : Type 0} (x y : A) → Some x ≡ Some y → x ≡ y
some_same x y h = cc

pub and_left : (a b : Bool) → (a && b) ≡ true → a ≡ true
and_left true b h = refl
and_left false b h = cc

pub and_right : (a b : Bool) → (a && b) ≡ true → b ≡ true
and_right true b h = h
and_right false b h = cc

pub and_both : (a b : Bool) → a ≡ true → b ≡ true → (a && b) ≡ true
and_both true b h k = k
and_both false b h k = cc

-- ---- the numbers of universals

number_found : (kept : List Quantifier) (y n : ℕ) → binder (map kept_of kept) y ≡ universal n → number_in kept y ≡ Some n
number_found [] y n h = cc
number_found (Universal k ∷ kept) zero n h = ap Some (universal_eq k n h)
number_found (Existential ∷ kept) zero n h = cc
number_found (q ∷ kept) (suc y) n h = number_found kept y n h

number_sound : (kept : List Quantifier) (y n : ℕ) → number_in kept y ≡ Some n → binder (map kept_of kept) y ≡ universal n
number_sound [] y n h = cc
number_sound (Universal k ∷ kept) zero n h = ap universal (some_same k n h)
number_sound (Existential ∷ kept) zero n h = cc
number_sound (q ∷ kept) (suc y) n h = number_sound kept y n h

pub numbers_found : (kept : List Quantifier) (ys args : List ℕ) → map (binder (map kept_of kept)) ys ≡ map universal args → numbers_in kept ys ≡ Some args
numbers_found kept [] [] h = refl
numbers_found kept [] (n ∷ args) h = cc
numbers_found kept (y ∷ ys) [] h = cc
numbers_found kept (y ∷ ys) (n ∷ args) h =
    ap₂ number_before (number_found kept y n (first_same (binder (map kept_of kept) y) (universal n) (map (binder (map kept_of kept)) ys) (map universal args) h))
    (numbers_found kept ys args (rest_same (binder (map kept_of kept) y) (universal n) (map (binder (map kept_of kept)) ys) (map universal args) h))

number_before_some : (a : Option ℕ) (b : Option (List ℕ)) (z : List ℕ) → number_before a b ≡ Some z → (x : ℕ) × (l : List ℕ) × (a ≡ Some x) × (b ≡ Some l) × (x ∷ l ≡ z)
number_before_some None b z h = cc
number_before_some (Some x) None z h = cc
number_before_some (Some x) (Some l) z h = (x, l, refl, refl, some_same (x ∷ l) z h)

pub numbers_sound : (kept : List Quantifier) (ys args : List ℕ) → numbers_in kept ys ≡ Some args → map (binder (map kept_of kept)) ys ≡ map universal args
numbers_sound kept [] args h = ap (map universal) (some_same [] args h)
numbers_sound kept (y ∷ ys) args h =
    let j = number_before_some (number_in kept y) (numbers_in kept ys) args h in
    ap₂ (λ a b. a ∷ b) (number_sound kept y j.0 j.2) (numbers_sound kept ys j.1 j.3) ∙ ap (map universal) j.4

-- ---- levels

within : (kept : List Quantifier) (y n : ℕ) → binder (map kept_of kept) y ≡ universal n → y < length kept
within [] y n h = cc
within (q ∷ kept) zero n h = omega arith
within (q ∷ kept) (suc y) n h = let l = within kept y n h in omega (arith, l)

-- the levels of variables of universals, and back
pub levels_back : (kept : List Quantifier) (ys args : List ℕ) → map (binder (map kept_of kept)) ys ≡ map universal args
    → AreBelow (length kept) (map (index (length kept)) ys) × (map (index (length kept)) (map (index (length kept)) ys) ≡ ys)
levels_back kept [] args h = (tt, refl)
levels_back kept (y ∷ ys) [] h = cc
levels_back kept (y ∷ ys) (n ∷ args) h =
    let l = within kept y n (first_same (binder (map kept_of kept) y) (universal n) (map (binder (map kept_of kept)) ys) (map universal args) h) in
    let r = levels_back kept ys args (rest_same (binder (map kept_of kept) y) (universal n) (map (binder (map kept_of kept)) ys) (map universal args) h) in
    ((omega (arith, l), r.0), ap₂ (λ a b. a ∷ b) (back (length kept) y l) r.1)
  where
    back : (d y : ℕ) → y < d → index d (index d y) ≡ y
    back d y l = omega (arith, l)

-- ---- free variables that pass a test

abbrev Passed : (ℕ → Bool) → ℕ → ℕ → Type 0
Passed p bound k = (nat_lt k bound || p (k - bound)) ≡ true

passed_up : (p : ℕ → Bool) (bound k : ℕ) → (nat_lt (suc k) (suc bound) || p (suc k - suc bound)) ≡ (nat_lt k bound || p (k - bound))
passed_up p bound k = ap₂ (λ t x. t || p x) (lt_up k bound) (less_up k bound)

abbrev TermPasses : (ℕ → Bool) → ℕ → Term → Type 0
TermPasses p bound t = covers_term p bound t ≡ true → (k : ℕ) → has_variable k t ≡ true → Passed p bound k

terms_pass : (p : ℕ → Bool) (bound : ℕ) (args : List Term) → ForEach (TermPasses p bound) args → all_true (map (covers_term p bound) args) ≡ true
    → (k : ℕ) → any_true (map (has_variable k) args) ≡ true → Passed p bound k
terms_pass p bound [] known h k i = cc
terms_pass p bound (x ∷ xs) known h k i = elim (or_cases (has_variable k x) (any_true (map (has_variable k) xs)) i) [
  | inl l ↦ known.0 (and_left (covers_term p bound x) (all_true (map (covers_term p bound) xs)) h) k l
  | inr r ↦ terms_pass p bound xs known.1 (and_right (covers_term p bound x) (all_true (map (covers_term p bound) xs)) h) k r
]

term_passes : (p : ℕ → Bool) (bound : ℕ) (t : Term) → TermPasses p bound t
term_passes p bound = term_induction (TermPasses p bound)
    (λ n h k i. subst (Passed p bound) (eqb-true n k (sym (has_variable-Var k n) ∙ i)) (sym (covers-Var p bound n) ∙ h))
    (λ f args known h k i. terms_pass p bound args known (sym (covers-App p bound f args) ∙ h) k (sym (has_variable-App k f args) ∙ i))
    (λ h k i. absurd (let a = has_variable-Any k in cc))

pub each_passes : (f : Form) (p : ℕ → Bool) (bound : ℕ) → covers p bound f ≡ true → (k : ℕ) → free k f ≡ true → Passed p bound k
each_passes yes p bound h k i = cc
each_passes no p bound h k i = cc
each_passes (lit l) p bound h k i = terms_pass p bound l.args (for_each (TermPasses p bound) (term_passes p bound) l.args) h k i
each_passes (and a b) p bound h k i = elim (or_cases (free k a) (free k b) i) [
  | inl l ↦ each_passes a p bound (and_left (covers p bound a) (covers p bound b) h) k l
  | inr r ↦ each_passes b p bound (and_right (covers p bound a) (covers p bound b) h) k r
]
each_passes (or a b) p bound h k i = elim (or_cases (free k a) (free k b) i) [
  | inl l ↦ each_passes a p bound (and_left (covers p bound a) (covers p bound b) h) k l
  | inr r ↦ each_passes b p bound (and_right (covers p bound a) (covers p bound b) h) k r
]
each_passes (all b) p bound h k i = sym (passed_up p bound k) ∙ each_passes b p (suc bound) h (suc k) i
each_passes (ex b) p bound h k i = sym (passed_up p bound k) ∙ each_passes b p (suc bound) h (suc k) i

abbrev TermCovered : (ℕ → Bool) → ℕ → Term → Type 0
TermCovered p bound t = ((k : ℕ) → has_variable k t ≡ true → Passed p bound k) → covers_term p bound t ≡ true

terms_covered : (p : ℕ → Bool) (bound : ℕ) (args : List Term) → ForEach (TermCovered p bound) args
    → ((k : ℕ) → any_true (map (has_variable k) args) ≡ true → Passed p bound k) → all_true (map (covers_term p bound) args) ≡ true
terms_covered p bound [] known h = refl
terms_covered p bound (x ∷ xs) known h =
    and_both (covers_term p bound x) (all_true (map (covers_term p bound) xs)) (known.0 (λ k i. h k (or_left (has_variable k x) (any_true (map (has_variable k) xs)) i)))
    (terms_covered p bound xs known.1 (λ k i. h k (or_right (has_variable k x) (any_true (map (has_variable k) xs)) i)))

term_covered : (p : ℕ → Bool) (bound : ℕ) (t : Term) → TermCovered p bound t
term_covered p bound = term_induction (TermCovered p bound)
    (λ n h. covers-Var p bound n ∙ h n (variable_there n (Var n) refl))
    (λ f args known h. covers-App p bound f args ∙ terms_covered p bound args known (λ k i. h k (has_variable-App k f args ∙ i)))
    (λ h. covers-Any p bound)

under : (f : Form) (p : ℕ → Bool) (bound : ℕ) → ((k : ℕ) → free (suc k) f ≡ true → Passed p bound k) → (k : ℕ) → free k f ≡ true → Passed p (suc bound) k
under f p bound h zero i = ap (λ t. t || p (0 - suc bound)) (zero_lt bound)
under f p bound h (suc k) i = passed_up p bound k ∙ h k i

pub all_covered : (f : Form) (p : ℕ → Bool) (bound : ℕ) → ((k : ℕ) → free k f ≡ true → Passed p bound k) → covers p bound f ≡ true
all_covered yes p bound h = refl
all_covered no p bound h = refl
all_covered (lit l) p bound h = terms_covered p bound l.args (for_each (TermCovered p bound) (term_covered p bound) l.args) h
all_covered (and a b) p bound h =
    and_both (covers p bound a) (covers p bound b) (all_covered a p bound (λ k i. h k (or_left (free k a) (free k b) i)))
    (all_covered b p bound (λ k i. h k (or_right (free k a) (free k b) i)))
all_covered (or a b) p bound h =
    and_both (covers p bound a) (covers p bound b) (all_covered a p bound (λ k i. h k (or_left (free k a) (free k b) i)))
    (all_covered b p bound (λ k i. h k (or_right (free k a) (free k b) i)))
all_covered (all b) p bound h = all_covered b p (suc bound) (under b p bound h)
all_covered (ex b) p bound h = all_covered b p (suc bound) (under b p bound h)

-- ---- the variables of what stands for a variable

past : (kept : List Quantifier) (k : ℕ) → binder (map kept_of kept) (k + length kept) ≡ outside
past [] k = refl
past (q ∷ kept) k = ap (binder (kept_of q ∷ map kept_of kept)) (longer k (length kept)) ∙ past kept k
  where
    longer : (k d : ℕ) → k + suc d ≡ suc (k + d)
    longer k d = omega arith

inside : (kept : List Quantifier) (i : ℕ) → i < length kept → is_outside (binder (map kept_of kept) i) ≡ false
inside [] i h = absurd (omega (arith, h))
inside (Universal n ∷ kept) zero h = refl
inside (Existential ∷ kept) zero h = refl
inside (q ∷ kept) (suc i) h = inside kept i (omega (arith, h))

-- the indices of the levels are among the variables
abbrev indices_among : ℕ → List ℕ → List ℕ → Bool
indices_among d ys levels = all_true (map (λ level. has_number ys (index d level)) levels)

among : (d : ℕ) (ys levels : List ℕ) (i : ℕ) → indices_among d ys levels ≡ true → any_true (map (has_variable i) (map Var (map (index d) levels))) ≡ true → has_number ys i ≡ true
among d ys [] i h v = cc
among d ys (l ∷ levels) i h v = elim (or_cases (has_variable i (Var (index d l))) (any_true (map (has_variable i) (map Var (map (index d) levels)))) v) [
  | inl o ↦ subst (λ x. has_number ys x ≡ true) (variable_same (index d l) i o) (and_left (has_number ys (index d l)) (indices_among d ys levels) h)
  | inr r ↦ among d ys levels i (and_right (has_number ys (index d l)) (indices_among d ys levels) h) r
]

pub covered_has : (kept : List Quantifier) (values : List Value) (ys : List ℕ) (k : ℕ) → is_covered (length kept) values ys k ≡ true
    → (i : ℕ) → has_variable i (denoted (length kept) values k) ≡ true → is_outside (binder (map kept_of kept) i) ≡ false → has_number ys i ≡ true
covered_has kept [] ys k h i v o =
    let e : k + length kept ≡ i = variable_same (k + length kept) i v in
    absurd (clash (sym (ap is_outside (past kept k)) ∙ ap (λ x. is_outside (binder (map kept_of kept) x)) e ∙ o))
  where
    clash : true ≡ false → ⊥
    clash c = cc
covered_has kept (Kept l ∷ values) ys zero h i v o = subst (λ x. has_number ys x ≡ true) (variable_same (index (length kept) l) i v) h
covered_has kept (Replaced r ∷ values) ys zero h i v o =
    among (length kept) ys r.levels i h (sym (has_variable-App i r.symbol (map Var (map (index (length kept)) r.levels))) ∙ v)
covered_has kept (x ∷ values) ys (suc k) h i v o = covered_has kept values ys k h i v o

all_among : (kept : List Quantifier) (ys levels : List ℕ) → AreBelow (length kept) levels
    → ((i : ℕ) → any_true (map (has_variable i) (map Var (map (index (length kept)) levels))) ≡ true → is_outside (binder (map kept_of kept) i) ≡ false → has_number ys i ≡ true)
    → indices_among (length kept) ys levels ≡ true
all_among kept ys [] l h = refl
all_among kept ys (x ∷ levels) l h =
    and_both (has_number ys (index (length kept) x)) (indices_among (length kept) ys levels)
    (h (index (length kept) x) (or_left (has_variable (index (length kept) x) (Var (index (length kept) x))) (any_true (map (has_variable (index (length kept) x)) (map Var (map (index (length kept)) levels)))) (variable_there (index (length kept) x) (Var (index (length kept) x)) refl))
    (inside kept (index (length kept) x) (below (length kept) x l.0)))
    (all_among kept ys levels l.1 (λ i v. h i (or_right (has_variable i (Var (index (length kept) x))) (any_true (map (has_variable i) (map Var (map (index (length kept)) levels)))) v)))
  where
    below : (d x : ℕ) → x < d → index d x < d
    below d x h = omega (arith, h)

pub has_covered : (kept : List Quantifier) (values : List Value) (ys : List ℕ) (k : ℕ) → HasLevels (length kept) values
    → ((i : ℕ) → has_variable i (denoted (length kept) values k) ≡ true → is_outside (binder (map kept_of kept) i) ≡ false → has_number ys i ≡ true)
    → is_covered (length kept) values ys k ≡ true
has_covered kept [] ys k l h = refl
has_covered kept (Kept x ∷ values) ys zero l h =
    h (index (length kept) x) (variable_there (index (length kept) x) (Var (index (length kept) x)) refl) (inside kept (index (length kept) x) (below (length kept) x l.0))
  where
    below : (d x : ℕ) → x < d → index d x < d
    below d x h = omega (arith, h)
has_covered kept (Replaced r ∷ values) ys zero l h =
    all_among kept ys r.levels l.0 (λ i v. h i (has_variable-App i r.symbol (map Var (map (index (length kept)) r.levels)) ∙ v))
has_covered kept (x ∷ values) ys (suc k) l h = has_covered kept values ys k l.1 h
