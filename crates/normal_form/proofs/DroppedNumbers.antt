-- New numbers for variables of forms, where quantifiers around are dropped.
use Rattle.std.proofs.Common.{◌≡◌, ℕ, zero, suc, ◌-◌, ◌<◌, ◌≤◌, inl, inr, false, nat_lt, if◌then◌else◌, List, [], ◌∷◌, map, refl, sym, ap, ap₂, ◌∙◌, arith, rules}
use mathlib.Core.Path.{fun_ext}
use Rattle.std.proofs.lemmas.Bool.Decides.{nat_tests}
use Rattle.dk_syntax.proofs.ListLaws.{ForEach, for_each}
use Rattle.dk_syntax.proofs.TermLaws.{term_induction}
use Rattle.dk_syntax.specs.declared.Literal.{Literal}
use Rattle.dk_syntax.specs.declared.SymKey.{SymKey}
use Rattle.dk_syntax.specs.declared.Term.{Term, the_lemmas as of_terms}
use Rattle.dk_syntax.specs.declared.Term.TheVariants.{Any, App, Var}
use Rattle.normal_form.proofs.BoolLaws.{left_false, right_false, test_cases}
use Rattle.normal_form.proofs.FormEquations.{in-All, in-And, in-App, in-Ex, in-Lit, in-Or, in-Var, lowered-All, lowered-And, lowered-Any, lowered-App, lowered-Ex, lowered-False, lowered-Lit, lowered-Or, lowered-True, lowered-Var}
use Rattle.normal_form.proofs.FormInduction.{form_induction}
use Rattle.normal_form.specs.Drafts.{Fits, renamed_form, under}
use Rattle.normal_form.specs.Lowered.{lowered, lowered_literal, lowered_term}
use Rattle.normal_form.specs.Occurrence.{any_true, in_form, has_variable}
use Rattle.normal_form.specs.Renaming.{kept_number, renamed, renamed_literal}
use Rattle.normal_form.specs.declared.form.Nf.{Nf, the_lemmas as of_forms}
use Rattle.normal_form.specs.declared.form.Nf.TheVariants as nf

-- ---- what renaming says of each kind of term and form

pub renamed-Var : (p : ℕ → ℕ) (n : ℕ) → renamed p (Var n) ≡ Var (p n)
renamed-Var p n = search (rules, of_terms)

pub renamed-App : (p : ℕ → ℕ) (s : SymKey) (args : List Term) → renamed p (App s args) ≡ App s (map (renamed p) args)
renamed-App p s args = search (rules, of_terms)

pub renamed-Any : (p : ℕ → ℕ) → renamed p Any ≡ Any
renamed-Any p = search (rules, of_terms)

pub renamed-True : (p : ℕ → ℕ) → renamed_form nf.True p ≡ nf.True
renamed-True p = search (rules, of_forms)

pub renamed-False : (p : ℕ → ℕ) → renamed_form nf.False p ≡ nf.False
renamed-False p = search (rules, of_forms)

pub renamed-Lit : (p : ℕ → ℕ) (l : Literal) → renamed_form (nf.Lit l) p ≡ nf.Lit (renamed_literal p l)
renamed-Lit p l = search (rules, of_forms)

pub renamed-And : (p : ℕ → ℕ) (a b : Nf) → renamed_form (nf.And a b) p ≡ nf.And (renamed_form a p) (renamed_form b p)
renamed-And p a b = search (rules, of_forms)

pub renamed-Or : (p : ℕ → ℕ) (a b : Nf) → renamed_form (nf.Or a b) p ≡ nf.Or (renamed_form a p) (renamed_form b p)
renamed-Or p a b = search (rules, of_forms)

pub renamed-All : (p : ℕ → ℕ) (a : Nf) → renamed_form (nf.All a) p ≡ nf.All (renamed_form a (under p))
renamed-All p a = search (rules, of_forms)

pub renamed-Ex : (p : ℕ → ℕ) (a : Nf) → renamed_form (nf.Ex a) p ≡ nf.Ex (renamed_form a (under p))
renamed-Ex p a = search (rules, of_forms)

-- ---- new numbers after a place is taken away

-- where the variable k is absent, q gives the numbers that p gives once those above k are lowered
abbrev pub Skips : (k : ℕ) (p q : ℕ → ℕ) → Type 0
Skips k p q = (n : ℕ) → (n < k → p n ≡ q n) × (k ≤ n → p n ≡ q (suc n))

skips_under : (k : ℕ) (p q : ℕ → ℕ) → Skips k p q → Skips (suc k) (under p) (under q)
skips_under k p q h zero = (λ l. refl, λ l. absurd (omega arith))
skips_under k p q h (suc n) = (λ l. ap suc ((h n).0 (omega arith)), λ l. ap suc ((h n).1 (omega arith)))

abbrev pub TermSkips : (k : ℕ) (p q : ℕ → ℕ) → Term → Type 0
TermSkips k p q t = has_variable k t ≡ false → renamed p (lowered_term k t) ≡ renamed q t

var_stays_below : (k : ℕ) (p q : ℕ → ℕ) (n : ℕ) → p n ≡ q n → nat_lt k n ≡ false → renamed p (lowered_term k (Var n)) ≡ renamed q (Var n)
var_stays_below k p q n same l =
    ap (renamed p) (lowered-Var k n ∙ ap (λ x. if x then Var (n - 1) else Var n) l) ∙ renamed-Var p n ∙ ap Var same ∙ sym (renamed-Var q n)

var_skips : (k : ℕ) (p q : ℕ → ℕ) → Skips k p q → (n : ℕ) → TermSkips k p q (Var n)
var_skips k p q h zero o = elim (test_cases (nat_lt k zero)) [
  | inl l ↦ absurd (grind (arith, nat_tests))
  | inr l ↦
      let b : zero < k = (let e = sym (in-Var k zero) ∙ o in grind (arith, nat_tests)) in
      var_stays_below k p q zero ((h zero).0 b) l
]
var_skips k p q h (suc n) o = elim (test_cases (nat_lt k (suc n))) [
  | inl l ↦
      let b : k ≤ n = grind (arith, nat_tests) in
      let m : suc n - 1 ≡ n = omega arith in
      ap (renamed p) (lowered-Var k (suc n) ∙ ap (λ x. if x then Var (suc n - 1) else Var (suc n)) l ∙ ap Var m) ∙ renamed-Var p n ∙ ap Var ((h n).1 b) ∙ sym (renamed-Var q (suc n))
  | inr l ↦
      let b : suc n < k = (let e = sym (in-Var k (suc n)) ∙ o in grind (arith, nat_tests)) in
      var_stays_below k p q (suc n) ((h (suc n)).0 b) l
]

args_skip : (k : ℕ) (p q : ℕ → ℕ) (ts : List Term) → ForEach (TermSkips k p q) ts → any_true (map (has_variable k) ts) ≡ false → map (renamed p) (map (lowered_term k) ts) ≡ map (renamed q) ts
args_skip k p q [] h o = refl
args_skip k p q (t ∷ ts) h o =
    ap₂ (λ x xs. x ∷ xs) (h.0 (left_false (has_variable k t) (any_true (map (has_variable k) ts)) o))
    (args_skip k p q ts h.1 (right_false (has_variable k t) (any_true (map (has_variable k) ts)) o))

term_skips : (k : ℕ) (p q : ℕ → ℕ) → Skips k p q → (t : Term) → TermSkips k p q t
term_skips k p q skips = term_induction (TermSkips k p q)
    (var_skips k p q skips)
    (λ s args h o.
    ap (renamed p) (lowered-App k s args) ∙ renamed-App p s (map (lowered_term k) args)
    ∙ ap (App s) (args_skip k p q args h (sym (in-App k s args) ∙ o)) ∙ sym (renamed-App q s args))
    (λ o. ap (renamed p) (lowered-Any k) ∙ renamed-Any p ∙ sym (renamed-Any q))

abbrev pub FormSkips : Nf → Type 0
FormSkips a = (k : ℕ) (p q : ℕ → ℕ) → Skips k p q → in_form a k ≡ false → renamed_form (lowered a k) p ≡ renamed_form a q

pub form_skips : (a : Nf) → FormSkips a
form_skips = form_induction FormSkips
    (λ k p q s o. ap (λ x. renamed_form x p) (lowered-True k) ∙ renamed-True p ∙ sym (renamed-True q))
    (λ k p q s o. ap (λ x. renamed_form x p) (lowered-False k) ∙ renamed-False p ∙ sym (renamed-False q))
    (λ l k p q s o.
    ap (λ x. renamed_form x p) (lowered-Lit k l) ∙ renamed-Lit p (lowered_literal k l)
    ∙ ap (λ args. nf.Lit (record { positive = l.positive; pred = l.pred; args = args })) (args_skip k p q l.args (for_each (TermSkips k p q) (term_skips k p q s) l.args) (sym (in-Lit k l) ∙ o))
    ∙ sym (renamed-Lit q l))
    (λ a b g h k p q s o.
    let n = sym (in-And k a b) ∙ o in
    ap (λ x. renamed_form x p) (lowered-And k a b) ∙ renamed-And p (lowered a k) (lowered b k)
    ∙ ap₂ (λ x y. nf.And x y) (g k p q s (left_false (in_form a k) (in_form b k) n)) (h k p q s (right_false (in_form a k) (in_form b k) n)) ∙ sym (renamed-And q a b))
    (λ a b g h k p q s o.
    let n = sym (in-Or k a b) ∙ o in
    ap (λ x. renamed_form x p) (lowered-Or k a b) ∙ renamed-Or p (lowered a k) (lowered b k)
    ∙ ap₂ (λ x y. nf.Or x y) (g k p q s (left_false (in_form a k) (in_form b k) n)) (h k p q s (right_false (in_form a k) (in_form b k) n)) ∙ sym (renamed-Or q a b))
    (λ a g k p q s o.
    ap (λ x. renamed_form x p) (lowered-All k a) ∙ renamed-All p (lowered a (suc k))
    ∙ ap nf.All (g (suc k) (under p) (under q) (skips_under k p q s) (sym (in-All k a) ∙ o)) ∙ sym (renamed-All q a))
    (λ a g k p q s o.
    ap (λ x. renamed_form x p) (lowered-Ex k a) ∙ renamed-Ex p (lowered a (suc k))
    ∙ ap nf.Ex (g (suc k) (under p) (under q) (skips_under k p q s) (sym (in-Ex k a) ∙ o)) ∙ sym (renamed-Ex q a))

-- ---- numbers that stay

abbrev pub Same : (ℕ → ℕ) → Type 0
Same p = (n : ℕ) → p n ≡ n

same_under : (p : ℕ → ℕ) → Same p → Same (under p)
same_under p same zero = refl
same_under p same (suc n) = ap suc (same n)

args_stay : (p : ℕ → ℕ) (ts : List Term) → ForEach (λ t. renamed p t ≡ t) ts → map (renamed p) ts ≡ ts
args_stay p [] h = refl
args_stay p (t ∷ ts) h = ap₂ (λ x xs. x ∷ xs) h.0 (args_stay p ts h.1)

term_stays : (p : ℕ → ℕ) → Same p → (t : Term) → renamed p t ≡ t
term_stays p same = term_induction (λ t. renamed p t ≡ t)
    (λ n. renamed-Var p n ∙ ap Var (same n))
    (λ s args h. renamed-App p s args ∙ ap (App s) (args_stay p args h))
    (renamed-Any p)

pub form_stays : (a : Nf) (p : ℕ → ℕ) → Same p → renamed_form a p ≡ a
form_stays = form_induction (λ a. (p : ℕ → ℕ) → Same p → renamed_form a p ≡ a)
    (λ p same. renamed-True p)
    (λ p same. renamed-False p)
    (λ l p same.
    renamed-Lit p l
    ∙ ap (λ args. nf.Lit (record { positive = l.positive; pred = l.pred; args = args })) (args_stay p l.args (for_each (λ t. renamed p t ≡ t) (term_stays p same) l.args)))
    (λ a b g h p same. renamed-And p a b ∙ ap₂ (λ x y. nf.And x y) (g p same) (h p same))
    (λ a b g h p same. renamed-Or p a b ∙ ap₂ (λ x y. nf.Or x y) (g p same) (h p same))
    (λ a g p same. renamed-All p a ∙ ap nf.All (g (under p) (same_under p same)))
    (λ a g p same. renamed-Ex p a ∙ ap nf.Ex (g (under p) (same_under p same)))

-- ---- numbers under quantifiers of which some are dropped

pub fits_none : Fits [] zero
fits_none n = (omega arith, omega arith)

pub fits_kept : (around : List ℕ) (d : ℕ) → Fits around d → Fits (d ∷ around) d
fits_kept around d fits zero = (omega arith, omega arith)
fits_kept around d fits (suc n) = let f = fits n in (f.0, let g = f.1 in omega arith)

pub fits_dropped : (around : List ℕ) (d : ℕ) → Fits around d → Fits (suc d ∷ around) (suc d)
fits_dropped around d fits zero = (omega arith, omega arith)
fits_dropped around d fits (suc n) = let f = (fits n).0 in let g = (fits n).1 in (omega arith, omega arith)

kept_under : (around : List ℕ) (d : ℕ) → Fits around d → (n : ℕ) → kept_number (d ∷ around) d n ≡ under (kept_number around d) n
kept_under around d fits zero = omega arith
kept_under around d fits (suc n) = let f = (fits n).0 in let g = (fits n).1 in omega arith

pub form_kept : (a : Nf) (around : List ℕ) (d : ℕ) → Fits around d → renamed_form a (kept_number (d ∷ around) d) ≡ renamed_form a (under (kept_number around d))
form_kept a around d fits = ap (renamed_form a) (fun_ext (kept_under around d fits))

skips_dropped : (around : List ℕ) (d : ℕ) → Fits around d → Skips zero (kept_number around d) (kept_number (suc d ∷ around) (suc d))
skips_dropped around d fits n = (λ l. absurd (omega arith), λ l. let f = (fits n).0 in let g = (fits n).1 in omega arith)

pub form_dropped : (a : Nf) (around : List ℕ) (d : ℕ) → Fits around d → in_form a zero ≡ false → renamed_form (lowered a zero) (kept_number around d) ≡ renamed_form a (kept_number (suc d ∷ around) (suc d))
form_dropped a around d fits o = form_skips a zero (kept_number around d) (kept_number (suc d ∷ around) (suc d)) (skips_dropped around d fits) o

none_dropped : (n : ℕ) → kept_number [] zero n ≡ n
none_dropped n = omega arith

pub form_whole : (a : Nf) → renamed_form a (kept_number [] zero) ≡ a
form_whole a = form_stays a (kept_number [] zero) none_dropped
