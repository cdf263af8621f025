-- What lowering keeps: the truth of a form, its nodes, and which variables occur.
use Rattle.std.proofs.Common.{◌≡◌, ℕ, zero, suc, ◌-◌, ◌<◌, ◌≤◌, inl, inr, false, ◌&&◌, ◌||◌, nat_eq, nat_lt, if◌then◌else◌, List, [], ◌∷◌, map, refl, sym, ap, ap₂, ◌∙◌, arith}
use mathlib.Core.Path.{fun_ext}
use Rattle.std.proofs.lemmas.Bool.Decides.{nat_tests}
use Rattle.std.proofs.lemmas.Grind.{common_steps}
use Rattle.dk_syntax.proofs.ListLaws.{ForEach, for_each}
use Rattle.dk_syntax.proofs.TermLaws.{term_induction}
use Rattle.dk_syntax.specs.declared.Term.{Term, Var}
use Rattle.normal_form.proofs.BoolLaws.{left_false, right_false, test_cases}
use Rattle.normal_form.proofs.FormEquations.{in-All, in-And, in-Any, in-App, in-Ex, in-False, in-Lit, in-Or, in-True, in-Var, lowered-All, lowered-And, lowered-Any, lowered-App, lowered-Ex, lowered-False, lowered-Lit, lowered-Or, lowered-True, lowered-Var, nodes-Lit, truth-All, truth-And, truth-Ex, truth-False, truth-Lit, truth-Or, truth-True, value-Any, value-App, value-Var}
use Rattle.normal_form.proofs.FormInduction.{form_induction}
use Rattle.normal_form.proofs.PutValue.{put_above, put_below, put_value}
use Rattle.normal_form.specs.Lowered.{lowered, lowered_literal, lowered_term}
use Rattle.normal_form.specs.Normal.{nodes_of}
use Rattle.normal_form.specs.Occurrence.{any_true, in_form, has_variable}
use Rattle.normal_form.specs.Truth.{Interpretation, form_truth, signed, value, with_value}
use Rattle.normal_form.specs.declared.form.Nf.{Nf, the_lemmas as of_forms}

-- ---- truth

-- a term from which the variable k is absent has its value whatever stands at place k
abbrev pub TermLowers : {D : Type 0} (i : Interpretation D) (k : ℕ) (d : D) (e : ℕ → D) → Term → Type 0
TermLowers i k d e t = has_variable k t ≡ false → value i e (lowered_term k t) ≡ value i (put_value k d e) t

var_lowers : {D : Type 0} (i : Interpretation D) (k : ℕ) (d : D) (e : ℕ → D) (n : ℕ) → TermLowers i k d e (Var n)
var_lowers i k d e zero o = elim (test_cases (nat_lt k zero)) [
  | inl p ↦ absurd (grind (arith, nat_tests))
  | inr p ↦
      let b : zero < k = (let q = sym (in-Var k zero) ∙ o in grind (arith, nat_tests)) in
      ap (value i e) (lowered-Var k zero ∙ ap (λ x. if x then Var (zero - 1) else Var zero) p) ∙ value-Var i e zero ∙ sym (put_below k zero d e b) ∙ sym (value-Var i (put_value k d e) zero)
]
var_lowers i k d e (suc n) o = elim (test_cases (nat_lt k (suc n))) [
  | inl p ↦
      let b : k ≤ n = grind (arith, nat_tests) in
      let m : suc n - 1 ≡ n = omega arith in
      ap (value i e) (lowered-Var k (suc n) ∙ ap (λ x. if x then Var (suc n - 1) else Var (suc n)) p ∙ ap Var m) ∙ value-Var i e n ∙ sym (put_above k n d e b) ∙ sym (value-Var i (put_value k d e) (suc n))
  | inr p ↦
      let b : suc n < k = (let q = sym (in-Var k (suc n)) ∙ o in grind (arith, nat_tests)) in
      ap (value i e) (lowered-Var k (suc n) ∙ ap (λ x. if x then Var (suc n - 1) else Var (suc n)) p) ∙ value-Var i e (suc n) ∙ sym (put_below k (suc n) d e b) ∙ sym (value-Var i (put_value k d e) (suc n))
]

args_lower : {D : Type 0} (i : Interpretation D) (k : ℕ) (d : D) (e : ℕ → D) (ts : List Term) → ForEach (TermLowers i k d e) ts → any_true (map (has_variable k) ts) ≡ false → map (value i e) (map (lowered_term k) ts) ≡ map (value i (put_value k d e)) ts
args_lower i k d e [] h o = refl
args_lower i k d e (t ∷ ts) h o =
    let a = h.0 (left_false (has_variable k t) (any_true (map (has_variable k) ts)) o) in
    let b = args_lower i k d e ts h.1 (right_false (has_variable k t) (any_true (map (has_variable k) ts)) o) in cc

term_lowers : {D : Type 0} (i : Interpretation D) (k : ℕ) (d : D) (e : ℕ → D) (t : Term) → TermLowers i k d e t
term_lowers i k d e = term_induction (TermLowers i k d e)
    (var_lowers i k d e)
    (λ s args h o.
    ap (value i e) (lowered-App k s args) ∙ value-App i e s (map (lowered_term k) args)
    ∙ ap (i.function s) (args_lower i k d e args h (sym (in-App k s args) ∙ o)) ∙ sym (value-App i (put_value k d e) s args))
    (λ o. ap (value i e) (lowered-Any k) ∙ value-Any i e ∙ sym (value-Any i (put_value k d e)))

terms_lower : {D : Type 0} (i : Interpretation D) (k : ℕ) (d : D) (e : ℕ → D) (ts : List Term) → any_true (map (has_variable k) ts) ≡ false → map (value i e) (map (lowered_term k) ts) ≡ map (value i (put_value k d e)) ts
terms_lower i k d e ts = args_lower i k d e ts (for_each (TermLowers i k d e) (term_lowers i k d e) ts)

-- the same of forms
abbrev pub FormLowers : {D : Type 0} (i : Interpretation D) → Nf → Type 0
FormLowers {D = D} i a = (k : ℕ) (d : D) (e : ℕ → D) → in_form a k ≡ false → form_truth i (lowered a k) e ≡ form_truth i a (put_value k d e)

pub form_lowers : {D : Type 0} (i : Interpretation D) (a : Nf) → FormLowers i a
form_lowers i = form_induction (FormLowers i)
    (λ k d e o. ap (λ x. form_truth i x e) (lowered-True k) ∙ truth-True i e ∙ sym (truth-True i (put_value k d e)))
    (λ k d e o. ap (λ x. form_truth i x e) (lowered-False k) ∙ truth-False i e ∙ sym (truth-False i (put_value k d e)))
    (λ l k d e o.
    ap (λ x. form_truth i x e) (lowered-Lit k l) ∙ truth-Lit i e (lowered_literal k l)
    ∙ ap (λ vs. signed l.positive (i.predicate l.pred vs)) (terms_lower i k d e l.args (sym (in-Lit k l) ∙ o))
    ∙ sym (truth-Lit i (put_value k d e) l))
    (λ a b g h k d e o.
    let n = sym (in-And k a b) ∙ o in
    ap (λ x. form_truth i x e) (lowered-And k a b) ∙ truth-And i e (lowered a k) (lowered b k)
    ∙ ap₂ (λ x y. x && y) (g k d e (left_false (in_form a k) (in_form b k) n)) (h k d e (right_false (in_form a k) (in_form b k) n))
    ∙ sym (truth-And i (put_value k d e) a b))
    (λ a b g h k d e o.
    let n = sym (in-Or k a b) ∙ o in
    ap (λ x. form_truth i x e) (lowered-Or k a b) ∙ truth-Or i e (lowered a k) (lowered b k)
    ∙ ap₂ (λ x y. x || y) (g k d e (left_false (in_form a k) (in_form b k) n)) (h k d e (right_false (in_form a k) (in_form b k) n))
    ∙ sym (truth-Or i (put_value k d e) a b))
    (λ a h k d e o.
    ap (λ x. form_truth i x e) (lowered-All k a) ∙ truth-All i e (lowered a (suc k))
    ∙ ap i.all (fun_ext (λ x. h (suc k) d (with_value x e) (sym (in-All k a) ∙ o)))
    ∙ sym (truth-All i (put_value k d e) a))
    (λ a h k d e o.
    ap (λ x. form_truth i x e) (lowered-Ex k a) ∙ truth-Ex i e (lowered a (suc k))
    ∙ ap i.ex (fun_ext (λ x. h (suc k) d (with_value x e) (sym (in-Ex k a) ∙ o)))
    ∙ sym (truth-Ex i (put_value k d e) a))

-- ---- nodes

pub nodes-lowered : (a : Nf) (k : ℕ) → nodes_of (lowered a k) ≡ nodes_of a
nodes-lowered = form_induction (λ a. (k : ℕ) → nodes_of (lowered a k) ≡ nodes_of a)
    (λ k. ap nodes_of (lowered-True k))
    (λ k. ap nodes_of (lowered-False k))
    (λ l k. ap nodes_of (lowered-Lit k l) ∙ nodes-Lit (lowered_literal k l) ∙ sym (nodes-Lit l))
    (λ a b g h k. let p = g k in let q = h k in let r = lowered-And k a b in grind (arith, common_steps, of_forms))
    (λ a b g h k. let p = g k in let q = h k in let r = lowered-Or k a b in grind (arith, common_steps, of_forms))
    (λ a g k. let p = g (suc k) in let r = lowered-All k a in grind (arith, common_steps, of_forms))
    (λ a g k. let p = g (suc k) in let r = lowered-Ex k a in grind (arith, common_steps, of_forms))

-- ---- variables

-- a variable of a term that was lowered
abbrev pub TermMoves : (j k : ℕ) → Term → Type 0
TermMoves j k t = j ≤ k → has_variable j t ≡ false → has_variable k (lowered_term j t) ≡ has_variable (suc k) t

var_moves : (j k n : ℕ) → TermMoves j k (Var n)
var_moves j k n b o =
    let z : nat_eq n j ≡ false = sym (in-Var j n) ∙ o in
    elim (test_cases (nat_lt j n)) [
      | inl p ↦
          ap (has_variable k) (lowered-Var j n ∙ ap (λ x. if x then Var (n - 1) else Var n) p) ∙ in-Var k (n - 1)
          ∙ (let h : nat_eq (n - 1) k ≡ nat_eq n (suc k) = grind (arith, nat_tests) in h) ∙ sym (in-Var (suc k) n)
      | inr p ↦
          ap (has_variable k) (lowered-Var j n ∙ ap (λ x. if x then Var (n - 1) else Var n) p) ∙ in-Var k n
          ∙ (let h : nat_eq n k ≡ nat_eq n (suc k) = grind (arith, nat_tests) in h) ∙ sym (in-Var (suc k) n)
    ]

args_move : (j k : ℕ) (ts : List Term) → ForEach (TermMoves j k) ts → j ≤ k → any_true (map (has_variable j) ts) ≡ false → any_true (map (has_variable k) (map (lowered_term j) ts)) ≡ any_true (map (has_variable (suc k)) ts)
args_move j k [] h b o = refl
args_move j k (t ∷ ts) h b o =
    ap₂ (λ x y. x || y) (h.0 b (left_false (has_variable j t) (any_true (map (has_variable j) ts)) o))
    (args_move j k ts h.1 b (right_false (has_variable j t) (any_true (map (has_variable j) ts)) o))

term_moves : (j k : ℕ) (t : Term) → TermMoves j k t
term_moves j k = term_induction (TermMoves j k)
    (var_moves j k)
    (λ s args h b o.
    ap (has_variable k) (lowered-App j s args) ∙ in-App k s (map (lowered_term j) args)
    ∙ args_move j k args h b (sym (in-App j s args) ∙ o) ∙ sym (in-App (suc k) s args))
    (λ b o. ap (has_variable k) (lowered-Any j) ∙ in-Any k ∙ sym (in-Any (suc k)))

abbrev pub FormMoves : Nf → Type 0
FormMoves a = (j k : ℕ) → j ≤ k → in_form a j ≡ false → in_form (lowered a j) k ≡ in_form a (suc k)

pub form_moves : (a : Nf) → FormMoves a
form_moves = form_induction FormMoves
    (λ j k b o. ap (λ a. in_form a k) (lowered-True j) ∙ in-True k ∙ sym (in-True (suc k)))
    (λ j k b o. ap (λ a. in_form a k) (lowered-False j) ∙ in-False k ∙ sym (in-False (suc k)))
    (λ l j k b o.
    ap (λ a. in_form a k) (lowered-Lit j l) ∙ in-Lit k (lowered_literal j l)
    ∙ args_move j k l.args (for_each (TermMoves j k) (term_moves j k) l.args) b (sym (in-Lit j l) ∙ o) ∙ sym (in-Lit (suc k) l))
    (λ a c g h j k b o.
    let n = sym (in-And j a c) ∙ o in
    ap (λ x. in_form x k) (lowered-And j a c) ∙ in-And k (lowered a j) (lowered c j)
    ∙ ap₂ (λ x y. x || y) (g j k b (left_false (in_form a j) (in_form c j) n)) (h j k b (right_false (in_form a j) (in_form c j) n)) ∙ sym (in-And (suc k) a c))
    (λ a c g h j k b o.
    let n = sym (in-Or j a c) ∙ o in
    ap (λ x. in_form x k) (lowered-Or j a c) ∙ in-Or k (lowered a j) (lowered c j)
    ∙ ap₂ (λ x y. x || y) (g j k b (left_false (in_form a j) (in_form c j) n)) (h j k b (right_false (in_form a j) (in_form c j) n)) ∙ sym (in-Or (suc k) a c))
    (λ a g j k b o.
    ap (λ x. in_form x k) (lowered-All j a) ∙ in-All k (lowered a (suc j)) ∙ g (suc j) (suc k) (omega arith) (sym (in-All j a) ∙ o) ∙ sym (in-All (suc k) a))
    (λ a g j k b o.
    ap (λ x. in_form x k) (lowered-Ex j a) ∙ in-Ex k (lowered a (suc j)) ∙ g (suc j) (suc k) (omega arith) (sym (in-Ex j a) ∙ o) ∙ sym (in-Ex (suc k) a))
