-- How marks compose.
use Rattle.std.proofs.Common.{◌≡◌, ◌<◌, ◌≤◌, ◌+◌, ℕ, zero, suc, Bool, true, false, ◌||◌, List, [], ◌∷◌, ◌++◌, map, take, get_or, set, length, arith, refl, rules, sym, subst, ap, ◌∙◌, inl, inr}
use native.Mathlib.Numerals.{unary_clauses}
use Rattle.std.specs.Prelude.{nat_eq}
use Rattle.std.proofs.lemmas.Bool.{eq-eqb, eqb-true}
use Rattle.std.proofs.lemmas.List.{get_or-set_other, get_or-set_same, length-append}
use Rattle.std.proofs.Math.ListN.{length-set}
use Rattle.dk_syntax.specs.declared.Formula.{Formula}
use Rattle.dk_syntax.specs.declared.SymKey.{SymKey}
use Rattle.dk_syntax.specs.declared.Term.{Term, the_lemmas as of_terms}
use Rattle.dk_syntax.specs.declared.Term.TheVariants.{App}
use Rattle.normal_form.proofs.BoolLaws.{or_false, or_left_step, or_true, test_cases}
use Rattle.normal_form.specs.Marks.{Marked}
use Rattle.normal_form.specs.Occurrence.{any_true, in_formula, has_variable}

pub marked_none : (marks : List Bool) → Marked (λ k. false) marks marks
marked_none marks = record { long = refl; marks = λ place k e. sym (or_false (get_or marks place false)) }

pub marked_along : (f g : ℕ → Bool) (s n : List Bool) → ((k : ℕ) → f k ≡ g k) → Marked f s n → Marked g s n
marked_along f g s n same known = record {
  long = known.long;
  marks = λ place k e. known.marks place k e ∙ ap (λ b. get_or s place false || b) (same k);
}

pub marked_both : (f g : ℕ → Bool) (s m n : List Bool) → Marked f s m → Marked g m n → Marked (λ k. f k || g k) s n
marked_both f g s m n first second = record {
  long = second.long ∙ first.long;
  marks = λ place k e.
      second.marks place k (e ∙ sym first.long)
      ∙ ap (λ b. b || g k) (first.marks place k e)
      ∙ sym (or_left_step (get_or s place false) (f k) (g k));
}

marked_at : (f : ℕ → Bool) (s : List Bool) (at n : ℕ) → at + n + 1 ≡ length s → ((k : ℕ) → nat_eq n k ≡ f k) → Marked f s (set s at true)
marked_at f s at n e same = record {
  long = length-set s at true;
  marks = λ place k q. elim (test_cases (nat_eq n k)) [
    | inl p ↦
        let here : place ≡ at = let i = eqb-true n k p in omega arith in
        ap (λ i. get_or (set s at true) i false) here ∙ get_or-set_same s at true false (omega arith)
        ∙ or_true (get_or s place false) ∙ ap (λ b. get_or s place false || b) (sym p ∙ same k)
    | inr p ↦
        let other : place ≡ at → ⊥ = λ here. let i : n ≡ k = omega arith in let x = eq-eqb n k i in absurd (cc) in
        get_or-set_other s at place true false other ∙ sym (or_false (get_or s place false)) ∙ ap (λ b. get_or s place false || b) (sym p ∙ same k)
  ];
}

pub marked_variable : (s : List Bool) (at n : ℕ) → at + n + 1 ≡ length s → Marked (λ k. nat_eq n k) s (set s at true)
marked_variable s at n e = marked_at (λ k. nat_eq n k) s at n e (λ k. refl)

pub marked_outside : (s : List Bool) (n : ℕ) → length s ≤ n → Marked (λ k. nat_eq n k) s s
marked_outside s n l = record {
  long = refl;
  marks = λ place k e. elim (test_cases (nat_eq n k)) [
    | inl p ↦ absurd (let i = eqb-true n k p in omega arith)
    | inr p ↦ sym (ap (λ b. get_or s place false || b) p ∙ or_false (get_or s place false))
  ];
}

-- ---- lists of terms

any_more : (k : ℕ) (xs : List Term) (i : ℕ) (x : Term) → i < length xs → x ≡ get_or xs i x → (any_true (map (has_variable k) (take i xs)) || has_variable k x) ≡ any_true (map (has_variable k) (take (i + 1) xs))
any_more k [] i x l e = absurd (omega arith)
any_more k (y ∷ ys) zero x l e = ap (has_variable k) e ∙ sym (or_false (has_variable k y))
any_more k (y ∷ ys) (suc i) x l e =
    let one : i + 1 ≡ suc i = omega arith in
    simp unary_clauses
    (sym (or_left_step (has_variable k y) (any_true (map (has_variable k) (take i ys))) (has_variable k x))
    ∙ ap (λ b. has_variable k y || b) (any_more k ys i x (omega arith) e ∙ ap (λ j. any_true (map (has_variable k) (take j ys))) one))

pub marked_more : (xs : List Term) (i : ℕ) (x : Term) (s m n : List Bool) → i < length xs → x ≡ get_or xs i x → Marked (λ k. any_true (map (has_variable k) (take i xs))) s m → Marked (λ k. has_variable k x) m n → Marked (λ k. any_true (map (has_variable k) (take (i + 1) xs))) s n
marked_more xs i x s m n l e before here =
    marked_along (λ k. any_true (map (has_variable k) (take i xs)) || has_variable k x) (λ k. any_true (map (has_variable k) (take (i + 1) xs))) s n
    (λ k. any_more k xs i x l e) (marked_both (λ k. any_true (map (has_variable k) (take i xs))) (λ k. has_variable k x) s m n before here)

-- ---- formulas

pub marked_two : (f a b : Formula) (s m n : List Bool) → ((k : ℕ) → in_formula f k ≡ in_formula a k || in_formula b k) → Marked (in_formula a) s m → Marked (in_formula b) m n → Marked (in_formula f) s n
marked_two f a b s m n same first second = marked_along (λ k. in_formula a k || in_formula b k) (in_formula f) s n (λ k. sym (same k)) (marked_both (in_formula a) (in_formula b) s m n first second)

left_of : (xs ys : List Bool) (i : ℕ) (d : Bool) → i < length xs → get_or (xs ++ ys) i d ≡ get_or xs i d
left_of [] ys i d l = absurd (omega arith)
left_of (x ∷ xs) ys zero d l = refl
left_of (x ∷ xs) ys (suc i) d l = left_of xs ys i d (omega arith)

last_of : (xs : List Bool) (y d : Bool) → get_or (xs ++ y ∷ []) (length xs) d ≡ y
last_of [] y d = refl
last_of (x ∷ xs) y d = last_of xs y d

one_longer : (xs : List Bool) (y : Bool) → length (xs ++ y ∷ []) ≡ length xs + 1
one_longer xs y = length-append xs (y ∷ [])

-- under a quantifier there is one mark more
pub marked_under : (f : ℕ → Bool) (s m rest : List Bool) (last : Bool) → Marked f (s ++ false ∷ []) m → m ≡ rest ++ last ∷ [] → Marked (λ k. f (k + 1)) s rest
marked_under f s m rest last known e =
    let long : length rest ≡ length s = let a = one_longer s false in let b = one_longer rest last in let c = known.long in let d = ap length e in omega arith in
    record {
      long = long;
      marks = λ place k q.
          sym (left_of rest (last ∷ []) place false (omega arith)) ∙ ap (λ l. get_or l place false) (sym e)
          ∙ known.marks place (k + 1) (let a = one_longer s false in omega arith)
          ∙ ap (λ b. b || f (k + 1)) (left_of s (false ∷ []) place false (omega arith));
    }

pub last_marked : (f : ℕ → Bool) (s m rest : List Bool) (last : Bool) → Marked f (s ++ false ∷ []) m → m ≡ rest ++ last ∷ [] → last ≡ f 0
last_marked f s m rest last known e =
    let long : length rest ≡ length s = let a = one_longer s false in let b = one_longer rest last in let c = known.long in let d = ap length e in omega arith in
    sym (last_of rest last false) ∙ ap (λ l. get_or l (length rest) false) (sym e) ∙ ap (λ i. get_or m i false) long
    ∙ known.marks (length s) 0 (let a = one_longer s false in omega arith)
    ∙ ap (λ b. b || f 0) (last_of s false false)

in_application : (k : ℕ) (f : SymKey) (args : List Term) → has_variable k (App f args) ≡ any_true (map (has_variable k) args)
in_application k f args = search (rules, of_terms)

pub marked_application : (t : Term) (f : SymKey) (args zs : List Term) (s n : List Bool) → t ≡ App f args → zs ≡ args → Marked (λ k. any_true (map (has_variable k) zs)) s n → Marked (λ k. has_variable k t) s n
marked_application t f args zs s n e z known =
    marked_along (λ k. any_true (map (has_variable k) zs)) (λ k. has_variable k t) s n
    (λ k. ap (λ us. any_true (map (has_variable k) us)) z ∙ sym (ap (has_variable k) e ∙ in_application k f args)) known

take_all : (xs : List Term) (i : ℕ) → length xs ≤ i → take i xs ≡ xs
take_all [] zero l = refl
take_all [] (suc i) l = refl
take_all (x ∷ xs) zero l = absurd (omega arith)
take_all (x ∷ xs) (suc i) l = ap (λ ys. x ∷ ys) (take_all xs i (omega arith))

pub marked_all : (xs : List Term) (i : ℕ) (s n : List Bool) → length xs ≤ i → Marked (λ k. any_true (map (has_variable k) (take i xs))) s n → Marked (λ k. any_true (map (has_variable k) xs)) s n
marked_all xs i s n l known = subst (λ ys. Marked (λ k. any_true (map (has_variable k) ys)) s n) (take_all xs i l) known

-- a formula with the variables of another
pub marked_formula : (f g : Formula) (occurs : ℕ → Bool) (s n : List Bool) → f ≡ g → ((k : ℕ) → in_formula g k ≡ occurs k) → Marked occurs s n → Marked (in_formula f) s n
marked_formula f g occurs s n e same known = marked_along occurs (in_formula f) s n (λ k. sym (ap (λ h. in_formula h k) e ∙ same k)) known

-- a formula of two parts
pub marked_pair : (f g a b x y : Formula) (s m n : List Bool) → f ≡ g → ((k : ℕ) → in_formula g k ≡ in_formula a k || in_formula b k) → x ≡ a → y ≡ b → Marked (in_formula x) s m → Marked (in_formula y) m n → Marked (in_formula f) s n
marked_pair f g a b x y s m n e same ex ey first second =
    marked_formula f g (λ k. in_formula a k || in_formula b k) s n e same
    (subst (λ z. Marked (λ k. in_formula a k || in_formula z k) s n) ey
    (subst (λ z. Marked (λ k. in_formula z k || in_formula y k) s n) ex
    (marked_both (in_formula x) (in_formula y) s m n first second)))
