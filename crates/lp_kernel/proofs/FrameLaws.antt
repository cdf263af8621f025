-- What frames and the program's context are, from their ends.
use Rattle.std.proofs.Common.{◌≡◌, ℕ, ◌+◌, List, [], ◌∷◌, ◌++◌, Bool, true, false, if◌then◌else◌, Result, Ok, Err, length, refl, sym, ap, ap₂, ◌∙◌, arith}
use Rattle.lp_term.specs.LambdaPi.{Term, lam, app, pi}
use Rattle.lp_term.specs.Typing.{Declaration}
use Rattle.lp_term.specs.View.{term_of}
use Rattle.lp_term.specs.declared.lp.Lp.{Lp}
use Rattle.lp_kernel.specs.declared.finding.Frame.{Frame}
use Rattle.lp_kernel.specs.declared.finding.Frame.TheVariants.{Body, Within, Last}
use Rattle.lp_exact.specs.LazyTypes.{full}
use Rattle.lp_exact.specs.Layers.{opened}
use Rattle.lp_kernel.specs.Checking.{Typing, typing, Fault, ill_typed, exactly, and_then, same_term, read, node_count, product_or, find_argument}
use Rattle.lp_kernel.specs.Walking.{continued, resumed, turned, context_of, argument_in, find_at, check_at, lambda_found, let_found, last_found}
use Rattle.lp_kernel.proofs.AnswerLaws.{term_same}
use Rattle.lp_kernel.proofs.AnsweredLaws.{term_is}

pub resumed_last : (l : List Frame) (f : Frame) (r : Result Typing Fault) → resumed (l ++ (f ∷ [])) r ≡ resumed l (resumed (f ∷ []) r)
resumed_last [] f r = refl
resumed_last (g ∷ l) f r = ap (λ x. and_then x (continued g)) (resumed_last l f r)

turned_last : (l : List Lp) (x : Lp) (d : List Term) → turned (l ++ (x ∷ [])) d ≡ term_of x ∷ turned l d
turned_last [] x d = refl
turned_last (a ∷ l) x d = turned_last l x (term_of a ∷ d)

pub context_last : (l : List Lp) (x : Lp) → context_of (l ++ (x ∷ [])) ≡ term_of x ∷ context_of l
context_last l x = turned_last l x []

turned_length : (l : List Lp) (d : List Term) → length (turned l d) ≡ length l + length d
turned_length [] d = omega arith
turned_length (a ∷ l) d = let h = turned_length l (term_of a ∷ d) in grind (arith, h)

pub context_length : (l : List Lp) → length (context_of l) ≡ length l
context_length l = let h = turned_length l [] in grind (arith, h)

pub same_chosen : {A : Type 0} (b : Bool) (x y : A) → b ≡ true → (if b then x else y) ≡ x
same_chosen true x y e = refl
same_chosen false x y e = cc

other_chosen : {A : Type 0} (b : Bool) (x y : A) → (b ≡ true → ⊥) → (if b then x else y) ≡ y
other_chosen true x y h = absurd (h refl)
other_chosen false x y h = refl

pub argument_same : (level node : ℕ) (x of value : Term) → full of ≡ full x → Ok value ≡ argument_in level node x (typing of value)
argument_same level node x of value e = sym (same_chosen (same_term (full of) (full x)) (Ok value) (Err (ill_typed node (exactly (full x)) (full of) level)) (ap (λ y. same_term y (full x)) e ∙ term_is (full x)))

pub argument_other : (level node : ℕ) (x of value wanted found : Term) → (full of ≡ full x → ⊥) → wanted ≡ full x → found ≡ full of → Err (ill_typed node (exactly wanted) found level) ≡ argument_in level node x (typing of value)
argument_other level node x of value wanted found h e i =
    ap₂ (λ w f. Err (ill_typed node (exactly w) f level)) e i ∙ sym (other_chosen (same_term (full of) (full x)) (Ok value) (Err (ill_typed node (exactly (full x)) (full of) level)) (λ k. h (term_same (full of) (full x) k)))

pub then_then : {A B C : Type 0} (m : Result A Fault) (f : A → Result B Fault) (g : B → Result C Fault) → and_then (and_then m f) g ≡ and_then m (λ a. and_then (f a) g)
then_then (Ok a) f g = refl
then_then (Err e) f g = refl

-- what is found below a frame that was pushed with a type
pub below : (sig : List Declaration) (fs : List Frame) (f : Frame) (l : List Lp) (x : Lp) (t : Term) (n : ℕ) → resumed (fs ++ (f ∷ [])) (find_at sig (l ++ (x ∷ [])) t n) ≡ resumed fs (and_then ((read sig t).find (term_of x ∷ context_of l) n) (continued f))
below sig fs f l x t n = resumed_last fs f (find_at sig (l ++ (x ∷ [])) t n) ∙ ap (λ d. resumed fs (and_then ((read sig t).find d n) (continued f))) (context_last l x)

pub lambda_down : (sig : List Declaration) (fs : List Frame) (l : List Lp) (a t : Term) (x : Lp) (k : ℕ) → Ok (term_of x) ≡ check_at sig l a (k + 1) → resumed (fs ++ (Body k x ∷ [])) (find_at sig (l ++ (x ∷ [])) t (k + 1 + node_count a)) ≡ resumed fs (find_at sig l (lam a t) k)
lambda_down sig fs l a t x k e =
    below sig fs (Body k x) l x t (k + 1 + node_count a) ∙ ap (λ c. resumed fs (and_then c (λ y. and_then ((read sig t).find (y ∷ context_of l) (k + 1 + node_count a)) (lambda_found k y)))) e

pub lambda_stop : (sig : List Declaration) (fs : List Frame) (l : List Lp) (a t : Term) (f : Fault) (k : ℕ) → Err f ≡ check_at sig l a (k + 1) → resumed fs (Err f) ≡ resumed fs (find_at sig l (lam a t) k)
lambda_stop sig fs l a t f k e = ap (λ c. resumed fs (and_then c (λ y. and_then ((read sig t).find (y ∷ context_of l) (k + 1 + node_count a)) (lambda_found k y)))) e

-- a let, from its argument's value
module _ (sig : List Declaration) (fs : List Frame) (l : List Lp) (a t u : Term) (k : ℕ) where
  -- what is found once the domain is known
  abbrev pub bound : Term → Result Term Fault
  bound x = and_then (find_at sig l u (k + 1 + node_count (lam a t))) (argument_in (length (context_of l)) (k + 1 + node_count (lam a t)) x)

  abbrev inner : Term → Term → Result Typing Fault
  inner x w = and_then ((read sig t).find (x ∷ context_of l) (k + 2 + node_count a)) (let_found k x w)

  let_of_bound : (x : Term) → Ok x ≡ check_at sig l a (k + 2) → resumed fs (and_then (bound x) (inner x)) ≡ resumed fs (find_at sig l (app (lam a t) u) k)
  let_of_bound x e =
      ap (resumed fs) (then_then (find_at sig l u (k + 1 + node_count (lam a t))) (argument_in (length (context_of l)) (k + 1 + node_count (lam a t)) x) (inner x)) ∙
      ap (λ c. resumed fs (and_then c (λ y. and_then (find_at sig l u (k + 1 + node_count (lam a t))) (λ r. and_then (argument_in (length (context_of l)) (k + 1 + node_count (lam a t)) y r) (inner y))))) e

  pub let_down : (x w : Lp) → Ok (term_of x) ≡ check_at sig l a (k + 2) → Ok (term_of w) ≡ bound (term_of x) → resumed (fs ++ (Within k x w ∷ [])) (find_at sig (l ++ (x ∷ [])) t (k + 2 + node_count a)) ≡ resumed fs (find_at sig l (app (lam a t) u) k)
  let_down x w e h =
      below sig fs (Within k x w) l x t (k + 2 + node_count a) ∙ ap (λ c. resumed fs (and_then c (inner (term_of x)))) h ∙ let_of_bound (term_of x) e

  pub let_stop : (f : Fault) → Err f ≡ check_at sig l a (k + 2) → resumed fs (Err f) ≡ resumed fs (find_at sig l (app (lam a t) u) k)
  let_stop f e = ap (λ c. resumed fs (and_then c (λ y. and_then (find_at sig l u (k + 1 + node_count (lam a t))) (λ r. and_then (argument_in (length (context_of l)) (k + 1 + node_count (lam a t)) y r) (inner y))))) e

  pub let_bound_stop : (x : Term) (f : Fault) → Ok x ≡ check_at sig l a (k + 2) → Err f ≡ bound x → resumed fs (Err f) ≡ resumed fs (find_at sig l (app (lam a t) u) k)
  let_bound_stop x f e h = ap (λ c. resumed fs (and_then c (inner x))) h ∙ let_of_bound x e

-- a last argument
pub argument_down : (sig : List Declaration) (fs : List Frame) (l : List Lp) (of u : Term) (v a b : Lp) (c k level : ℕ) (f : Fault) → level ≡ length l → pi (term_of a) (term_of b) ≡ opened of → resumed (fs ++ (Last k (k + 1 + c) level v a b ∷ [])) (find_at sig l u (k + 1 + c)) ≡ resumed fs (product_or (opened of) (find_argument (read sig u) c (context_of l) k (term_of v)) f)
argument_down sig fs l of u v a b c k level f i e =
    resumed_last fs (Last k (k + 1 + c) level v a b) (find_at sig l u (k + 1 + c)) ∙
    ap (λ n. resumed fs (and_then (find_at sig l u (k + 1 + c)) (last_found k (k + 1 + c) n (term_of v) (term_of a) (term_of b)))) (i ∙ sym (context_length l)) ∙
    ap (λ p. resumed fs (product_or p (find_argument (read sig u) c (context_of l) k (term_of v)) f)) e
