-- What the steps of the loop along a right spine rest on.
use Rattle.std.proofs.Common.{◌≡◌, ℕ, zero, suc, ◌+◌, ◌<◌, ◌≤◌, List, [], ◌∷◌, ◌++◌, Bool, true, false, if◌then◌else◌, Option, Some, None, MatchOption, Result, Ok, Err, length, get_or, refl, sym, ap, ap₂, ◌∙◌, append-nil, length-append, arith}
use Rattle.std.specs.Borrow.{Bor}
use Rattle.lp_term.specs.LambdaPi.{Term, type, kind, con, pat, lam, app, pi, var, shift, rename}
use Rattle.lp_term.specs.View.{term_of}
use Rattle.lp_term.specs.declared.lp.Lp.{Lp, Var}
use Rattle.lp_term.specs.Substitution.{lifted}
use Rattle.lp_term.proofs.ViewLaws.{view_Var}
use Rattle.lp_kernel.specs.declared.finding.Frame.{Frame}
use Rattle.lp_kernel.specs.declared.finding.Frame.TheVariants.{Body, Within, Last}
use Rattle.lp_kernel.specs.declared.finding.Step.TheVariants.{Down, Stop}
use Rattle.lp_kernel.specs.declared.finding.Finding.TheVariants.{Refused}
use Rattle.lp_kernel.specs.declared.finding.Refusal.TheVariants.{IllTyped}
use Rattle.lp_kernel.specs.declared.fault.Want.TheVariants.{Product}
use Rattle.lp_term.specs.Typing.{Declaration}
use Rattle.lp_exact.specs.declared.word.Word.{Word}
use Rattle.lp_exact.specs.declared.word.Word.TheVariants.{Individuals, Propositions, Prf}
use Rattle.lp_exact.specs.Words.{word_of}
use Rattle.lp_exact.specs.LazyTypes.{full}
use Rattle.lp_exact.specs.Layers.{opened}
use Rattle.lp_exact.specs.Normalisation.{put_at, apply_at}
use Rattle.lp_exact.specs.Objects.{simple_of}
use Rattle.lp_kernel.specs.LazyJudgement.{kept, rank_of}
use Rattle.lp_kernel.specs.Checking.{a_sort, node_count, check_prf, no_sort, read_symbol, find_applied, Typing, typing, Fault, ill_typed, out_of_fragment, a_product, and_then, or_fault, type_at, raised_one, read, is_allowed, product_or, find_argument, applied_to}
use Rattle.lp_kernel.specs.Walking.{argument_in, check_at, word_at_term, resumed, turned, context_of, find_at, IsExtended, HasStepped}
use Rattle.lp_kernel.proofs.FrameLaws.{lambda_down, let_down, same_chosen, argument_down, context_length}
use Rattle.lp_exact.proofs.PlaceLaws.{lifted_all, rename_same, plus_zero, plus_suc}
use Rattle.lp_term.proofs.SubstitutionLaws.{ext, rename_rename}

-- ---- the context cut

split : (base e new : List Lp) (x : Lp) → length base < length (new ++ (x ∷ [])) → base ++ e ≡ new ++ (x ∷ []) → IsExtended base new
split [] e new x h i = (new, refl)
split (b ∷ base) e [] x h i = absurd (omega arith)
split (b ∷ base) e (n ∷ new) x h i =
    let t : base ++ e ≡ new ++ (x ∷ []) = cc in
    let a : n ≡ b = cc in
    let r = split base e new x (omega arith) t in
    (r.0, ap₂ (λ y l. y ∷ l) a r.1)

pub cut_one : (base e old new : List Lp) (r : Option Lp) → length base < length old → old ≡ base ++ e → MatchOption r ((old ≡ []) × (new ≡ [])) (λ x. old ≡ new ++ (x ∷ [])) → IsExtended base new
cut_one base e old new None h i m = let z = ap length m.0 in absurd (omega (arith, z))
cut_one base e old new (Some x) h i m = let z = ap length m in split base e new x (omega (arith, z)) (sym i ∙ m)

pub cut_done : (base e l : List Lp) → length l ≤ length base → l ≡ base ++ e → l ≡ base
cut_done base [] l h i = i ∙ append-nil base
cut_done base (x ∷ e) l h i = let z = ap length i in let y = length-append base (x ∷ e) in absurd (omega (arith, z, y))

-- ---- an application's answer

pub applied_found : (k r n : ℕ) (v a b w of value : Term) → is_allowed (simple_of a) (simple_of b) ≡ true → r ≡ rank_of (simple_of a) → n ≡ r + 1 → of ≡ put_at r w b → value ≡ kept (simple_of b) (apply_at n v w) → Ok (typing of value) ≡ applied_to k v a b w
applied_found k r n v a b w of value h e f i j =
    let g : n ≡ suc (rank_of (simple_of a)) = omega (arith, e, f) in
    ap₂ (λ x y. Ok (typing x y)) (i ∙ ap (λ q. put_at q w b) e) (j ∙ ap (λ q. kept (simple_of b) (apply_at q v w)) g) ∙
    sym (same_chosen (is_allowed (simple_of a) (simple_of b)) (Ok (typing (put_at (rank_of (simple_of a)) w b) (kept (simple_of b) (apply_at (suc (rank_of (simple_of a))) v w)))) (Err (out_of_fragment k)) h)

-- ---- last arguments

pub argument_steps : (z : ℕ) (sig : List Declaration) (fs : List Frame) (l : List Lp) (of : Term) (u : Bor Lp) (v a b : Lp) (c k n level : ℕ) (f : Fault) (gs : List Frame) → level ≡ length l → pi (term_of a) (term_of b) ≡ opened of → n ≡ k + 1 + c → gs ≡ fs ++ (Last k n level v a b ∷ []) →
    HasStepped sig fs l (product_or (opened of) (find_argument (read sig (term_of u.now)) c (context_of l) k (term_of v)) f) gs l (Down u n z)
argument_steps z sig fs l of u v a b c k n level f gs i e h g = record {
  same = ap (λ x. resumed x (find_at sig l (term_of u.now) n)) g ∙ ap (λ m. resumed (fs ++ (Last k m level v a b ∷ [])) (find_at sig l (term_of u.now) m)) h ∙ argument_down sig fs l of (term_of u.now) v a b c k level f i e;
  context = ([], sym (append-nil l));
}

product_none : (t : Term) (g : Term → Term → Result Typing Fault) (f : Fault) → ((x y : Term) → t ≡ pi x y → ⊥) → product_or t g f ≡ Err f
product_none (pi a b) g f h = absurd (h a b refl)
product_none t g f h = refl

pub argument_stops : (sig : List Declaration) (fs : List Frame) (l : List Lp) (of : Term) (u : Bor Lp) (v : Lp) (c k n level : ℕ) (found : Lp) → ((x y : Term) → opened of ≡ pi x y → ⊥) → level ≡ length l → n ≡ k + 1 → term_of found ≡ full of →
    HasStepped sig fs l (product_or (opened of) (find_argument (read sig (term_of u.now)) c (context_of l) k (term_of v)) (ill_typed (k + 1) a_product (full of) (length (context_of l)))) fs l (Stop (Refused (IllTyped n Product found level)))
argument_stops sig fs l of u v c k n level found h i e j = record {
  same = ap (λ x. resumed fs (Err (ill_typed x a_product (term_of found) level))) e ∙ ap₂ (λ x y. resumed fs (Err (ill_typed (k + 1) a_product x y))) j (i ∙ sym (context_length l)) ∙ ap (resumed fs) (sym (product_none (opened of) _ _ h));
  context = ([], sym (append-nil l));
}

-- ---- variables

past : (d : List Term) (n : ℕ) → length d ≤ n → type_at d n ≡ None
past [] n h = refl
past (a ∷ d) zero h = absurd (omega arith)
past (a ∷ d) (suc n) h = ap raised_one (past d n (omega arith))

pub variable_past : (l : List Lp) (n k : ℕ) → length l ≤ n → Err (out_of_fragment k) ≡ and_then (or_fault (type_at (context_of l) n) (out_of_fragment k)) (λ a. Ok (typing a (var n)))
variable_past l n k h = let z = context_length l in ap (λ o. and_then (or_fault o (out_of_fragment k)) (λ a. Ok (typing a (var n)))) (sym (past (context_of l) n (omega (arith, z))))

raise : ℕ → Option Term → Option Term
raise zero o = o
raise (suc k) o = raised_one (raise k o)

raise_one : (k : ℕ) (o : Option Term) → raise k (raised_one o) ≡ raised_one (raise k o)
unfolding raise
raise_one zero o = refl
raise_one (suc k) o = ap raised_one (raise_one k o)

turned_past : (l : List Lp) (d : List Term) (m n : ℕ) → n ≡ length l + m → type_at (turned l d) n ≡ raise (length l) (type_at d m)
unfolding raise
turned_past [] d m n e = let h : n ≡ m = omega (arith, e) in ap (type_at d) h
turned_past (a ∷ l) d m n e = turned_past l (term_of a ∷ d) (suc m) n (omega arith) ∙ raise_one (length l) (type_at d m)

turned_at : (l : List Lp) (d : List Term) (n i : ℕ) (x : Lp) → i + n + 1 ≡ length l → x ≡ get_or l i x → type_at (turned l d) n ≡ raise (suc n) (Some (term_of x))
unfolding raise
turned_at [] d n i x e h = absurd (omega arith)
turned_at (a ∷ l) d n zero x e h =
    let g : length l ≡ n = omega arith in
    turned_past l (term_of a ∷ d) zero n (omega arith) ∙ ap (λ k. raise k (Some (shift (term_of a)))) g ∙ ap (λ y. raise n (Some (shift (term_of y)))) (sym h) ∙ raise_one n (Some (term_of x))
turned_at (a ∷ l) d n (suc i) x e h = turned_at l (term_of a ∷ d) n i x (omega arith) h

renamed_next : (k : ℕ) (t : Term) → rename (λ m. m + suc k) t ≡ shift (rename (λ m. m + k) t)
renamed_next k t = sym (rename_rename t (λ n. suc n) (λ m. m + k) ∙ ap (λ f. rename f t) (ext (plus_suc k)))

renamed_none : (t : Term) → rename (λ m. m + 0) t ≡ t
renamed_none t = sym (ap (λ f. rename f t) (ext plus_zero)) ∙ rename_same t

raised_is : (k : ℕ) (t : Term) → raise k (Some t) ≡ Some (rename (λ m. m + k) t)
unfolding raise
raised_is zero t = ap Some (sym (renamed_none t))
raised_is (suc k) t = ap raised_one (raised_is k t) ∙ ap Some (sym (renamed_next k t))

pub variable_found : (l : List Lp) (n k up i : ℕ) (x r : Lp) → i + n + 1 ≡ length l → up ≡ n + 1 → x ≡ get_or l i x → r ≡ lifted up x 0 → Ok (typing (term_of r) (term_of (Var n))) ≡ and_then (or_fault (type_at (context_of l) n) (out_of_fragment k)) (λ a. Ok (typing a (var n)))
variable_found l n k up i x r e f h g =
    let s : up ≡ suc n = omega (arith, f) in
    ap₂ (λ a v. Ok (typing a v)) (ap term_of g ∙ lifted_all x up ∙ ap (λ q. rename (λ m. m + q) (term_of x)) s) (view_Var n) ∙
    ap (λ o. and_then (or_fault o (out_of_fragment k)) (λ a. Ok (typing a (var n)))) (sym (turned_at l [] n i x e h ∙ raised_is (suc n) (term_of x)))

-- ---- abstractions and lets

pub lambda_steps : (z : ℕ) (sig : List Declaration) (fs : List Frame) (l : List Lp) (a : Term) (b : Bor Lp) (x : Lp) (k n : ℕ) (gs : List Frame) (m old : List Lp) → old ≡ l → Ok (term_of x) ≡ check_at sig l a (k + 1) → n ≡ k + 1 + node_count a → gs ≡ fs ++ (Body k x ∷ []) → m ≡ old ++ (x ∷ []) →
    HasStepped sig fs l (find_at sig l (lam a (term_of b.now)) k) gs m (Down b n z)
lambda_steps z sig fs l a b x k n gs m old o e h g i =
    let j : m ≡ l ++ (x ∷ []) = i ∙ ap (λ q. q ++ (x ∷ [])) o in
    let t = term_of b.now in
    record {
      same = ap (λ q. resumed q (find_at sig m t n)) g ∙ ap (λ q. resumed (fs ++ (Body k x ∷ [])) (find_at sig q t n)) j ∙ ap (λ q. resumed (fs ++ (Body k x ∷ [])) (find_at sig (l ++ (x ∷ [])) t q)) h ∙ lambda_down sig fs l a t x k e;
      context = (x ∷ [], j);
    }

pub let_steps : (fin : ℕ) (sig : List Declaration) (fs : List Frame) (l : List Lp) (a : Term) (b : Bor Lp) (u : Term) (x w : Lp) (k n at : ℕ) (gs : List Frame) (m old older : List Lp) → older ≡ l → old ≡ older → Ok (term_of x) ≡ check_at sig l a (k + 2) → at ≡ k + 1 + (1 + node_count a + node_count (term_of b.now)) →
    Ok (term_of w) ≡ and_then (find_at sig older u at) (argument_in (length (context_of older)) at (term_of x)) → n ≡ k + 2 + node_count a → gs ≡ fs ++ (Within k x w ∷ []) → m ≡ old ++ (x ∷ []) →
    HasStepped sig fs l (find_at sig l (app (lam a (term_of b.now)) u) k) gs m (Down b n fin)
let_steps fin sig fs l a b u x w k n at gs m old older o p e y z h g i =
    let j : m ≡ l ++ (x ∷ []) = i ∙ ap (λ q. q ++ (x ∷ [])) (p ∙ o) in
    let t = term_of b.now in
    let v : Ok (term_of w) ≡ and_then (find_at sig l u (k + 1 + (1 + node_count a + node_count t))) (argument_in (length (context_of l)) (k + 1 + (1 + node_count a + node_count t)) (term_of x)) =
    z ∙ ap (λ q. and_then (find_at sig q u at) (argument_in (length (context_of q)) at (term_of x))) o ∙ ap (λ q. and_then (find_at sig l u q) (argument_in (length (context_of l)) q (term_of x))) y in
    record {
      same = ap (λ q. resumed q (find_at sig m t n)) g ∙ ap (λ q. resumed (fs ++ (Within k x w ∷ [])) (find_at sig q t n)) j ∙ ap (λ q. resumed (fs ++ (Within k x w ∷ [])) (find_at sig (l ++ (x ∷ [])) t q)) h ∙ let_down sig fs l a t u k x w e v;
      context = (x ∷ [], j);
    }

-- ---- what is no type

pub none_found : (sig : List Declaration) (l other : List Lp) (t : Term) (k level : ℕ) (of v found : Term) → Ok (typing of v) ≡ find_at sig l t k → found ≡ full of → level ≡ length other → other ≡ l → ◌≡◌ {A = Result Term Fault} (Err (ill_typed k a_sort found level)) (and_then (find_at sig l t k) (λ s. Err (ill_typed k a_sort (full s.of) (length (context_of l)))))
none_found sig l other t k level of v found e h i j =
    ap₂ (λ x n. Err (ill_typed k a_sort x n)) h (i ∙ ap length j ∙ sym (context_length l)) ∙ ap (λ r. and_then r (λ s. Err (ill_typed k a_sort (full s.of) (length (context_of l))))) e

pub argument_bound : (sig : List Declaration) (l other : List Lp) (u x : Term) (k level : ℕ) (of v : Term) → Ok (typing of v) ≡ find_at sig l u k → level ≡ length other → other ≡ l → argument_in level k x (typing of v) ≡ and_then (find_at sig l u k) (argument_in (length (context_of l)) k x)
argument_bound sig l other u x k level of v e i j =
    ap (λ n. argument_in n k x (typing of v)) (i ∙ ap length j ∙ sym (context_length l)) ∙ ap (λ r. and_then r (argument_in (length (context_of l)) k x)) e

plain_word : (sig : List Declaration) (w : Word) (x : List ℕ) → (w ≡ Individuals → ⊥) → (w ≡ Propositions → ⊥) → (d : List Term) (k : ℕ) → (read_symbol sig w x).check d k ≡ no_sort ((read_symbol sig w x).find) d k
plain_word sig Individuals x h i d k = absurd (h refl)
plain_word sig Propositions x h i d k = absurd (i refl)
plain_word sig w x h i d k = refl

pub plain_symbol : (sig : List Declaration) (l : List Lp) (t : Term) (x : List ℕ) (k : ℕ) → t ≡ con x → (word_of x ≡ Individuals → ⊥) → (word_of x ≡ Propositions → ⊥) → and_then (find_at sig l t k) (λ s. Err (ill_typed k a_sort (full s.of) (length (context_of l)))) ≡ check_at sig l t k
plain_symbol sig l t x k e h i =
    ap (λ y. and_then (find_at sig l y k) (λ s. Err (ill_typed k a_sort (full s.of) (length (context_of l))))) e ∙ sym (plain_word sig (word_of x) x h i (context_of l) k) ∙ ap (λ y. check_at sig l y k) (sym e)

word_no_prf : (sig : List Declaration) (w : Word) (x : List ℕ) → (w ≡ Prf → ⊥) → (read_symbol sig w x).is_prf ≡ false
word_no_prf sig Individuals x h = refl
word_no_prf sig Propositions x h = refl
word_no_prf sig Prf x h = absurd (h refl)
word_no_prf sig w x h = refl

no_prf : (sig : List Declaration) (f : Term) → (word_at_term f ≡ Prf → ⊥) → (read sig f).is_prf ≡ false
no_prf sig (con x) h = word_no_prf sig (word_of x) x h
no_prf sig type h = refl
no_prf sig kind h = refl
no_prf sig (pat x) h = refl
no_prf sig (var n) h = refl
no_prf sig (app t u) h = refl
no_prf sig (lam a t) h = refl
no_prf sig (pi a b) h = refl

chosen_check : (b : Bool) (f g : List Term → ℕ → Result Term Fault) (d : List Term) (k : ℕ) → b ≡ false → g d k ≡ (if b then f else g) d k
chosen_check true f g d k e = cc
chosen_check false f g d k e = refl

pub plain_applied : (sig : List Declaration) (l : List Lp) (t f u : Term) (k : ℕ) → t ≡ app f u → (word_at_term f ≡ Prf → ⊥) → and_then (find_at sig l t k) (λ s. Err (ill_typed k a_sort (full s.of) (length (context_of l)))) ≡ check_at sig l t k
plain_applied sig l t f u k e h =
    let s = sig in
    ap (λ y. and_then (find_at sig l y k) (λ s. Err (ill_typed k a_sort (full s.of) (length (context_of l))))) e ∙
    chosen_check ((read s f).is_prf) (check_prf (read s u)) (no_sort (find_applied ((read s f).parts) (read s f) (read s u) (node_count f))) (context_of l) k (no_prf s f h) ∙
    ap (λ y. check_at sig l y k) (sym e)

pub plain_lambda : (sig : List Declaration) (l : List Lp) (t a u : Term) (k : ℕ) → t ≡ lam a u → and_then (find_at sig l t k) (λ s. Err (ill_typed k a_sort (full s.of) (length (context_of l)))) ≡ check_at sig l t k
plain_lambda sig l t a u k e =
    ap (λ y. and_then (find_at sig l y k) (λ s. Err (ill_typed k a_sort (full s.of) (length (context_of l))))) e ∙ ap (λ y. check_at sig l y k) (sym e)
