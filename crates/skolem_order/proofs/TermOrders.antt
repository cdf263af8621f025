-- The order of terms is total, and ties no two terms whose symbols are functions.
use Rattle.std.proofs.Common.{◌≡◌, ℕ, zero, suc, ◌+◌, ◌≤◌, List, [], ◌∷◌, map, refl, sym, ap, ap₂, ◌∙◌, arith, rules}
use Rattle.std.specs.Cmp.{IsTotalOrder}
use Rattle.std.specs.Cmp.Derive.{point_total}
use Rattle.std.specs.Cmp.Lexicographic.{slice_cmp}
use Rattle.std.specs.List.{Contains}
use Rattle.std.specs.Ordering.{nat_cmp, on, ordering_reverse, ordering_then, then_cmp}
use Rattle.std.specs.declared.cmp.Ordering.{Ordering}
use Rattle.std.specs.declared.cmp.Ordering.TheVariants.{Equal, Greater, Less}
use Rattle.std.proofs.lemmas.Cmp.{lists_total, nat_cmp_total, nat_list_cmp_total, on_total, then_total}
use Rattle.std.proofs.lemmas.Map.Lookups.{exact_bytes, exact_unsigned}
use Rattle.dk_syntax.proofs.ListLaws.{ForEach}
use Rattle.dk_syntax.proofs.TermLaws.{depth-Any, depth-App, depth-Var, term_induction}
use Rattle.dk_syntax.specs.Depth.{greatest, term_depth_of}
use Rattle.dk_syntax.specs.Order.{compared, head_order, order_of}
use Rattle.dk_syntax.specs.declared.Kind.TheVariants.{Function}
use Rattle.dk_syntax.specs.declared.SymKey.{SymKey}
use Rattle.dk_syntax.specs.declared.Term.{Any, App, Term, Term-F, Var, out-Term, the_lemmas as of_terms}
use Rattle.dk_syntax.specs.declared.Term.TheOpen as layer
use Rattle.skolem_order.proofs.ListFacts.{contains_first, contains_rest}
use Rattle.skolem_order.specs.Order.{IsPart, in_argument, itself}
use Rattle.skolem_order.specs.Origins.{args_of}

-- ---- what terms are compared by

abbrev kind_at : Term-F Term → ℕ
kind_at layer.Any = 0
kind_at (layer.Var n) = 1
kind_at (layer.App f args) = 2

abbrev number_at : Term-F Term → ℕ
number_at layer.Any = 0
number_at (layer.Var n) = n
number_at (layer.App f args) = 0

abbrev name_at : Term-F Term → List ℕ
name_at layer.Any = []
name_at (layer.Var n) = []
name_at (layer.App f args) = f.name

abbrev arity_at : Term-F Term → ℕ
arity_at layer.Any = 0
arity_at (layer.Var n) = 0
arity_at (layer.App f args) = f.arity

abbrev by_kind : Term → Term → Ordering
by_kind = on (λ t. kind_at (out-Term t)) nat_cmp

abbrev by_number : Term → Term → Ordering
by_number = on (λ t. number_at (out-Term t)) nat_cmp

abbrev by_head : Term → Term → Ordering
by_head = then_cmp (on (λ t. name_at (out-Term t)) (slice_cmp nat_cmp)) (on (λ t. arity_at (out-Term t)) nat_cmp)

-- terms compared down to a depth
abbrev upto : ℕ → Term → Term → Ordering
upto zero = λ x y. Equal
upto (suc n) = then_cmp by_kind (then_cmp by_number (then_cmp by_head (on args_of (slice_cmp (upto n)))))

upto_total : (n : ℕ) → IsTotalOrder (upto n)
upto_total zero = point_total
upto_total (suc n) =
    then_total (on_total (λ t. kind_at (out-Term t)) nat_cmp_total) (then_total (on_total (λ t. number_at (out-Term t)) nat_cmp_total)
    (then_total (then_total (on_total (λ t. name_at (out-Term t)) nat_list_cmp_total) (on_total (λ t. arity_at (out-Term t)) nat_cmp_total))
    (on_total args_of (lists_total (upto_total n)))))

-- ---- the order of terms is that

then_equal : (a : Ordering) → ordering_then a Equal ≡ a
then_equal Less = refl
then_equal Equal = refl
then_equal Greater = refl

depth_some : (t : Term) → 1 ≤ term_depth_of t
depth_some = term_induction (λ t. 1 ≤ term_depth_of t) (λ n. omega (arith, depth-Var n)) (λ f args h. omega (arith, depth-App f args)) (omega (arith, depth-Any))

-- a term is a variable, an application or Any
cases_term : (P : Term → Type 0) → ((n : ℕ) → P (Var n)) → ((f : SymKey) (args : List Term) → P (App f args)) → P Any → (t : Term) → P t
cases_term P at_var at_app at_any = term_induction P at_var (λ f args h. at_app f args) at_any

-- what a term's order is down to a depth
abbrev Agrees : Term → Type 0
Agrees x = (n : ℕ) → term_depth_of x ≤ suc n → (y : Term) → order_of x y ≡ upto (suc n) x y

one_agrees : (x : Term) → Agrees x → (n : ℕ) → term_depth_of x ≤ n → (y : Term) → order_of x y ≡ upto n x y
one_agrees x h zero d y = absurd (let s : 1 ≤ term_depth_of x = depth_some x in let n : ⊥ = omega (arith, s, d) in n)
one_agrees x h (suc n) d y = h n d y

lists_agree : (n : ℕ) (xs : List Term) → ForEach Agrees xs → greatest (map term_depth_of xs) ≤ n → (ys : List Term) → slice_cmp compared (map order_of xs) ys ≡ slice_cmp (upto n) xs ys
lists_agree n [] h d [] = refl
lists_agree n [] h d (y ∷ ys) = refl
lists_agree n (x ∷ xs) h d [] = refl
lists_agree n (x ∷ xs) h d (y ∷ ys) =
    let first : term_depth_of x ≤ n = omega (arith, d) in
    let rest : greatest (map term_depth_of xs) ≤ n = omega (arith, d) in
    ap₂ ordering_then (one_agrees x h.0 n first y) (lists_agree n xs h.1 rest ys)

var_var : (i j n : ℕ) → order_of (Var i) (Var j) ≡ upto (suc n) (Var i) (Var j)
var_var i j n =
    let a : order_of (Var i) (Var j) ≡ nat_cmp i j = search (rules, of_terms) in
    let b : upto (suc n) (Var i) (Var j) ≡ ordering_then (nat_cmp i j) Equal = search (rules, of_terms) in
    a ∙ sym (then_equal (nat_cmp i j)) ∙ sym b

var_app : (i n : ℕ) (g : SymKey) (ys : List Term) → order_of (Var i) (App g ys) ≡ upto (suc n) (Var i) (App g ys)
var_app i n g ys =
    let a : order_of (Var i) (App g ys) ≡ Less = search (rules, of_terms) in
    let b : upto (suc n) (Var i) (App g ys) ≡ Less = search (rules, of_terms) in a ∙ sym b

var_any : (i n : ℕ) → order_of (Var i) Any ≡ upto (suc n) (Var i) Any
var_any i n =
    let a : order_of (Var i) Any ≡ Greater = search (rules, of_terms) in
    let b : upto (suc n) (Var i) Any ≡ Greater = search (rules, of_terms) in a ∙ sym b

any_var : (j n : ℕ) → order_of Any (Var j) ≡ upto (suc n) Any (Var j)
any_var j n =
    let a : order_of Any (Var j) ≡ Less = search (rules, of_terms) in
    let b : upto (suc n) Any (Var j) ≡ Less = search (rules, of_terms) in a ∙ sym b

any_app : (n : ℕ) (g : SymKey) (ys : List Term) → order_of Any (App g ys) ≡ upto (suc n) Any (App g ys)
any_app n g ys =
    let a : order_of Any (App g ys) ≡ Less = search (rules, of_terms) in
    let b : upto (suc n) Any (App g ys) ≡ Less = search (rules, of_terms) in a ∙ sym b

any_any : (n : ℕ) → order_of Any Any ≡ upto (suc n) Any Any
any_any n =
    let a : order_of Any Any ≡ Equal = search (rules, of_terms) in
    let b : upto (suc n) Any Any ≡ Equal = search (rules, of_terms) in a ∙ sym b

app_var : (f : SymKey) (xs : List Term) (j n : ℕ) → order_of (App f xs) (Var j) ≡ upto (suc n) (App f xs) (Var j)
app_var f xs j n =
    let a : order_of (App f xs) (Var j) ≡ Greater = search (rules, of_terms) in
    let b : upto (suc n) (App f xs) (Var j) ≡ Greater = search (rules, of_terms) in a ∙ sym b

app_any : (f : SymKey) (xs : List Term) (n : ℕ) → order_of (App f xs) Any ≡ upto (suc n) (App f xs) Any
app_any f xs n =
    let a : order_of (App f xs) Any ≡ Greater = search (rules, of_terms) in
    let b : upto (suc n) (App f xs) Any ≡ Greater = search (rules, of_terms) in a ∙ sym b

app_app : (f : SymKey) (xs : List Term) (g : SymKey) (ys : List Term) (n : ℕ) → slice_cmp compared (map order_of xs) ys ≡ slice_cmp (upto n) xs ys
    → order_of (App f xs) (App g ys) ≡ upto (suc n) (App f xs) (App g ys)
app_app f xs g ys n h =
    let a : order_of (App f xs) (App g ys) ≡ ordering_then (head_order f g) (slice_cmp compared (map order_of xs) ys) = search (rules, of_terms) in
    let b : upto (suc n) (App f xs) (App g ys) ≡ ordering_then (head_order f g) (slice_cmp (upto n) xs ys) = search (rules, of_terms) in
    a ∙ ap (ordering_then (head_order f g)) h ∙ sym b

agrees : (x : Term) → Agrees x
agrees = term_induction Agrees
    (λ i n d. cases_term (λ y. order_of (Var i) y ≡ upto (suc n) (Var i) y) (λ j. var_var i j n) (λ g ys. var_app i n g ys) (var_any i n))
    (λ f xs h n d. cases_term (λ y. order_of (App f xs) y ≡ upto (suc n) (App f xs) y) (λ j. app_var f xs j n)
    (λ g ys. app_app f xs g ys n (lists_agree n xs h (let e : greatest (map term_depth_of xs) ≤ n = omega (arith, depth-App f xs, d) in e) ys)) (app_any f xs n))
    (λ n d. cases_term (λ y. order_of Any y ≡ upto (suc n) Any y) (λ j. any_var j n) (λ g ys. any_app n g ys) (any_any n))

at : (n : ℕ) (x y : Term) → term_depth_of x ≤ suc n → order_of x y ≡ upto (suc n) x y
at n x y h = agrees x n h y

pub order_total : IsTotalOrder order_of
order_total = record {
  antisymm = λ x y.
      let n = term_depth_of x + term_depth_of y in
      at n x y (omega arith) ∙ (upto_total (suc n)).antisymm x y ∙ ap ordering_reverse (sym (at n y x (omega arith)));
  trans = λ x y z h k.
      let n = term_depth_of x + term_depth_of y in
      at n x z (omega arith) ∙ (upto_total (suc n)).trans x y z (sym (at n x y (omega arith)) ∙ h) (sym (at n y z (omega arith)) ∙ k);
  congr = λ x y z h.
      let n = term_depth_of x + term_depth_of y in
      at n x z (omega arith) ∙ (upto_total (suc n)).congr x y z (sym (at n x y (omega arith)) ∙ h) ∙ sym (at n y z (omega arith));
}

-- ---- terms of functions that are tied are one

-- each symbol of the term is a function
abbrev pub HasFunctions : Term → Type 0
HasFunctions t = (f : SymKey) (args : List Term) → IsPart (App f args) t → f.kind ≡ Function

less_not : Less ≡ Equal → ⊥
less_not e = cc

greater_not : Greater ≡ Equal → ⊥
greater_not e = cc

pub both_tied : (a b : Ordering) → ordering_then a b ≡ Equal → (a ≡ Equal) × (b ≡ Equal)
both_tied Less b e = absurd (less_not e)
both_tied Equal b e = (refl, e)
both_tied Greater b e = absurd (greater_not e)

heads_tied : (f g : SymKey) → head_order f g ≡ Equal → f.kind ≡ g.kind → f ≡ g
heads_tied f g h k =
    let w = both_tied (slice_cmp nat_cmp f.name g.name) (nat_cmp f.arity g.arity) h in
    let n : f.name ≡ g.name = exact_bytes f.name g.name w.0 in
    let a : f.arity ≡ g.arity = exact_unsigned f.arity g.arity w.1 in
    λ i. record { name = n i; arity = a i; kind = k i }

abbrev IsApart : Term → Type 0
IsApart x = (y : Term) → HasFunctions x → HasFunctions y → order_of x y ≡ Equal → x ≡ y

var_apart : (i : ℕ) → IsApart (Var i)
var_apart i = cases_term (λ y. HasFunctions (Var i) → HasFunctions y → order_of (Var i) y ≡ Equal → Var i ≡ y)
    (λ j hx hy e. let a : order_of (Var i) (Var j) ≡ nat_cmp i j = search (rules, of_terms) in ap Var (exact_unsigned i j (sym a ∙ e)))
    (λ g ys hx hy e. let a : order_of (Var i) (App g ys) ≡ Less = search (rules, of_terms) in absurd (less_not (sym a ∙ e)))
    (λ hx hy e. let a : order_of (Var i) Any ≡ Greater = search (rules, of_terms) in absurd (greater_not (sym a ∙ e)))

any_apart : IsApart Any
any_apart = cases_term (λ y. HasFunctions Any → HasFunctions y → order_of Any y ≡ Equal → Any ≡ y)
    (λ j hx hy e. let a : order_of Any (Var j) ≡ Less = search (rules, of_terms) in absurd (less_not (sym a ∙ e)))
    (λ g ys hx hy e. let a : order_of Any (App g ys) ≡ Less = search (rules, of_terms) in absurd (less_not (sym a ∙ e)))
    (λ hx hy e. refl)

lists_apart : (xs ys : List Term) → ForEach IsApart xs → ((x : Term) → Contains xs x → HasFunctions x) → ((y : Term) → Contains ys y → HasFunctions y)
    → slice_cmp compared (map order_of xs) ys ≡ Equal → xs ≡ ys
lists_apart [] [] each hx hy e = refl
lists_apart [] (y ∷ ys) each hx hy e = absurd (less_not e)
lists_apart (x ∷ xs) [] each hx hy e = absurd (greater_not e)
lists_apart (x ∷ xs) (y ∷ ys) each hx hy e =
    let w = both_tied (order_of x y) (slice_cmp compared (map order_of xs) ys) e in
    ap₂ (λ a l. a ∷ l) (each.0 y (hx x (contains_first x xs)) (hy y (contains_first y ys)) w.0)
    (lists_apart xs ys each.1 (λ z c. hx z (contains_rest x xs z c)) (λ z c. hy z (contains_rest y ys z c)) w.1)

app_apart : (f : SymKey) (xs : List Term) → ForEach IsApart xs → IsApart (App f xs)
app_apart f xs each = cases_term (λ y. HasFunctions (App f xs) → HasFunctions y → order_of (App f xs) y ≡ Equal → App f xs ≡ y)
    (λ j hx hy e. let a : order_of (App f xs) (Var j) ≡ Greater = search (rules, of_terms) in absurd (greater_not (sym a ∙ e)))
    (λ g ys hx hy e.
    let a : order_of (App f xs) (App g ys) ≡ ordering_then (head_order f g) (slice_cmp compared (map order_of xs) ys) = search (rules, of_terms) in
    let w = both_tied (head_order f g) (slice_cmp compared (map order_of xs) ys) (sym a ∙ e) in
    ap₂ App (heads_tied f g w.0 (hx f xs itself ∙ sym (hy g ys itself)))
    (lists_apart xs ys each (λ x c h args p. hx h args (in_argument f xs x c p)) (λ y c h args p. hy h args (in_argument g ys y c p)) w.1))
    (λ hx hy e. let a : order_of (App f xs) Any ≡ Greater = search (rules, of_terms) in absurd (greater_not (sym a ∙ e)))

-- two terms whose symbols are functions are one where neither is before the other
pub tied_is_one : (x y : Term) → HasFunctions x → HasFunctions y → order_of x y ≡ Equal → x ≡ y
tied_is_one = term_induction IsApart var_apart (λ f xs each. app_apart f xs each) any_apart
