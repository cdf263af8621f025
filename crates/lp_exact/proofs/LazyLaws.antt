-- The full type of a type opens layer by layer, and is a reduct of it.
use Rattle.std.proofs.Common.{◌≡◌, ℕ, zero, suc, ◌+◌, ◌≤◌, ◌<◌, List, ◌⊎◌, inl, inr, refl, sym, ap, ap₂, ◌∙◌, subst, arith}
use Rattle.lp_term.specs.LambdaPi.{Term, type, kind, con, pat, var, app, lam, pi, rename, under_renaming, shift}
use Rattle.lp_term.specs.Connectives.{arrow, proof_of}
use Rattle.lp_term.proofs.IntroductionRules.{inst_up_var}
use Rattle.lp_exact.specs.declared.word.Word.{Word}
use Rattle.lp_exact.specs.declared.word.Word.TheVariants.{Prf, Imp, And, Or, Iff, Not, Top, Bot, All, Ex}
use Rattle.lp_exact.specs.Words.{word_of}
use Rattle.lp_exact.specs.Layers.{applied_to_bound, body_of, layer_of_constant, layer_of_unary, layer_of_binary, layer_of, opened_word, opened}
use Rattle.lp_exact.specs.LazyTypes.{object_weight, type_weight, in_parts, full_at, full}
use Rattle.lp_exact.specs.ParallelReduction.{root_beta, root_rule, developed_proof, ParallelSteps, no_parallel}
use Rattle.lp_exact.proofs.WordLaws.{IsNamed, named}
use Rattle.lp_exact.proofs.ParallelLaws.{developed_proof_is}
use Rattle.lp_exact.proofs.ConfluenceLaws.{parallels_append, parallels_app, parallels_pi, root_parallels}

-- a renaming keeps the weights
pub object_weight_rename : (t : Term) (r : ℕ → ℕ) → object_weight (rename r t) ≡ object_weight t
object_weight_rename type r = refl
object_weight_rename kind r = refl
object_weight_rename (con x) r = refl
object_weight_rename (pat x) r = refl
object_weight_rename (var n) r = refl
object_weight_rename (app t u) r = ap₂ (λ x y. x + y + y + 1) (object_weight_rename t r) (object_weight_rename u r)
object_weight_rename (lam a t) r = object_weight_rename t (under_renaming r)
object_weight_rename (pi a b) r = refl

type_weight_rename : (t : Term) (r : ℕ → ℕ) → type_weight (rename r t) ≡ type_weight t
type_weight_rename (pi a b) r = ap₂ (λ x y. x + y + 1) (type_weight_rename a r) (type_weight_rename b (under_renaming r))
type_weight_rename (app f o) r = object_weight_rename o r
type_weight_rename type r = refl
type_weight_rename kind r = refl
type_weight_rename (con x) r = refl
type_weight_rename (pat x) r = refl
type_weight_rename (var n) r = refl
type_weight_rename (lam a t) r = refl

-- the weights of the rules' right sides
weight_shift : (t : Term) → object_weight (shift t) ≡ object_weight t
weight_shift t = object_weight_rename t (λ n. suc n)

arrow_weight : (a b : Term) → type_weight (arrow a b) ≡ type_weight a + type_weight b + 1
arrow_weight a b = ap (λ x. type_weight a + x + 1) (type_weight_rename b (λ n. suc n))

proof_weight : (p : Term) → type_weight (proof_of (shift p)) ≡ object_weight p
proof_weight p = weight_shift p

-- ---- a layer is no heavier than what it is of

body_weight : (f : Term) → object_weight (body_of f) ≤ object_weight f + 1
body_weight (lam a t) = omega arith
body_weight (app t u) = omega (arith, weight_shift t, weight_shift u)
body_weight type = omega arith
body_weight kind = omega arith
body_weight (con x) = omega arith
body_weight (pat x) = omega arith
body_weight (var n) = omega arith
body_weight (pi a b) = omega arith

-- a layer is no heavier
constant_weight : (w : Word) (other : Term) → type_weight other ≡ 8 → type_weight (layer_of_constant w other) ≤ 8
constant_weight Bot other e = omega arith
constant_weight Top other e = omega arith
constant_weight _ other e = omega arith

unary_weight : (w : Word) (p other : Term) → type_weight other ≡ 9 + object_weight p + object_weight p → type_weight (layer_of_unary body_of w p other) ≤ 9 + object_weight p + object_weight p
unary_weight Not p other e = omega arith
unary_weight All p other e = omega (arith, body_weight p)
unary_weight Ex p other e = omega (arith, body_weight (shift p), object_weight_rename p (λ n. suc n))
unary_weight _ p other e = omega arith

binary_weight : (w : Word) (p q other : Term) → type_weight other ≡ 10 + object_weight p + object_weight p + object_weight q + object_weight q → type_weight (layer_of_binary w p q other) ≤ 10 + object_weight p + object_weight p + object_weight q + object_weight q
binary_weight Imp p q other e = omega (arith, arrow_weight (proof_of p) (proof_of q))
binary_weight And p q other e =
    let v = proof_of (var 0) in
    let a = arrow_weight (arrow (proof_of (shift p)) (arrow (proof_of (shift q)) v)) v in
    let b = arrow_weight (proof_of (shift p)) (arrow (proof_of (shift q)) v) in
    let c = arrow_weight (proof_of (shift q)) v in
    omega (arith, a, b, c, weight_shift p, weight_shift q)
binary_weight Or p q other e =
    let v = proof_of (var 0) in
    let c = arrow_weight (proof_of (shift q)) v in
    let d = arrow_weight (proof_of (shift p)) v in
    let b = arrow_weight (arrow (proof_of (shift q)) v) v in
    let a = arrow_weight (arrow (proof_of (shift p)) v) (arrow (arrow (proof_of (shift q)) v) v) in
    omega (arith, a, b, c, d, weight_shift p, weight_shift q)
binary_weight Iff p q other e =
    let v = proof_of (var 0) in
    let c = arrow_weight (proof_of (shift q)) (proof_of (shift p)) in
    let d = arrow_weight (proof_of (shift p)) (proof_of (shift q)) in
    let b = arrow_weight (arrow (proof_of (shift q)) (proof_of (shift p))) v in
    let a = arrow_weight (arrow (proof_of (shift p)) (proof_of (shift q))) (arrow (arrow (proof_of (shift q)) (proof_of (shift p))) v) in
    let o = arrow_weight (arrow (arrow (proof_of (shift p)) (proof_of (shift q))) (arrow (arrow (proof_of (shift q)) (proof_of (shift p))) v)) v in
    omega (arith, a, b, c, d, o, weight_shift p, weight_shift q)
binary_weight _ p q other e = omega arith

layer_weight : (o other : Term) → type_weight other ≡ object_weight o → type_weight (layer_of body_of o other) ≤ object_weight o
layer_weight (con x) other e = constant_weight (word_of x) other e
layer_weight (app (con x) p) other e = let h = unary_weight (word_of x) p other (omega arith) in omega (arith, h)
layer_weight (app (app (con x) p) q) other e = let h = binary_weight (word_of x) p q other (omega arith) in omega (arith, h)
layer_weight _ other e = omega arith

word_weight : (w : Word) (x : List ℕ) (o : Term) → type_weight (opened_word w o (app (con x) o)) ≤ object_weight o
word_weight Prf x o = layer_weight o (app (con x) o) refl
word_weight _ x o = omega arith

pub opened_weight : (t : Term) → type_weight (opened t) ≤ type_weight t
opened_weight (app (con x) o) = word_weight (word_of x) x o
opened_weight _ = omega arith

-- ---- a type that is laid open is a product, or stays

-- a type stays, or opens to a product
abbrev StaysOrOpens : Term → Term → Type 0
StaysOrOpens t u = (u ≡ t) ⊎ ((a : Term) × (b : Term) × (u ≡ pi a b))

constant_opens : (w : Word) (other : Term) → StaysOrOpens other (layer_of_constant w other)
constant_opens Bot other = inr (_, _, refl)
constant_opens Top other = inr (_, _, refl)
constant_opens _ other = inl refl

unary_opens : (at : Term → Term) (w : Word) (p other : Term) → StaysOrOpens other (layer_of_unary at w p other)
unary_opens at Not p other = inr (_, _, refl)
unary_opens at All p other = inr (_, _, refl)
unary_opens at Ex p other = inr (_, _, refl)
unary_opens at _ p other = inl refl

binary_opens : (w : Word) (p q other : Term) → StaysOrOpens other (layer_of_binary w p q other)
binary_opens Imp p q other = inr (_, _, refl)
binary_opens And p q other = inr (_, _, refl)
binary_opens Or p q other = inr (_, _, refl)
binary_opens Iff p q other = inr (_, _, refl)
binary_opens _ p q other = inl refl

pub layer_opens : (at : Term → Term) (o other : Term) → StaysOrOpens other (layer_of at o other)
layer_opens at (con x) other = constant_opens (word_of x) other
layer_opens at (app (con x) p) other = unary_opens at (word_of x) p other
layer_opens at (app (app (con x) p) q) other = binary_opens (word_of x) p q other
layer_opens at _ other = inl refl

word_opens : (w : Word) (o other : Term) → StaysOrOpens other (opened_word w o other)
word_opens Prf o other = layer_opens body_of o other
word_opens _ o other = inl refl

pub opened_is : (t : Term) → StaysOrOpens t (opened t)
opened_is (app (con x) o) = word_opens (word_of x) o (app (con x) o)
opened_is _ = inl refl

pub opened_twice : (t : Term) → opened (opened t) ≡ opened t
opened_twice t = elim (opened_is t) [ inl e ↦ ap opened e | inr e ↦ rw (e.2) refl ]

-- ---- opening ends

not_product : (f : Term → Term) (t : Term) → ((a b : Term) → t ≡ pi a b → ⊥) → in_parts f t ≡ t
not_product f (pi a b) h = absurd (h a b refl)
not_product f _ h = refl

-- a type without weight has no layer
light_stays : (f : Term → Term) (t : Term) → type_weight t ≤ 0 → in_parts f (opened t) ≡ t
light_stays f t h = elim (opened_is t) [
  | inl e ↦ rw e (not_product f t (λ a b k. let m = ap type_weight k in omega (arith, m)))
  | inr e ↦ let m = ap type_weight e.2 in let n = opened_weight t in absurd (omega (arith, m, n))
]

parts_agree : (f g : Term → Term) (t : Term) → ((a : Term) → type_weight a < type_weight t → f a ≡ g a) → in_parts f t ≡ in_parts g t
parts_agree f g (pi a b) h = ap₂ pi (h a (omega arith)) (h b (omega arith))
parts_agree f g _ h = refl

-- no more layers than the weight
pub enough_layers : (n m : ℕ) (t : Term) → type_weight t ≤ n → type_weight t ≤ m → full_at n t ≡ full_at m t
enough_layers zero zero t h k = refl
enough_layers zero (suc m) t h k = sym (light_stays (full_at m) t h)
enough_layers (suc n) zero t h k = light_stays (full_at n) t k
enough_layers (suc n) (suc m) t h k =
    let w = opened_weight t in
    parts_agree (full_at n) (full_at m) (opened t) (λ a l. enough_layers n m a (omega (arith, w, l)) (omega (arith, w, l)))

-- the full type opens layer by layer
pub full_opens : (t : Term) → full t ≡ in_parts full (opened t)
full_opens t =
    let w = opened_weight t in
    enough_layers (type_weight t) (suc (type_weight t)) t (omega arith) (omega arith)
    ∙ parts_agree (full_at (type_weight t)) full (opened t) (λ a l. enough_layers (type_weight t) (type_weight a) a (omega (arith, w, l)) (omega arith))

-- the full type of a product, and of an opened type
pub full_pi : (a b : Term) → full (pi a b) ≡ pi (full a) (full b)
full_pi a b = full_opens (pi a b)

pub full_opened : (t : Term) → full (opened t) ≡ full t
full_opened t = full_opens (opened t) ∙ ap (in_parts full) (opened_twice t) ∙ sym (full_opens t)

-- ---- it is a reduct

-- the body of a function is a reduct of its application
pub body_reduces : (f : Term) → ParallelSteps (applied_to_bound f) (body_of f)
body_reduces (lam a t) = subst (λ x. ParallelSteps (applied_to_bound (lam a t)) x) (inst_up_var t) (root_parallels (root_beta (shift a) (rename (under_renaming (λ n. suc n)) t) (var 0)))
body_reduces type = no_parallel _
body_reduces kind = no_parallel _
body_reduces (con x) = no_parallel _
body_reduces (pat x) = no_parallel _
body_reduces (var n) = no_parallel _
body_reduces (app t u) = no_parallel _
body_reduces (pi a b) = no_parallel _

proof_reduces : {p q : Term} → ParallelSteps p q → ParallelSteps (proof_of p) (proof_of q)
proof_reduces h = parallels_app (no_parallel _) h

unary_reduces : (w : Word) (p other : Term) → ParallelSteps (layer_of_unary applied_to_bound w p other) (layer_of_unary body_of w p other)
unary_reduces All p other = parallels_pi (no_parallel _) (proof_reduces (body_reduces p))
unary_reduces Ex p other = parallels_pi (no_parallel _) (parallels_pi (parallels_pi (no_parallel _) (parallels_pi (proof_reduces (body_reduces (shift p))) (no_parallel _))) (no_parallel _))
unary_reduces _ p other = no_parallel _

layer_reduces : (o other : Term) → ParallelSteps (layer_of applied_to_bound o other) (layer_of body_of o other)
layer_reduces (app (con x) p) other = unary_reduces (word_of x) p other
layer_reduces _ other = no_parallel _

developed_proof_reduces : (o : Term) → ParallelSteps (proof_of o) (developed_proof o)
developed_proof_reduces o = elim (developed_proof_is o) [ inl e ↦ rw e (no_parallel _) | inr r ↦ root_parallels (root_rule r) ]

word_reduces : (w : Word) (x : List ℕ) (o : Term) → IsNamed w x → ParallelSteps (app (con x) o) (opened_word w o (app (con x) o))
word_reduces Prf x o e = rw e (parallels_append (developed_proof_reduces o) (layer_reduces o (proof_of o)))
word_reduces _ x o e = no_parallel _

pub opened_reduces : (t : Term) → ParallelSteps t (opened t)
opened_reduces (app (con x) o) = word_reduces (word_of x) x o (named x)
opened_reduces _ = no_parallel _

parts_reduce : (f : Term → Term) → ((t : Term) → ParallelSteps t (f t)) → (t : Term) → ParallelSteps t (in_parts f t)
parts_reduce f h (pi a b) = parallels_pi (h a) (h b)
parts_reduce f h _ = no_parallel _

full_at_reduces : (n : ℕ) (t : Term) → ParallelSteps t (full_at n t)
full_at_reduces zero t = no_parallel t
full_at_reduces (suc n) t = parallels_append (opened_reduces t) (parts_reduce (full_at n) (full_at_reduces n) (opened t))

pub full_reduces : (t : Term) → ParallelSteps t (full t)
full_reduces t = full_at_reduces (type_weight t) t
