-- A type is simple before it is opened exactly where it is after.
use Rattle.std.proofs.Common.{◌≡◌, ℕ, zero, suc, List, Option, Some, None, refl, ap₂, ◌∙◌}
use Rattle.lp_term.specs.LambdaPi.{Term, type, kind, con, pat, var, app, lam, pi}
use Rattle.lp_exact.specs.declared.word.Word.{Word}
use Rattle.lp_exact.specs.declared.word.Word.TheVariants.{Individuals, Propositions, Prf, Imp, And, Or, Iff, Not, Top, Bot, All, Ex}
use Rattle.lp_exact.specs.Words.{word_of}
use Rattle.lp_exact.specs.Layers.{body_of, layer_of_constant, layer_of_unary, layer_of_binary, layer_of, opened_word, opened}
use Rattle.lp_exact.specs.LazyTypes.{type_weight, in_parts, full_at, full}
use Rattle.lp_exact.specs.Objects.{Simple, individual, truth, function, simple_term, simple_of, simple_of_word, simple_of_both}
use Rattle.lp_exact.proofs.WordLaws.{IsNamed, named}

-- a simple type is seen as itself
pub simple_of_simple : (a : Simple) → simple_of (simple_term a) ≡ Some a
simple_of_simple individual = refl
simple_of_simple truth = refl
simple_of_simple (function a b) = ap₂ simple_of_both (simple_of_simple a) (simple_of_simple b)

word_simple : (w : Word) (x : List ℕ) (s : Simple) → IsNamed w x → simple_of_word w ≡ Some s → con x ≡ simple_term s
word_simple Individuals x s e h = let k : s ≡ individual = cc in rw (k, e) refl
word_simple Propositions x s e h = let k : s ≡ truth = cc in rw (k, e) refl
word_simple _ x s e h = absurd cc

pub both_is : (o e : Option Simple) (s : Simple) → simple_of_both o e ≡ Some s → (a : Simple) × (b : Simple) × (o ≡ Some a) × (e ≡ Some b) × (s ≡ function a b)
both_is (Some a) (Some b) s h = (a, b, refl, refl, cc)
both_is (Some a) None s h = absurd cc
both_is None e s h = absurd cc

-- what is seen as a simple type is one
pub is_simple : (t : Term) (s : Simple) → simple_of t ≡ Some s → t ≡ simple_term s
is_simple (con x) s h = word_simple (word_of x) x s (named x) h
is_simple (pi a b) s h = let i = both_is (simple_of a) (simple_of b) s h in rw (i.4) (ap₂ pi (is_simple a i.0 i.2) (is_simple b i.1 i.3))
is_simple type s h = absurd cc
is_simple kind s h = absurd cc
is_simple (pat x) s h = absurd cc
is_simple (var n) s h = absurd cc
is_simple (app t u) s h = absurd cc
is_simple (lam t u) s h = absurd cc

-- a layer has no simple type
constant_simple : (w : Word) (other : Term) → simple_of other ≡ None → simple_of (layer_of_constant w other) ≡ None
constant_simple Bot other h = refl
constant_simple Top other h = refl
constant_simple _ other h = h

unary_simple : (w : Word) (p other : Term) → simple_of other ≡ None → simple_of (layer_of_unary body_of w p other) ≡ None
unary_simple Not p other h = refl
unary_simple All p other h = refl
unary_simple Ex p other h = refl
unary_simple _ p other h = h

binary_simple : (w : Word) (p q other : Term) → simple_of other ≡ None → simple_of (layer_of_binary w p q other) ≡ None
binary_simple Imp p q other h = refl
binary_simple And p q other h = refl
binary_simple Or p q other h = refl
binary_simple Iff p q other h = refl
binary_simple _ p q other h = h

layer_simple : (o other : Term) → simple_of other ≡ None → simple_of (layer_of body_of o other) ≡ None
layer_simple (con x) other h = constant_simple (word_of x) other h
layer_simple (app (con x) p) other h = unary_simple (word_of x) p other h
layer_simple (app (app (con x) p) q) other h = binary_simple (word_of x) p q other h
layer_simple _ other h = h

word_not_simple : (w : Word) (o other : Term) → simple_of other ≡ None → simple_of (opened_word w o other) ≡ None
word_not_simple Prf o other h = layer_simple o other h
word_not_simple _ o other h = h

pub simple_of_opened : (t : Term) → simple_of (opened t) ≡ simple_of t
simple_of_opened (app (con x) o) = word_not_simple (word_of x) o (app (con x) o) refl
simple_of_opened _ = refl

simple_of_parts : (f : Term → Term) → ((t : Term) → simple_of (f t) ≡ simple_of t) → (t : Term) → simple_of (in_parts f t) ≡ simple_of t
simple_of_parts f h (pi a b) = ap₂ simple_of_both (h a) (h b)
simple_of_parts f h _ = refl

full_at_simple : (n : ℕ) (t : Term) → simple_of (full_at n t) ≡ simple_of t
full_at_simple zero t = refl
full_at_simple (suc n) t = simple_of_parts (full_at n) (full_at_simple n) (opened t) ∙ simple_of_opened t

pub simple_of_full : (t : Term) → simple_of (full t) ≡ simple_of t
simple_of_full t = full_at_simple (type_weight t) t
