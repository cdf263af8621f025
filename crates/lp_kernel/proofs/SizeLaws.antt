-- The size of a simple type, from its domains.
use Rattle.std.proofs.Common.{◌≡◌, ℕ, ◌+◌, Option, Some, None, refl, ap, ◌∙◌, arith}
use Rattle.lp_term.specs.LambdaPi.{Term, type}
use Rattle.lp_exact.specs.Objects.{Simple, simple_of_both, simple_size}
use Rattle.lp_kernel.specs.LazyJudgement.{kept}
use Rattle.lp_kernel.specs.Walking.{size_after, size_of}

pub size_first : (o : Option ℕ) → size_after 0 o ≡ o
size_first (Some n) = let e : 0 + n ≡ n = omega arith in ap Some e
size_first None = refl

-- a domain more
pub size_more : (d s n : ℕ) (x y : Option Simple) → size_of x ≡ Some s → n ≡ d + s + 1 → size_after n (size_of y) ≡ size_after d (size_of (simple_of_both x y))
size_more d s n (Some a) (Some b) e f =
    let h : simple_size a ≡ s = cc in
    let i : n + simple_size b ≡ d + (simple_size a + simple_size b + 1) = omega (arith, h, f) in ap Some i
size_more d s n (Some a) None e f = refl
size_more d s n None y e f = absurd cc

-- a domain that isn't simple
pub size_stops : (d : ℕ) (x y : Option Simple) → size_of x ≡ None → None ≡ size_after d (size_of (simple_of_both x y))
size_stops d (Some a) y e = absurd cc
size_stops d None y e = refl

-- ---- values that are kept

pub kept_none : (o : Option Simple) (v : Term) → size_of o ≡ None → type ≡ kept o v
kept_none (Some a) v e = absurd cc
kept_none None v e = refl

pub kept_some : (o : Option Simple) (v : Term) (n : ℕ) → size_of o ≡ Some n → v ≡ kept o v
kept_some (Some a) v n e = refl
kept_some None v n e = absurd cc
