-- Lazy types: their objects are beta-normal, and `Prf` of an object stands unopened. A full type has
-- each `Prf` rewritten by the rules as far as they go.
use Rattle.std.specs.Prelude.{ℕ, zero, suc, ◌+◌}
use Rattle.lp_term.specs.LambdaPi.{Term, type, kind, con, pat, var, app, lam, pi}
use Rattle.lp_exact.specs.Layers.{opened}

-- `Prf` of an object opens at most so often
abbrev pub object_weight : Term → ℕ
object_weight type = 0
object_weight kind = 0
object_weight (con x) = 8
object_weight (pat x) = 0
object_weight (var n) = 0
object_weight (app t u) = object_weight t + object_weight u + object_weight u + 1
object_weight (lam a t) = object_weight t
object_weight (pi a b) = 0

-- the same of a type; its products count too
abbrev pub type_weight : Term → ℕ
type_weight (pi a b) = type_weight a + type_weight b + 1
type_weight (app f o) = object_weight o
type_weight t = 0

-- a product with its parts changed, any other term as it is
abbrev pub in_parts : (Term → Term) → Term → Term
in_parts f (pi a b) = pi (f a) (f b)
in_parts f t = t

-- a type opened so many layers deep
abbrev pub full_at : ℕ → Term → Term
full_at zero t = t
full_at (suc n) t = in_parts (full_at n) (opened t)

-- a type opened as far as its layers go
abbrev pub full : Term → Term
full t = full_at (type_weight t) t
