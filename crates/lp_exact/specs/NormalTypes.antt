-- The normal type of a type.
use Rattle.std.specs.Prelude.{ℕ, ◌+◌, max}
use Rattle.lp_term.specs.LambdaPi.{Term, app, lam, pi}
use Rattle.lp_exact.specs.LazyTypes.{full}
use Rattle.lp_exact.specs.Normalisation.{normal_at}

-- the nodes of a simple type
abbrev pub annotation_size : Term → ℕ
annotation_size (pi a b) = annotation_size a + annotation_size b + 1
annotation_size t = 1

-- the greatest size of an annotation in the term, so that no redex takes an argument of a greater type
abbrev pub annotation_rank : Term → ℕ
annotation_rank (app t u) = max (annotation_rank t) (annotation_rank u)
annotation_rank (lam a t) = max (annotation_size a) (annotation_rank t)
annotation_rank (pi a b) = max (annotation_rank a) (annotation_rank b)
annotation_rank t = 0

-- the type with its objects beta-normal
abbrev pub lazy_of : Term → Term
lazy_of t = normal_at (annotation_rank t) t

-- the same, with each `Prf` rewritten by the rules as far as they go
abbrev pub normal_type_of : Term → Term
normal_type_of t = full (lazy_of t)
