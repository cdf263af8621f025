-- Normalisation of objects by hereditary substitution: what a substitution makes is reduced at once.
use Rattle.std.specs.Prelude.{ℕ, zero, suc}
use Rattle.lp_term.specs.LambdaPi.{Term, type, kind, con, pat, var, app, lam, pi, under_binder, for_last}

-- a substitution, where `ap` makes each application
abbrev pub put_with : (Term → Term → Term) → (ℕ → Term) → Term → Term
put_with ap s type = type
put_with ap s kind = kind
put_with ap s (con x) = con x
put_with ap s (pat x) = pat x
put_with ap s (var n) = s n
put_with ap s (app t u) = ap (put_with ap s t) (put_with ap s u)
put_with ap s (lam a t) = lam (put_with ap s a) (put_with ap (under_binder s) t)
put_with ap s (pi a b) = pi (put_with ap s a) (put_with ap (under_binder s) b)

-- an application, reduced at its root where `ap` makes the applications of the result
abbrev pub apply_with : (Term → Term → Term) → Term → Term → Term
apply_with ap (lam a t) v = put_with ap (for_last v) t
apply_with ap f v = app f v

-- a normal function at a normal argument, whose type has at most that size, reduced
abbrev pub apply_at : ℕ → Term → Term → Term
apply_at zero f v = app f v
apply_at (suc n) f v = apply_with (apply_at n) f v

-- `u` for variable 0 in `t`, reduced
abbrev pub put_at : ℕ → Term → Term → Term
put_at n u t = put_with (apply_at n) (for_last u) t

-- a term with its redexes reduced, where their arguments have types of at most that size
abbrev pub normal_at : ℕ → Term → Term
normal_at n type = type
normal_at n kind = kind
normal_at n (con x) = con x
normal_at n (pat x) = pat x
normal_at n (var k) = var k
normal_at n (app t u) = apply_at n (normal_at n t) (normal_at n u)
normal_at n (lam a t) = lam (normal_at n a) (normal_at n t)
normal_at n (pi a b) = pi (normal_at n a) (normal_at n b)
