-- The types of clauses and the abstractions over literals, as they are built: each one binder further in than the one before.
use Rattle.std.specs.Prelude.{ℕ, suc, List, [], ◌∷◌}
use Rattle.lp_term.specs.LambdaPi.{Term, lam, pi}
use Rattle.nd_term.specs.Formulas.{Literal}
use Rattle.nd_term.specs.Places.{eigenvariables_at}
use Rattle.nd_term.specs.Translation.{literal_type}

-- λ (n0 : N0), .. u, where the first variable has the level n
abbrev pub abstracted : (n first count : ℕ) → List Literal → Term → Term
abstracted n first count [] u = u
abstracted n first count (l ∷ d) u = lam (literal_type (eigenvariables_at n first count) l) (abstracted (suc n) first count d u)

-- N0 → .. → t, where the first variable has the level n
abbrev pub typed : (n first count : ℕ) → List Literal → Term → Term
typed n first count [] t = t
typed n first count (l ∷ d) t = pi (literal_type (eigenvariables_at n first count) l) (typed (suc n) first count d t)
