-- What the place of a proof term has bound, by levels: the number of binders outside a variable's own.
use Rattle.std.specs.Prelude.{ℕ, zero, suc, ◌+◌, ◌-◌, cond, nat_lt, List, [], ◌∷◌, map, length}
use Rattle.lp_term.specs.Names.{any_name}
use Rattle.lp_term.specs.LambdaPi.{Term, con, shift, var}
use Rattle.nd_term.specs.declared.place.Place.{Place}

-- the variable of this level, at a place of level n
abbrev pub at_level : ℕ → ℕ → Term
at_level n l = var (n - suc l)

-- The eigenvariables at a place of level n: there are so many, from the level first on, and each is followed by the
-- variable of its formula.
abbrev pub eigenvariables_at : (n first count : ℕ) → ℕ → Term
eigenvariables_at n first count k = cond (nat_lt k count) (at_level n (first + (k + k))) (con any_name)

-- the variables after them
abbrev pub witnesses_at : (n first count : ℕ) → ℕ → Term
witnesses_at n first count k = cond (nat_lt k count) (at_level n (first + (k + k) + 1)) (con any_name)

-- the eigenvariables at a place of the program, and the variables after them
abbrev pub eigenvariables : Place → ℕ → Term
eigenvariables place = eigenvariables_at place.level place.first_eigen (length place.order.now)

abbrev pub witnesses : Place → ℕ → Term
witnesses place = witnesses_at place.level place.first_eigen (length place.order.now)

-- the variables of the n literals bound last, the outermost first
abbrev pub last_variables : ℕ → List Term
last_variables zero = []
last_variables (suc n) = var n ∷ last_variables n

-- a term so many binders further in
abbrev pub shift_times : ℕ → Term → Term
shift_times zero t = t
shift_times (suc n) t = shift (shift_times n t)

-- the same of a family of terms, and of a list of them
abbrev pub lifted_by : ℕ → (ℕ → Term) → ℕ → Term
lifted_by n x k = shift_times n (x k)

abbrev pub shifted_by : ℕ → List Term → List Term
shifted_by zero ts = ts
shifted_by (suc n) ts = map shift (shifted_by n ts)
