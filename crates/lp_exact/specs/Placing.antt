-- Hereditary substitution as the program goes, which counts the binders passed, and what it costs.
use Rattle.std.specs.Prelude.{ℕ, zero, suc, ◌+◌, ◌-◌, nat_lt, ◌==◌, if◌then◌else◌}
use Rattle.lp_term.specs.LambdaPi.{Term, type, kind, con, pat, var, app, lam, pi, rename}
use Rattle.lp_exact.specs.Normalisation.{apply_at}

-- what becomes of a variable where `u` is put for the variable of the number `place`
abbrev pub placed_variable : Term → ℕ → ℕ → Term
placed_variable u number place =
    if nat_lt number place then var number
    else if number == place then rename (λ m. m + place) u
    else var (number - 1)

-- the term with `u` for the variable of that number, where `ap` makes each application
abbrev pub placed_with : (Term → Term → Term) → Term → Term → ℕ → Term
placed_with ap u type place = type
placed_with ap u kind place = kind
placed_with ap u (con x) place = con x
placed_with ap u (pat x) place = pat x
placed_with ap u (var n) place = placed_variable u n place
placed_with ap u (app t v) place = ap (placed_with ap u t place) (placed_with ap u v place)
placed_with ap u (lam a t) place = lam (placed_with ap u a place) (placed_with ap u t (place + 1))
placed_with ap u (pi a b) place = pi (placed_with ap u a place) (placed_with ap u b (place + 1))

-- the calls that the substitution makes, where `c` counts those of an application
abbrev pub cost_with : (Term → Term → Term) → (Term → Term → ℕ) → Term → Term → ℕ → ℕ
cost_with ap c u (app t v) place = cost_with ap c u t place + cost_with ap c u v place + c (placed_with ap u t place) (placed_with ap u v place) + 1
cost_with ap c u (lam a t) place = cost_with ap c u a place + cost_with ap c u t (place + 1) + 1
cost_with ap c u (pi a b) place = cost_with ap c u a place + cost_with ap c u b (place + 1) + 1
cost_with ap c u t place = 1

abbrev pub cost_apply_with : (Term → Term → Term) → (Term → Term → ℕ) → Term → Term → ℕ
cost_apply_with ap c (lam a t) v = cost_with ap c v t 0 + 1
cost_apply_with ap c f v = 0

abbrev pub cost_apply : ℕ → Term → Term → ℕ
cost_apply zero f v = 0
cost_apply (suc n) f v = cost_apply_with (apply_at n) (cost_apply n) f v

abbrev pub cost_put : ℕ → Term → Term → ℕ → ℕ
cost_put n u t place = cost_with (apply_at n) (cost_apply n) u t place
