-- Substitution in terms whose variables count binders.
use Rattle.std.specs.Prelude.{ℕ, ◌+◌, ◌-◌, nat_lt, ◌==◌, if◌then◌else◌}
use Rattle.lp_term.specs.declared.lp.Lp.{Lp, Lp-F, fold-Lp}
use Rattle.lp_term.specs.declared.lp.Lp.TheOpen as layer
use Rattle.lp_term.specs.declared.lp.Lp.TheVariants.{Sort, Sym, Var, Pat, App, Lam, Pi}

-- under a binder the first variable that is raised has the next number
abbrev pub lifted_at : ℕ → Lp-F (ℕ → Lp) → ℕ → Lp
lifted_at up layer.Sort bound = Sort
lifted_at up (layer.Sym name) bound = Sym name
lifted_at up (layer.Var number) bound = if nat_lt number bound then Var number else Var (number + up)
lifted_at up (layer.Pat name) bound = Pat name
lifted_at up (layer.App function argument) bound = App (function bound) (argument bound)
lifted_at up (layer.Lam domain body) bound = Lam (domain bound) (body (bound + 1))
lifted_at up (layer.Pi domain body) bound = Pi (domain bound) (body (bound + 1))

-- the number of a variable after those from `bound` on are raised by `up`
abbrev pub raised : ℕ → ℕ → ℕ → ℕ
raised up bound number = if nat_lt number bound then number else number + up

-- the term with each variable from `bound` on raised by `up`
abbrev pub lifted : ℕ → Lp → ℕ → Lp
lifted up = fold-Lp (ℕ → Lp) (lifted_at up)

-- the variable of the number `place` becomes `by`, and those above it are lowered
abbrev pub put_for_variable : Lp → ℕ → ℕ → Lp
put_for_variable by number place =
    if nat_lt number place then Var number
    else if number == place then lifted place by 0
    else Var (number - 1)

abbrev pub put_at : Lp → Lp-F (ℕ → Lp) → ℕ → Lp
put_at by layer.Sort place = Sort
put_at by (layer.Sym name) place = Sym name
put_at by (layer.Var number) place = put_for_variable by number place
put_at by (layer.Pat name) place = Pat name
put_at by (layer.App function argument) place = App (function place) (argument place)
put_at by (layer.Lam domain body) place = Lam (domain place) (body (place + 1))
put_at by (layer.Pi domain body) place = Pi (domain place) (body (place + 1))

-- the term with `by` for the variable of that number, raised by the binders passed
abbrev pub put_for : Lp → Lp → ℕ → Lp
put_for by = fold-Lp (ℕ → Lp) (put_at by)

-- the term with `by` for variable 0, and its other variables lowered
abbrev pub substituted : Lp → Lp → Lp
substituted t by = put_for by t 0
