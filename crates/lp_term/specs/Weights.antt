-- How much of two terms is still to be dropped: a number for a whole term, and one for a term that
-- hangs by its first parts.
use Rattle.std.specs.Prelude.{ℕ, ◌+◌}
use Rattle.lp_term.specs.declared.lp.Lp.{Lp, Lp-F, fold-Lp}
use Rattle.lp_term.specs.declared.lp.Lp.TheOpen.{Sort, Sym, Var, Pat, App, Lam, Pi}

abbrev pub pair_weights : ℕ × ℕ → ℕ × ℕ → ℕ × ℕ
pair_weights first last = (2 + first.0 + last.0, 1 + first.1 + last.0)

abbrev pub weights_at : Lp-F (ℕ × ℕ) → ℕ × ℕ
weights_at Sort = (1, 0)
weights_at (Sym name) = (1, 0)
weights_at (Var number) = (1, 0)
weights_at (Pat name) = (1, 0)
weights_at (App function argument) = pair_weights function argument
weights_at (Lam domain body) = pair_weights domain body
weights_at (Pi domain body) = pair_weights domain body

abbrev pub weights : Lp → ℕ × ℕ
weights = fold-Lp (ℕ × ℕ) weights_at
