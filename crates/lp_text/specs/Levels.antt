-- Bodies that stand below too many binders to be printed.
use Rattle.std.specs.Prelude.{ℕ, ◌+◌, ◌^◌, if◌then◌else◌, List, [], ◌∷◌, nat_lt}
use Rattle.lp_term.specs.declared.Command.{Command}
use Rattle.lp_term.specs.declared.Command.TheVariants.{Constant, Symbol, Define, Rule}
use Rattle.lp_term.specs.declared.Lp.{Lp, Lp-F, fold-Lp}
use Rattle.lp_term.specs.declared.Lp.TheOpen.{Sort, Sym, Var, Pat, App, Lam, Pi}

-- 1 for a place below 2 ^ 32 binders or more
abbrev pub over : ℕ → ℕ
over level = if nat_lt level (2 ^ 32) then 0 else 1

abbrev pub over_at : Lp-F (ℕ → ℕ) → ℕ → ℕ
over_at Sort level = 0
over_at (Sym name) level = 0
over_at (Var number) level = 0
over_at (Pat name) level = 0
over_at (App function argument) level = function level + argument level
over_at (Lam domain body) level = domain level + (over (level + 1) + body (level + 1))
over_at (Pi domain body) level = domain level + (over (level + 1) + body (level + 1))

-- how many bodies of a term stand below 2 ^ 32 binders or more, where so many stand around the term
abbrev pub bodies_over : Lp → ℕ → ℕ
bodies_over = fold-Lp (ℕ → ℕ) over_at

abbrev pub command_over : Command → ℕ
command_over (Constant name type) = bodies_over type 0
command_over (Symbol name type) = bodies_over type 0
command_over (Define name type body) = bodies_over type 0 + bodies_over body 0
command_over (Rule left right) = bodies_over left 0 + bodies_over right 0

-- how many of all the commands' bodies do
abbrev pub commands_over : List Command → ℕ
commands_over [] = 0
commands_over (command ∷ commands) = command_over command + commands_over commands
