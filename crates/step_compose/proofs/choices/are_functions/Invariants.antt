use Rattle.std.proofs.Common.{◌≡◌, ◌<◌, ℕ, get_or}
use Rattle.dk_syntax.specs.declared.Kind.TheVariants.{Function}
use Rattle.dk_syntax.specs.declared.SymKey.{SymKey}
use Rattle.step_compose.proofs.choices.are_functions.Given as goal

-- the symbols so far are functions'
abbrev pub invariant-loop-symbol : goal.invariant-loop-symbol
invariant-loop-symbol l = (k : ℕ) (d : SymKey) → k < l.symbol-index → (get_or l.symbols k d).kind ≡ Function
