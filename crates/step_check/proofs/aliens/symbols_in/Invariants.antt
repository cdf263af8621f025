-- The symbols of the steps so far, and those of the steps to come.
use Rattle.std.proofs.Common.{◌≡◌, ◌||◌, drop, map}
use Rattle.dk_syntax.specs.Symbols.{joined}
use Rattle.dk_syntax.specs.declared.SymKey.{SymKey}
use Rattle.step_check.specs.Steps.{stands_in, step_in, symbols_of_step}
use Rattle.step_check.proofs.aliens.symbols_in.Given as goal

abbrev pub invariant-loop-number : goal.invariant-loop-number
invariant-loop-number l =
    (symbol : SymKey) → (stands_in l.known.keys symbol || stands_in (joined (map (λ q. symbols_of_step (step_in l.given.steps.now q)) (drop l.number-index l.numbers))) symbol)
    ≡ stands_in (joined (map (λ q. symbols_of_step (step_in l.given.steps.now q)) l.numbers)) symbol
