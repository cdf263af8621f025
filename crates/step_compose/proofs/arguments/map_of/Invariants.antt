use Rattle.std.proofs.Common.{◌≡◌, ◌++◌, drop}
use Rattle.step_compose.specs.Arguments.{entries_from}
use Rattle.step_compose.specs.Composing.{symbol_in}
use Rattle.step_compose.proofs.arguments.map_of.Given as goal

-- the entries made, with those to come, are all
abbrev pub invariant-loop-k : goal.invariant-loop-k
invariant-loop-k l = l.entries ++ entries_from (symbol_in l.symbols) l.k (drop l.k l.arguments) ≡ entries_from (symbol_in l.symbols) 0 l.arguments
