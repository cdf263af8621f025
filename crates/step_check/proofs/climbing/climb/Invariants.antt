-- The path so far: each step hangs on the one after it, and the last is the step.
use Rattle.std.proofs.Common.{◌≡◌, ◌+◌, ℕ, List, ◌∷◌, length, reverse}
use Rattle.derivation_graph.specs.Graphs.{IsStep}
use Rattle.step_check.specs.Notes.{AreForms, case_given, EndsIn, Grow, HangOn}
use Rattle.step_check.proofs.climbing.climb.Given as goal

abbrev pub invariant-loop : goal.invariant-loop
invariant-loop l = record {
  right : AreForms (case_given l.given) l.forms;
  grown : Grow l.initial.forms l.forms;
  stands : IsStep (case_given l.given).rows l.step;
  path : (below : List ℕ) × (reverse l.path.items ≡ l.step ∷ below) × HangOn (case_given l.given) l.forms l.step below;
  ends : EndsIn (reverse l.path.items) l.number;
  long : length l.path.items ≡ l.counter + 1;
}
