-- Each step up to the count is in its place.
use Rattle.std.proofs.Common.{◌≡◌, ℕ, ◌+◌, ◌<◌, ◌≤◌, length}
use Rattle.derivation_graph.specs.Agendas.{IsIn, IsOpen, IsPlaced, IsUnmarked}
use Rattle.derivation_graph.proofs.agenda.begin.Given as goal

abbrev pub invariant-loop-place_of_step : goal.invariant-loop-place_of_step
invariant-loop-place_of_step l = record {
  long : length l.agenda.waiting.items ≡ length l.rows + 1;
  placed : (q : ℕ) → 0 < q → q ≤ l.place_of_step → IsUnmarked l.marks q → IsPlaced l.rows l.marks l.agenda.ready l.agenda.waiting.items q;
  opened : (q : ℕ) → IsIn l.agenda.ready q → IsOpen l.rows l.marks q;
}
