use Rattle.std.proofs.Common.{◌≡◌, ◌≤◌, ℕ, List, drop, length}
use Rattle.std.specs.HashMap.{get_by}
use Rattle.std.specs.Str.{bytes_eq}
use Rattle.development.specs.PlaceMaps.{place_from}
use Rattle.development.proofs.names.places_by_name.Given as goal

abbrev pub invariant-loop-left : goal.invariant-loop-left
invariant-loop-left l =
    (l.left ≤ length l.hyps) × ((name : List ℕ) → get_by (λ k. bytes_eq name k.now) l.map ≡ place_from name l.left (drop l.left l.hyps))

abbrev pub decreases-loop-left : goal.decreases-loop-left
decreases-loop-left l = l.left
