-- No entry before the place has a symbol that is not fresh.
use Rattle.std.specs.Prelude.{◌≡◌, ◌++◌, drop, find}
use Rattle.step_check.specs.Freshness.{introduced_by, is_stale}
use Rattle.step_check.proofs.FreshLaws.{names}
use Rattle.step_check.proofs.freshness.stale_place.Given as goal

abbrev pub invariant-loop-place : goal.invariant-loop-place
invariant-loop-place l =
    let passes = is_stale (l.fn.symbols ++ introduced_by l.fn.earlier) (names l.fn.entries) in
    find passes (names l.fn.entries) ≡ find passes (names (drop l.place l.fn.entries))
