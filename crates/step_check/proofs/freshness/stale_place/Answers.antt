use Rattle.std.proofs.Common.{◌++◌, ◌∙◌, sym}
use Rattle.step_check.specs.Freshness.{introduced_by}
use Rattle.step_check.proofs.FreshLaws.{stale_found, stale_passed}
use Rattle.step_check.proofs.freshness.stale_place.Goals as goal

pub returns-then-is_stale_symbol : goal.returns-then-is_stale_symbol
returns-then-is_stale_symbol c =
    stale_found (c.args.symbols.now ++ introduced_by c.args.earlier.now) c.args.entries.now c.loop-place.place c.index-entries-place.result c.loop-place-test.true c.index-entries-place.is
    c.loop-place.invariant (sym c.is_stale_symbol.ensures ∙ c.if-is_stale_symbol.true)

pub loop-place-preserved : goal.loop-place-preserved
loop-place-preserved c =
    stale_passed (c.args.symbols.now ++ introduced_by c.args.earlier.now) c.args.entries.now c.loop-place.place c.index-entries-place.result c.loop-place-test.true c.index-entries-place.is
    c.loop-place.invariant (sym c.is_stale_symbol.ensures ∙ c.if-is_stale_symbol.false)
