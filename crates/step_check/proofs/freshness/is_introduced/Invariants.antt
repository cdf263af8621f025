-- No verdict before the index introduces the symbol.
use Rattle.std.specs.Prelude.{◌≡◌, drop}
use Rattle.step_check.specs.Freshness.{introduced_by}
use Rattle.step_check.specs.Steps.{stands_in}
use Rattle.step_check.proofs.freshness.is_introduced.Given as goal

abbrev pub invariant-loop-verdict : goal.invariant-loop-verdict
invariant-loop-verdict l = stands_in (introduced_by l.fn.verdicts) l.fn.symbol ≡ stands_in (introduced_by (drop l.verdict-index l.fn.verdicts)) l.fn.symbol
