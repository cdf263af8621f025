use Rattle.std.proofs.Common.{◌∙◌, sym, ap}
use Rattle.step_check.specs.Steps.{stands_in}
use Rattle.step_check.proofs.FreshLaws.{verdict_found, verdict_passed}
use Rattle.step_check.proofs.freshness.is_introduced.Goals as goal

pub returns-then-has_entry : goal.returns-then-has_entry
returns-then-has_entry c =
    let here = sym (c.has_entry.ensures ∙ ap (λ symbols. stands_in symbols c.args.symbol.now) c.entries_of.ensures) ∙ c.if-has_entry.true in
    sym (c.loop-verdict.invariant ∙ verdict_found c.args.symbol.now c.args.verdicts.now c.loop-verdict.verdict-index c.verdict-item.result c.loop-verdict-test.true c.verdict-item.is here)

pub loop-verdict-preserved : goal.loop-verdict-preserved
loop-verdict-preserved c =
    let not_here = sym (c.has_entry.ensures ∙ ap (λ symbols. stands_in symbols c.args.symbol.now) c.entries_of.ensures) ∙ c.if-has_entry.false in
    c.loop-verdict.invariant ∙ verdict_passed c.args.symbol.now c.args.verdicts.now c.loop-verdict.verdict-index c.verdict-item.result c.loop-verdict-test.true c.verdict-item.is not_here
