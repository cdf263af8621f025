use Rattle.std.proofs.Common.{sym, ◌∙◌}
use Rattle.plan.proofs.OriginAnswers.{first_here, first_later}
use Rattle.plan.proofs.origins.first_entry.Goals as goal

pub returns-then-same : goal.returns-then-same
returns-then-same c =
    sym (first_here c.args.entries.now c.loop-one.one-index c.one-item.result c.args.symbol.now c.loop-one-test.true c.one-item.is (c.same.ensures.0 c.if-same.true)) ∙ c.loop-one.invariant

pub loop-one-preserved : goal.loop-one-preserved
loop-one-preserved c =
    first_later c.args.entries.now c.loop-one.one-index c.one-item.result c.args.symbol.now c.loop-one-test.true c.one-item.is (λ e. let t = c.same.ensures.1 e in let f = c.if-same.false in cc) ∙ c.loop-one.invariant
