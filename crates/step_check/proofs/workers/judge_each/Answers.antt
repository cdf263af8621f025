use Rattle.std.proofs.Common.{sym, subst, arith}
use Rattle.std.proofs.lemmas.Result.{IfOk-weaker}
use Rattle.step_check.specs.Freshness.{AreFirstVerdicts}
use Rattle.step_check.specs.Steps.{case_of}
use Rattle.step_check.proofs.PieceLaws.{all_pieces, no_steps, one_row_each}
use Rattle.step_check.proofs.workers.judge_each.Goals as goal

pub returns-then-pieces-eq0 : goal.returns-then-pieces-eq0
returns-then-pieces-eq0 g c =
    let case = case_of c.args.problem.now c.args.trace.now c.args.graph.now in
    subst (AreFirstVerdicts case) (sym c.new.ensures) (no_steps case (one_row_each c.args.trace.now c.args.graph.now c.requires.graph.0.1) (omega arith))

pub returns : goal.returns
returns g c =
    let case = case_of c.args.problem.now c.args.trace.now c.args.graph.now in
    IfOk-weaker c.judge_pieces.result _ _ (λ list all. all_pieces case c.min-pieces.result list (omega arith) (one_row_each c.args.trace.now c.args.graph.now c.requires.graph.0.1) all) c.judge_pieces.ensures
