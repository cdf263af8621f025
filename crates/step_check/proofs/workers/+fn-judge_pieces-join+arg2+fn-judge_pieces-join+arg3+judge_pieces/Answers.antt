use Rattle.std.proofs.Common.{◌+◌, ◌-◌, ◌/◌, sym, subst, rules}
use Rattle.std.proofs.lemmas.Result.{IfOk-weaker}
use Rattle.step_check.specs.Pieces.{IsPiece}
use Rattle.step_check.specs.Steps.{case_of}
use denote.Param.Send.{sendable}
use Rattle.dk_syntax.proofs.seq.Seq.TheSendSync.{the_send as seq_send}
use Rattle.step_check.proofs.Crosses.{verdict_send, verdict_row_send}
use Rattle.step_check.proofs.PieceLaws.{pieces_join}
use Rattle.step_check.proofs.workers.+fn-judge_pieces-join+arg2+fn-judge_pieces-join+arg3+judge_pieces.Goals as goal

pub join-left-requires-send-A : goal.join-left-requires-send-A
join-left-requires-send-A g t c κs within = let v = verdict_send in let r = verdict_row_send in search (sendable, seq_send) depth 20

pub returns : goal.returns
returns g t c =
    let case = case_of c.args.problem.now c.args.trace.now c.args.graph.now in
    let pieces = c.args.pieces in
    let low = c.args.low in
    let high = c.args.high in
    let middle = low + (high - low) / 2 in
    let first : IsPiece case pieces low middle c.in_ok-left.field-0 = search rules in
    let second : IsPiece case pieces middle high c.in_ok-right.field-0 = search rules in
    let joins = pieces_join case pieces low middle high c.in_ok-left.field-0 c.in_ok-right.field-0 first second in
    IfOk-weaker c.joined.result _ _ (λ verdicts is. subst (IsPiece case pieces low high) (sym is) joins) c.joined.ensures
