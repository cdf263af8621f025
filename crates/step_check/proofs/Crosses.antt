-- Verdicts may go to another thread. Each type stands alone, since one search through all of them runs out of steps.
use denote.Param.Send.{IsSend, sendable}
use Rattle.dk_syntax.proofs.seq.Seq.TheSendSync.{the_send as seq_send}
use Rattle.dk_syntax.proofs.symbol.SymKey.TheSendSync.{the_field_send as symbol_send}
use Rattle.dk_syntax.proofs.term.Term.TheLaws.TheKnot as knot
use Rattle.dk_syntax.specs.contracts.clause.Clause as clause
use Rattle.dk_syntax.specs.contracts.clause.Literal as literal
use Rattle.dk_syntax.specs.contracts.term.Term as term
use Rattle.normal_form.specs.contracts.clause_list.ClauseList as clause_list
use Rattle.normal_form.specs.contracts.clause_list.ClauseRow as clause_row
use Rattle.step_chain.specs.contracts.chain.Chain as chain
use Rattle.step_check.proofs.verdict.Limit.TheSendSync.{the_field_send as limit_send}
use Rattle.step_check.proofs.verdict.Reason.TheSendSync.{the_field_send as reason_send}
use Rattle.step_check.specs.contracts.verdict.Verdict as verdict
use Rattle.step_clause.specs.contracts.justification.Justification as justification
use Rattle.step_compose.specs.contracts.composed.Composed as composed
use Rattle.step_skolem.proofs.map.SkMap.TheSendSync.{the_field_send as map_send}

term_send : IsSend (term.the_field).row
term_send = knot.send-Term (search sendable) symbol_send seq_send

literal_send : IsSend (literal.the_field).row
literal_send = let t = term_send in let s = symbol_send in search (sendable, seq_send) depth 20

clause_send : IsSend (clause.the_field).row
clause_send = let l = literal_send in search (sendable, seq_send) depth 20

row_send : IsSend (clause_row.the_field).row
row_send = let c = clause_send in search (sendable, seq_send) depth 20

list_send : IsSend (clause_list.the_field).row
list_send = let r = row_send in search (sendable, seq_send) depth 20

justification_send : IsSend (justification.the_field).row
justification_send = let t = term_send in search (sendable, seq_send) depth 20

chain_send : IsSend (chain.the_field).row
chain_send = let j = justification_send in let c = clause_send in search (sendable, seq_send) depth 20

composed_send : IsSend (composed.the_field).row
composed_send = let m = map_send in let l = list_send in let j = justification_send in search (sendable, seq_send) depth 20

pub verdict_send : IsSend (verdict.the_field).row
verdict_send =
    let m = map_send in let j = justification_send in let c = chain_send in let d = composed_send in let r = reason_send in let l = limit_send in
    search (sendable, seq_send) depth 20

pub verdict_row_send : IsSend verdict.the_row
verdict_row_send =
    let m = map_send in let j = justification_send in let c = chain_send in let d = composed_send in let r = reason_send in let l = limit_send in
    search (sendable, seq_send) depth 20
