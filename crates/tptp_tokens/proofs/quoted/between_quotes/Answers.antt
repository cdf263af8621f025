use Rattle.std.proofs.Common.{sym, arith}
use Rattle.std.proofs.lemmas.Grind.{common_steps}
use Rattle.tptp_tokens.proofs.UnclosedQuotes.{none_closes_first, searched_first, searched_escaped, searched_slash, searched_plain}
use Rattle.tptp_tokens.proofs.quoted.between_quotes.Goals as goal

pub returns-then-left-bytes-clause-found : goal.returns-then-left-bytes-clause-found
returns-then-left-bytes-clause-found c = sym (none_closes_first c.args.quote _ c.args.bytes.now c.requires c.if-left-bytes.true)

pub loop-rest-init : goal.loop-rest-init
loop-rest-init c = record {
  same = grind (arith, common_steps);
  searched = searched_first c.args.quote c.args.bytes.now;
}

pub loop-rest-preserved-in_ok-push : goal.loop-rest-preserved-in_ok-push
loop-rest-preserved-in_ok-push c = record {
  same = grind (arith, common_steps);
  searched = searched_escaped c.args.quote c.loop-rest.escaped _ _ c.in-len1-up.len_at_least c.if-escaped.true c.loop-rest.invariant.searched;
}

pub loop-rest-preserved-then-b-eq92 : goal.loop-rest-preserved-then-b-eq92
loop-rest-preserved-then-b-eq92 c = record {
  same = grind (arith, common_steps);
  searched = searched_slash c.args.quote c.loop-rest.escaped _ _ c.in-len1-up.len_at_least c.if-escaped.false c.if-b-quote-2.false c.if-b-eq92.true c.loop-rest.invariant.searched;
}

pub loop-rest-preserved : goal.loop-rest-preserved
loop-rest-preserved c = record {
  same = grind (arith, common_steps);
  searched = searched_plain c.args.quote c.loop-rest.escaped _ _ c.in-len1-up.len_at_least c.if-escaped.false c.if-b-quote-2.false c.if-b-eq92.false c.loop-rest.invariant.searched;
}
