use Rattle.tptp_tokens.proofs.UnclosedQuotes.{none_at_first}
use Rattle.tptp_tokens.proofs.quoted.Unclosed.new.Goals as goal

pub returns : goal.returns
returns c = (none_at_first 39 c.args.bytes.now, none_at_first 34 c.args.bytes.now)
