use Rattle.tptp_tokens.proofs.BracketLaws.{is_counted}
use Rattle.tptp_text.proofs.text.has_deep_brackets.Goals as goal

pub returns : goal.returns
returns c = is_counted c.is_too_deep.result c.args.tokens.now c.is_too_deep.ensures
