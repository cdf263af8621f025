use Rattle.std.proofs.Common.{arith}
use Rattle.tptp_tokens.specs.Brackets.{too_deep}
use Rattle.tptp_tokens.proofs.BracketLaws.{deep_counted}
use Rattle.tptp_tokens.proofs.Places.{places}
use Rattle.tptp_tokens.proofs.chunks.is_too_deep.Goals as goal

pub returns-then-unclosed-eq1000 : goal.returns-then-unclosed-eq1000
unfolding too_deep
returns-then-unclosed-eq1000 c = deep_counted _ c.args.tokens.now (grind (arith, places))

pub returns : goal.returns
unfolding too_deep
returns c = deep_counted _ c.args.tokens.now (grind (arith, places))
