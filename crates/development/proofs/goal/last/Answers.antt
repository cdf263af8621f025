use Rattle.std.proofs.Common.{◌∙◌, arith, sym}
use Rattle.development.proofs.BodyLaws.{last_some}
use Rattle.development.proofs.goal.last.Goals as goal

pub returns : goal.returns
returns c = c.variable.ensures ∙ sym (last_some c.args.count (omega arith))
