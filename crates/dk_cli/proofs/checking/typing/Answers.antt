use Rattle.dk_cli.specs.Checking.{IsTyping}
use Rattle.dk_cli.proofs.StageLaws.{answered}
use Rattle.dk_cli.proofs.checking.typing.Goals as goal

pub returns : goal.returns
returns c = answered (IsTyping c.args.development.now) c.told_check.result (c.check.result, c.check.ensures.verdict, c.told_check.ensures)
