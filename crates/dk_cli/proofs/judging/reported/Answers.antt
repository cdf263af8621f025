use Rattle.std.proofs.Common.{Ok, ap}
use Rattle.dk_cli.proofs.JudgingLaws.{verdicts_long}
use Rattle.dk_cli.proofs.judging.reported.Goals as goal

pub step_lines-requires : goal.step_lines-requires
step_lines-requires g c = verdicts_long c.args.derivation.now c.in_ok-verdicts.verdicts.list c.in_ok-verdicts.ensures

pub returns : goal.returns
returns g c = (c.in_ok-verdicts.verdicts.list, c.in_ok-verdicts.ensures, ap Ok c.in_ok-text.ensures)
