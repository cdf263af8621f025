use Rattle.std.proofs.Common.{ap, subst, sym}
use Rattle.dk_cli.specs.Checking.{IsDevelopmentIn}
use Rattle.dk_cli.specs.Stages.{Answered}
use Rattle.dk_cli.specs.declared.syntax.Syntax.TheVariants.{Lambdapi, Dedukti}
use Rattle.dk_cli.proofs.StageLaws.{answered}
use Rattle.dk_cli.proofs.syntax.Syntax.read.Goals as goal

pub returns-in-Lambdapi : goal.returns-in-Lambdapi
returns-in-Lambdapi c =
    subst (λ syntax. Answered (IsDevelopmentIn syntax c.args.bytes.now) c.told_lambdapi.result) (sym c.in-Lambdapi.is)
    (answered (IsDevelopmentIn Lambdapi c.args.bytes.now) c.told_lambdapi.result (c.read_dev.result, c.read_dev.ensures.answer, c.told_lambdapi.ensures))

pub returns-in-Dedukti : goal.returns-in-Dedukti
returns-in-Dedukti c =
    subst (λ syntax. Answered (IsDevelopmentIn syntax c.args.bytes.now) c.told_dedukti.result) (sym c.in-Dedukti.is)
    (answered (IsDevelopmentIn Dedukti c.args.bytes.now) c.told_dedukti.result (c.read_dk.result, c.read_dk.ensures.answer, c.told_dedukti.ensures))
