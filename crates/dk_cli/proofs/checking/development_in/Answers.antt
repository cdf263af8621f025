use Rattle.std.proofs.Common.{subst}
use Rattle.dk_cli.specs.Checking.{IsDevelopmentIn}
use Rattle.dk_cli.specs.Stages.{Answered}
use Rattle.dk_cli.proofs.checking.development_in.Goals as goal

pub returns : goal.returns
returns c = subst (λ bytes. Answered (IsDevelopmentIn c.args.syntax bytes) c.read.result) c.deref.ensures.value c.read.ensures
