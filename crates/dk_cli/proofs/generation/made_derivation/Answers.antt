use Rattle.std.proofs.Common.{subst}
use Rattle.generator.specs.Files.{trace_text}
use Rattle.dk_cli.specs.Derivations.{IsDerivationIn}
use Rattle.dk_cli.specs.Stages.{Answered}
use Rattle.dk_cli.proofs.generation.made_derivation.Goals as goal

pub returns-clause-answer : goal.returns-clause-answer
returns-clause-answer c =
    let files = c.in_ok-problem.field-0 in
    subst (λ problem. Answered (IsDerivationIn problem (trace_text c.args.number)) c.derivation_in.result) c.in_ok-problem.ensures.problem
    (subst (λ trace. Answered (IsDerivationIn files.problem.items trace) c.derivation_in.result) c.in_ok-problem.ensures.trace c.derivation_in.ensures.answer)
