use Rattle.std.proofs.Common.{◌≡◌, Some, arith}
use Rattle.std.proofs.lemmas.Grind.{common_steps}
use Rattle.dedukti_read.proofs.StepLaws.{ended_there}
use Rattle.dedukti_read.proofs.step.ended.Goals as goal

pub returns-in-Some : goal.returns-in-Some
returns-in-Some c =
    let found : c.in_ok-collapse.field-0 ≡ Some (c.in-Some.frame, c.in-Some.whole) = grind (arith, common_steps) in
    ended_there _ _ c.collapse.new.place _ _ _ c.in-Some.frame c.in-Some.whole c.in_ok-collapse.field-0 found c.in_ok-collapse.ensures.widest c.collapse.ensures.patterns c.ended_by.ensures
