use Rattle.std.proofs.Common.{take}
use Rattle.ground_instances.specs.Naming.{AreNamesFit}
use Rattle.ground_instances.specs.Notes.{AreFound, judged_given}
use Rattle.ground_instances.proofs.needing.prepare.Given as goal

abbrev pub invariant-loop-named : goal.invariant-loop-named
invariant-loop-named l = record {
  right : AreFound (judged_given l.given) l.found;
  fit : AreNamesFit (judged_given l.given) (take l.named-index l.names);
}
