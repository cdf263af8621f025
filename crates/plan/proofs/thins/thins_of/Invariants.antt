use Rattle.std.proofs.Common.{take}
use Rattle.ground_instances.specs.Lists.{instances_of}
use Rattle.plan.specs.Thins.{AreThins}
use Rattle.plan.specs.Trees.{AreLists, case_in, judged_from}
use Rattle.plan.proofs.thins.thins_of.Given as goal

-- the thin trees of the instances so far, and clause lists that are known
abbrev pub invariant-loop-number : goal.invariant-loop-number
invariant-loop-number l = record {
  thins : AreThins (judged_from l.sources) (take l.number (instances_of l.instances)) l.thins;
  lists : AreLists (case_in l.sources) l.lists;
}
