use Rattle.std.proofs.Common.{◌≤◌}
use Rattle.normal_form.specs.declared.work.Work.{size-Work}
use Rattle.normal_form.proofs.work.Work.+drop.Given as goal

abbrev pub invariant-loop-self : goal.invariant-loop-self
invariant-loop-self l = size-Work l.self ≤ size-Work l.initial.self
