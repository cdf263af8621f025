use Rattle.std.proofs.Common.{◌≤◌}
use Rattle.normal_form.specs.declared.form.Nf.{size-Nf}
use Rattle.normal_form.proofs.form.Nf.+drop.Given as goal

abbrev pub invariant-loop-self : goal.invariant-loop-self
invariant-loop-self l = size-Nf l.self ≤ size-Nf l.initial.self
