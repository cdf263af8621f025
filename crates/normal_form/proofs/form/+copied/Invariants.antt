use Rattle.std.proofs.Common.{◌≡◌, ◌≤◌}
use Rattle.normal_form.specs.Layers.{within_all}
use Rattle.normal_form.specs.declared.form.Nf.{size-Nf}
use Rattle.normal_form.proofs.form.+copied.Given as goal

abbrev pub invariant-loop-rest : goal.invariant-loop-rest
invariant-loop-rest l = (within_all l.rest l.layers.items ≡ l.nf) × (size-Nf l.rest ≤ size-Nf l.nf)

abbrev pub decreases-loop-rest : goal.decreases-loop-rest
decreases-loop-rest l = size-Nf l.rest
