use Rattle.std.proofs.Common.{◌≡◌, ◌≤◌}
use Rattle.normal_form.specs.Existentials.{existential_in}
use Rattle.normal_form.specs.declared.form.Nf.{size-Nf}
use Rattle.normal_form.proofs.form.+has_exists.Given as goal

abbrev pub invariant-loop-rest : goal.invariant-loop-rest
invariant-loop-rest l = (existential_in l.rest ≡ existential_in l.nf) × (size-Nf l.rest ≤ size-Nf l.nf)

abbrev pub decreases-loop-rest : goal.decreases-loop-rest
decreases-loop-rest l = size-Nf l.rest
