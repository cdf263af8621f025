use Rattle.std.proofs.Common.{◌≡◌, ◌↔◌, ◌≤◌}
use Rattle.normal_form.specs.declared.form.Nf.{size-Nf}
use Rattle.normal_form.proofs.form.+nf_eq.Given as goal

abbrev pub decreases-nf_eq : goal.decreases-nf_eq
decreases-nf_eq l = size-Nf l.a.now

abbrev pub invariant-loop-left : goal.invariant-loop-left
invariant-loop-left l = ((l.left ≡ l.right) ↔ (l.a ≡ l.b)) × (size-Nf l.left ≤ size-Nf l.a)

abbrev pub decreases-loop-left : goal.decreases-loop-left
decreases-loop-left l = size-Nf l.left
