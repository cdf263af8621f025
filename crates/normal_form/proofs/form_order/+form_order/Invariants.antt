use Rattle.std.proofs.Common.{◌≡◌, ◌≤◌}
use Rattle.std.specs.Ordering.{ordering_then}
use Rattle.normal_form.specs.Sorting.{form_order}
use Rattle.normal_form.specs.Works.{bare_of}
use Rattle.normal_form.specs.declared.work.Work.{size-Work}
use Rattle.normal_form.proofs.form_order.+form_order.Given as goal

abbrev pub decreases-form_order : goal.decreases-form_order
decreases-form_order l = size-Work l.a.now

-- the left parts decide before those met
abbrev pub invariant-loop-left : goal.invariant-loop-left
invariant-loop-left l =
    (ordering_then (form_order (bare_of l.left) (bare_of l.right)) l.after ≡ form_order (bare_of l.a) (bare_of l.b))
    × (size-Work l.left ≤ size-Work l.a)

abbrev pub decreases-loop-left : goal.decreases-loop-left
decreases-loop-left l = size-Work l.left
