use Rattle.std.proofs.Common.{◌+◌, ◌*◌, max}
use Rattle.dk_syntax.specs.declared.Formula.{size-Formula}
use Rattle.skolem_order.proofs.walk.+find.Given as goal

abbrev pub decreases-find : goal.decreases-find
decreases-find l = 4 * size-Formula l.f.now

abbrev pub decreases-find_either : goal.decreases-find_either
decreases-find_either l = 4 * max (size-Formula l.a.now) (size-Formula l.b.now) + 1

abbrev pub decreases-find_below : goal.decreases-find_below
decreases-find_below l = 4 * size-Formula l.body.now + 2

abbrev pub decreases-find_under : goal.decreases-find_under
decreases-find_under l = 4 * size-Formula l.body.now + 1
