use Rattle.std.proofs.Common.{◌+◌, ◌*◌, max}
use Rattle.nd_term.specs.declared.tree.Tree.{size-Tree}
use Rattle.nd_term.proofs.consumer.+consume.Given as goal

abbrev pub decreases-consume : goal.decreases-consume
decreases-consume l = 4 * size-Tree l.tree.now + 3

abbrev pub decreases-consume_not : goal.decreases-consume_not
decreases-consume_not l = 4 * size-Tree l.tree.now + 2

abbrev pub decreases-consume_and : goal.decreases-consume_and
decreases-consume_and l = 4 * size-Tree l.tree.now + 2

abbrev pub decreases-consume_or : goal.decreases-consume_or
decreases-consume_or l = 4 * size-Tree l.tree.now + 2

abbrev pub decreases-consume_imp : goal.decreases-consume_imp
decreases-consume_imp l = 4 * size-Tree l.tree.now + 2

abbrev pub decreases-consume_iff : goal.decreases-consume_iff
decreases-consume_iff l = 4 * size-Tree l.tree.now + 2

abbrev pub decreases-consume_denied_iff : goal.decreases-consume_denied_iff
decreases-consume_denied_iff l = 4 * size-Tree l.tree.now + 2

abbrev pub decreases-consume_nested : goal.decreases-consume_nested
decreases-consume_nested l = 4 * max (size-Tree l.first.now) (size-Tree l.second.now) + 4

abbrev pub decreases-consume_all : goal.decreases-consume_all
decreases-consume_all l = 4 * size-Tree l.tree.now + 2

abbrev pub decreases-consume_ex : goal.decreases-consume_ex
decreases-consume_ex l = 4 * size-Tree l.tree.now + 2

abbrev pub decreases-consume_under : goal.decreases-consume_under
decreases-consume_under l = 4 * size-Tree l.tree.now + 4
