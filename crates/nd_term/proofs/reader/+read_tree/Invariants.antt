use Rattle.std.proofs.Common.{◌+◌, ◌*◌, max}
use Rattle.dk_syntax.specs.declared.Formula.{size-Formula}
use Rattle.nd_term.proofs.reader.+read_tree.Given as goal

abbrev pub decreases-read_tree : goal.decreases-read_tree
decreases-read_tree l = 3 * size-Formula l.f.now

abbrev pub decreases-read_side : goal.decreases-read_side
decreases-read_side l = 3 * max (size-Formula l.a.now) (size-Formula l.b.now) + 1

abbrev pub decreases-read_both : goal.decreases-read_both
decreases-read_both l = 3 * max (size-Formula l.a.now) (size-Formula l.b.now) + 1

abbrev pub decreases-read_iff : goal.decreases-read_iff
decreases-read_iff l = 3 * max (size-Formula l.a.now) (size-Formula l.b.now) + 2

abbrev pub decreases-read_denied_iff : goal.decreases-read_denied_iff
decreases-read_denied_iff l = 3 * max (size-Formula l.a.now) (size-Formula l.b.now) + 2

abbrev pub decreases-read_choice : goal.decreases-read_choice
decreases-read_choice l = 3 * size-Formula l.a.now + 1

abbrev pub decreases-read_witness : goal.decreases-read_witness
decreases-read_witness l = 3 * size-Formula l.a.now + 1
