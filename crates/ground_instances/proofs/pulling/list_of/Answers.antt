use Rattle.std.proofs.Common.{sym, subst}
use Rattle.ground_instances.specs.Rows.{AreRowsBelow}
use Rattle.ground_instances.proofs.pulling.list_of.Goals as goal

pub invariant_of-result : goal.invariant_of-result
invariant_of-result c = record { below = subst (AreRowsBelow c.args.state.table) (sym c.from_vec.ensures) c.requires }
