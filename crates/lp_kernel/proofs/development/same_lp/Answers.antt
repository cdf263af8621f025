use Rattle.lp_kernel.proofs.ProgramLaws.{same_tree_is}
use Rattle.lp_kernel.proofs.development.same_lp.Goals as goal

pub returns : goal.returns
returns c = same_tree_is c.args.a.now c.args.b.now c.same_tree.result c.same_tree.ensures.0 c.same_tree.ensures.1
