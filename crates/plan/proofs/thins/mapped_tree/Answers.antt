use Rattle.std.proofs.Common.{◌≡◌, Some, subst}
use Rattle.ground_instances.specs.Keys.{verdict_in}
use Rattle.plan.proofs.thins.mapped_tree.Goals as goal

pub tree_by-requires-clause-here : goal.tree_by-requires-clause-here
tree_by-requires-clause-here c =
    subst (λ list. verdict_in list c.args.instance.now.step ≡ Some c.in-Some.verdict.now) c.as_slice.ensures c.in-Some.ensures
