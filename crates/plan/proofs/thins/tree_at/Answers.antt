use Rattle.plan.proofs.thins.tree_at.Goals as goal

pub returns : goal.returns
returns c = record { row = c.in-Some.row.now; listed = c.in-Some.ensures; tree = c.in_ok-thin.ensures.choices }
