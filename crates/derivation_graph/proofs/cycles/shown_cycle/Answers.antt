use Rattle.std.proofs.Common.{rules}
use Rattle.derivation_graph.specs.Graphs.{IsOnCycle}
use Rattle.derivation_graph.specs.Ranks.{NeverFalls}
use Rattle.derivation_graph.proofs.RankLaws.{least_where_rises}
use Rattle.derivation_graph.proofs.cycles.shown_cycle.Goals as goal

pub returns-then-branch : goal.returns-then-branch
returns-then-branch c =
    let never : NeverFalls c.args.rows.now c.args.ranks.now = search rules in
    let cycle : IsOnCycle c.args.rows.now c.in-Some.step = search rules in
    least_where_rises c.args.rows.now c.args.ranks.now never c.in-Some.step cycle c.in-Some.ensures
