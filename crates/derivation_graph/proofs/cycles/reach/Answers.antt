use Rattle.std.proofs.Common.{arith}
use Rattle.std.proofs.lemmas.Grind.{common_steps}
use Rattle.derivation_graph.proofs.ReachLaws.{spreads_to_new}
use Rattle.derivation_graph.proofs.cycles.reach.Goals as goal

pub returns : goal.returns
returns c =
    spreads_to_new c.args.number c.args.seen.now.items c.args.pending.now.items c.push.new.self.items c.requires (grind (arith, common_steps)) c.in_ok-push.ensures.items (grind (arith, common_steps))
