use Rattle.std.proofs.Common.{sym, subst}
use Rattle.ground_instances.specs.Instances.{clauses_in}
use Rattle.ground_instances.specs.Lists.{instances_of}
use Rattle.plan.proofs.GroundTrees.{ground_rows}
use Rattle.plan.proofs.PlanParts.{order_stands, weight_stands}
use Rattle.plan.proofs.planning.plan_with.Goals as goal
use Rattle.plan.specs.Maps.{AreStepMaps}
use Rattle.plan.specs.Plans.{judged_in}

pub maps_of-requires-clause-graph : goal.maps_of-requires-clause-graph
maps_of-requires-clause-graph c = c.requires.judged.start.graph_is

pub maps_of-requires-clause-right : goal.maps_of-requires-clause-right
maps_of-requires-clause-right c = (c.args.problem.now, c.requires.judged.verdicts, c.requires.right)

pub origins_of-requires-clause-graph : goal.origins_of-requires-clause-graph
origins_of-requires-clause-graph c = c.requires.judged.start.graph_is

pub origins_of-requires-clause-right : goal.origins_of-requires-clause-right
origins_of-requires-clause-right c = (c.args.problem.now, c.requires.judged.verdicts, c.requires.right)

pub origins_of-requires-clause-maps : goal.origins_of-requires-clause-maps
origins_of-requires-clause-maps c =
    let judged = judged_in c.args.problem.now c.args.trace.now c.args.start.graph c.args.verdicts.list in
    subst (AreStepMaps judged) (sym c.as_slice-list.ensures) c.in_ok-maps.ensures

pub thins_of-requires : goal.thins_of-requires
thins_of-requires c =
    let judged = judged_in c.args.problem.now c.args.trace.now c.args.start.graph c.args.verdicts.list in
    record {
      graph = c.requires.judged.start.graph_is;
      parents = c.requires.parents;
      right = record { are = c.requires.judged.verdicts; right = c.requires.right; acyclic = c.requires.judged.start.graph_is.1 };
      maps = subst (AreStepMaps judged) (sym c.as_slice-list.ensures) c.in_ok-maps.ensures;
    }

pub returns : goal.returns
returns c =
    let judged = judged_in c.args.problem.now c.args.trace.now c.args.start.graph c.args.verdicts.list in
    let instances = instances_of c.args.instances in
    record {
      judged = c.requires.judged;
      right = c.requires.right;
      instances = c.requires.pulled.answer;
      table = c.requires.pulled.table;
      weight = weight_stands (clauses_in instances) c.args.limit c.weight-total.result c.requires.pulled.answer.1 c.ranges.limit.fits
          (c.weight-total.ensures.weight c.requires.pulled.table);
      maps = c.in_ok-maps.ensures;
      thins = c.in_ok-thins.ensures;
      origins = c.in_ok-origins.ensures;
      order = order_stands c.in_ok-origins.origins.list judged instances c.in_ok-thins.thins c.as_slice-trees.result.now c.in_ok-order.order c.as_slice-trees.ensures
          (ground_rows c.args.instances.table c.in_ok-order.ensures.table c.args.instances.rows c.args.instances.below) c.in_ok-thins.ensures c.in_ok-order.ensures.needed;
    }
