use Rattle.std.proofs.Common.{List, sym, subst}
use Rattle.ground_instances.specs.Keys.{Judged}
use Rattle.plan.proofs.MapAnswers.{judged_lists, right_steps, same_judged, same_right}
use Rattle.plan.specs.Maps.{AreStepMaps}
use Rattle.plan.specs.Origins.{AreOrigins}
use Rattle.skolem_order.specs.declared.origins.Origin.{Origin}
use Rattle.plan.proofs.origins.origins_of.Goals as goal

pub all_origins-requires-clause-right : goal.all_origins-requires-clause-right
all_origins-requires-clause-right c =
    let trace = c.args.trace.now in let graph = c.args.graph.now in let verdicts = c.args.verdicts.now in (
      c.requires.right.0,
      same_right trace.steps c.as_slice-steps.result.now graph.parents c.as_slice-rows.result.now verdicts.list c.as_slice-verdicts.result.now
          (sym c.as_slice-steps.ensures) (sym c.as_slice-rows.ensures) (sym c.as_slice-verdicts.ensures) c.requires.right.0 (right_steps trace graph verdicts c.requires.right c.requires.graph),
    )

pub all_origins-requires-clause-maps : goal.all_origins-requires-clause-maps
all_origins-requires-clause-maps c =
    let trace = c.args.trace.now in let graph = c.args.graph.now in let verdicts = c.args.verdicts.now in
    subst (λ (j : Judged). AreStepMaps j c.args.maps.now)
    (same_judged trace.steps c.as_slice-steps.result.now graph.parents c.as_slice-rows.result.now verdicts.list c.as_slice-verdicts.result.now
    (sym c.as_slice-steps.ensures) (sym c.as_slice-rows.ensures) (sym c.as_slice-verdicts.ensures)) c.requires.maps

pub returns : goal.returns
returns c =
    let trace = c.args.trace.now in let graph = c.args.graph.now in let verdicts = c.args.verdicts.now in
    subst (λ (j : Judged). AreOrigins j c.from_vec.result)
    (same_judged c.as_slice-steps.result.now trace.steps c.as_slice-rows.result.now graph.parents c.as_slice-verdicts.result.now verdicts.list
    c.as_slice-steps.ensures c.as_slice-rows.ensures c.as_slice-verdicts.ensures)
    (subst (λ (l : List Origin). AreOrigins (judged_lists c.as_slice-steps.result.now c.as_slice-rows.result.now c.as_slice-verdicts.result.now) l) (sym c.from_vec.ensures) c.in_ok-list.ensures)
