use Rattle.std.proofs.Common.{◌≡◌, ◌++◌, ◌≤◌, arith, length, subst}
use Rattle.std.proofs.lemmas.Grind.{common_steps}
use Rattle.extract.specs.ExpansionReport.{instance_lines, instances_from}
use Rattle.extract.proofs.ReportLines.{lines_all, lines_more}
use Rattle.extract.proofs.report.put_instances.Goals as goal
use Rattle.ground_instances.specs.Lists.{instances_of}

pub loop-number-preserved : goal.loop-number-preserved
loop-number-preserved c =
    let steps = c.args.steps.now in
    let plan = c.args.plan.now in
    let list = instances_of plan.instances in
    let written = subst (λ k. c.put_instance_lines.new.out.items ≡ c.loop-number.out.items ++ instance_lines steps plan k c.in_ok-it.it) c.from.ensures c.in_ok-put_instance_lines.ensures in
    lines_more steps plan list c.loop-number.number c.in_ok-it.it c.loop-number.out.items c.put_instance_lines.new.out.items
    (c.args.out.now.items ++ instances_from steps plan 0 list) c.in_ok-it.ensures written c.loop-number.invariant

pub returns : goal.returns
returns c =
    let steps = c.args.steps.now in
    let plan = c.args.plan.now in
    let list = instances_of plan.instances in
    let whole : length list ≤ c.loop-number.number = grind (arith, common_steps) in
    lines_all steps plan list c.loop-number.number c.loop-number.out.items (c.args.out.now.items ++ instances_from steps plan 0 list) whole c.loop-number.invariant
