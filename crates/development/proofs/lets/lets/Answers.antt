use Rattle.std.proofs.Common.{◌≡◌, ◌-◌, ◌<◌, suc, arith, length, sym, ap, ◌∙◌}
use Rattle.development.specs.Lets.{let_built, lets_from}
use Rattle.development.proofs.LetSteps.{instance_there, lets_step}
use Rattle.development.proofs.lets.lets.Goals as goal

pub loop-left-preserved : goal.loop-left-preserved
loop-left-preserved c =
    let given = c.args.given.now in
    let problem = given.problem.now in
    let trace = given.trace.now in
    let plan = given.plan.now in
    let number = c.loop-left.left - 1 in
    let within : number < length plan.instances.rows = omega arith in
    let one = instance_there plan.instances number within in
    let next : c.loop-left.left ≡ suc number = omega arith in (
      omega arith,
      c.in_ok-all.ensures one.0 one.1
          ∙ ap (let_built problem trace plan given.first given.begin number one.0) (c.loop-left.invariant.1 ∙ ap (lets_from problem trace plan given.first given.begin) next)
          ∙ sym (lets_step problem trace plan given.first given.begin number one.0 one.1),
    )
