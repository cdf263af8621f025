use Rattle.std.proofs.Common.{◌++◌, ◌∷◌, [], ◌∙◌, sym}
use Rattle.lp_term.specs.View.{term_of}
use Rattle.nd_term.specs.Places.{last_variables}
use Rattle.nd_term.proofs.PickSteps.{picked_end, picked_step}
use Rattle.nd_term.proofs.instance.apply_with_pivot.Goals as goal

pub loop-pick-preserved : goal.loop-pick-preserved
loop-pick-preserved c =
    picked_step (last_variables c.args.count ++ term_of c.args.pivot.now ∷ []) c.args.picks.now c.loop-pick.pick-index (term_of c.loop-pick.all) (term_of c.in_ok-all.all) _
    c.loop-pick-test.true (sym c.in_ok-argument.ensures) c.in_ok-all.ensures
    ∙ c.loop-pick.invariant

pub returns : goal.returns
returns c =
    picked_end (last_variables c.args.count ++ term_of c.args.pivot.now ∷ []) c.args.picks.now c.loop-pick.pick-index (term_of c.loop-pick.all) c.loop-pick-test.false
    ∙ c.loop-pick.invariant
