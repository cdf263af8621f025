use Rattle.std.proofs.Common.{◌≡◌, ◌++◌, ◌∷◌, [], drop}
use Rattle.lp_term.specs.View.{term_of}
use Rattle.nd_term.specs.Instances.{applied_to, pick}
use Rattle.nd_term.specs.Places.{last_variables}
use Rattle.nd_term.proofs.instance.apply_with_pivot.Given as goal

abbrev pub invariant-loop-pick : goal.invariant-loop-pick
invariant-loop-pick l =
    applied_to (term_of l.all) (pick (last_variables l.count ++ term_of l.pivot ∷ []) (drop l.pick-index l.picks))
    ≡ applied_to (term_of l.fn.proof) (pick (last_variables l.count ++ term_of l.pivot ∷ []) l.picks)
