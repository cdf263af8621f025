use Rattle.std.proofs.Common.{◌≡◌, map, drop}
use Rattle.lp_term.specs.View.{term_of}
use Rattle.nd_term.specs.Instances.{applied_to}
use Rattle.nd_term.specs.Outputs.{ground_of}
use Rattle.nd_term.specs.Places.{eigenvariables}
use Rattle.nd_term.specs.Translation.{translated_ground}
use Rattle.nd_term.proofs.ground.+ground_term.Given as goal

abbrev pub invariant-apply_ground-loop-arg : goal.invariant-apply_ground-loop-arg
invariant-apply_ground-loop-arg l =
    applied_to (term_of l.all) (map (λ u. translated_ground (eigenvariables l.place) (ground_of u)) (drop l.arg-index l.args))
    ≡ applied_to (term_of l.fn.head) (map (λ u. translated_ground (eigenvariables l.place) (ground_of u)) l.args)
