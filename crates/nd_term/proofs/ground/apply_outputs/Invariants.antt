use Rattle.std.proofs.Common.{◌≡◌, map, drop}
use Rattle.lp_term.specs.View.{term_of}
use Rattle.nd_term.specs.Instances.{applied_to}
use Rattle.nd_term.specs.Outputs.{output}
use Rattle.nd_term.specs.Places.{eigenvariables}
use Rattle.nd_term.specs.Translation.{translated_ground}
use Rattle.nd_term.proofs.ground.apply_outputs.Given as goal

abbrev pub invariant-loop-arg : goal.invariant-loop-arg
invariant-loop-arg l =
    applied_to (term_of l.all) (map (λ u. translated_ground (eigenvariables l.place) (output l.place.symbols.now l.place.order.now u)) (drop l.arg-index l.args))
    ≡ applied_to (term_of l.fn.head) (map (λ u. translated_ground (eigenvariables l.place) (output l.place.symbols.now l.place.order.now u)) l.args)
