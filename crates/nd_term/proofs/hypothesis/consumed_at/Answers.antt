use Rattle.std.proofs.Common.{refl}
use Rattle.lp_term.specs.View.{term_of}
use Rattle.nd_term.specs.Views.{theory_formula}
use Rattle.nd_term.proofs.HypothesisSteps.{begins}
use Rattle.nd_term.proofs.Results.{ok_map}
use Rattle.nd_term.proofs.hypothesis.consumed_at.Goals as goal

pub returns : goal.returns
returns c =
    ok_map c.consume.result
    (λ r e. begins (theory_formula c.args.f.now) c.args.thin.now c.args.base c.args.place.now _ _ _ _ _ (term_of r) e refl refl refl c.in_ok-reading.ensures c.in_ok-left.ensures c.at_level-proof.ensures)
    c.consume.ensures
