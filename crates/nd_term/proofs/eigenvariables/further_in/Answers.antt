use Rattle.std.proofs.Common.{ap, ◌∙◌}
use Rattle.lp_term.specs.View.{term_of}
use Rattle.nd_term.proofs.LiftSteps.{view_times}
use Rattle.nd_term.proofs.Results.{ok_map}
use Rattle.nd_term.proofs.eigenvariables.further_in.Goals as goal

pub returns : goal.returns
returns c = ok_map c.lift.result (λ r e. ap term_of e ∙ view_times c.args.binders c.args.t.now) c.lift.ensures
