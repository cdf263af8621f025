use Rattle.std.proofs.Common.{ap, ◌∙◌}
use Rattle.lp_term.specs.View.{term_of}
use Rattle.lp_term.proofs.ViewLaws.{view_shift}
use Rattle.nd_term.proofs.Results.{ok_map}
use Rattle.nd_term.proofs.build.deeper.Goals as goal

pub returns : goal.returns
returns c = ok_map c.lift.result (λ r e. ap term_of e ∙ view_shift c.args.t.now) c.lift.ensures
