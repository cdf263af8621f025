use Rattle.std.proofs.Common.{ap, ◌∙◌}
use Rattle.lp_term.specs.View.{term_of}
use Rattle.lp_term.proofs.ViewLaws.{view_arrow}
use Rattle.nd_term.proofs.Results.{ok_map}
use Rattle.nd_term.proofs.build.arrow.Goals as goal

pub returns : goal.returns
returns c = ok_map c.arrow.result (λ r e. ap term_of e ∙ view_arrow c.args.domain c.args.body.now) c.arrow.ensures
