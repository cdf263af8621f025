use Rattle.std.proofs.Common.{◌∙◌, arith, sym}
use Rattle.lp_term.specs.View.{term_of}
use Rattle.development.proofs.BodyLaws.{assumed_step}
use Rattle.development.proofs.body.assumed.Goals as goal

pub loop-left-preserved : goal.loop-left-preserved
loop-left-preserved c = (
  omega arith,
  assumed_step c.loop-left.left c.args.hyps.now c.index-hyps-left.result (term_of c.loop-left.all) (term_of c.in_ok-all.all) (term_of c.in_ok-domain.domain) (omega arith) (omega arith)
      (sym c.index-hyps-left.is) c.in_ok-all.ensures c.in_ok-domain.ensures
      ∙ c.loop-left.invariant.1,
)
