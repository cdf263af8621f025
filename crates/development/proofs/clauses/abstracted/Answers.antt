use Rattle.std.proofs.Common.{◌∙◌, arith, length, sym}
use Rattle.lp_term.specs.View.{term_of}
use Rattle.nd_term.specs.Outputs.{output_literal}
use Rattle.development.proofs.ClauseSteps.{abstracted_step}
use Rattle.development.proofs.clauses.abstracted.Goals as goal

pub loop-left-preserved : goal.loop-left-preserved
loop-left-preserved c =
    let place = c.args.place.now in (
      omega arith,
      abstracted_step (output_literal place.symbols.now place.order.now) place.first_eigen (length place.order.now) place.level c.loop-left.left c.args.lits.now c.index-lits-left.result
          (term_of c.loop-left.all) (term_of c.in_ok-all.all) (term_of c.in_ok-domain.domain) (omega arith) (omega arith) (sym c.index-lits-left.is) c.in_ok-all.ensures c.in_ok-domain.ensures
          ∙ c.loop-left.invariant.1,
    )
