use Rattle.std.proofs.Common.{◌∙◌, arith, length, sym}
use Rattle.lp_term.specs.View.{term_of}
use Rattle.nd_term.specs.Outputs.{output_literal}
use Rattle.development.proofs.ClauseSteps.{typed_step}
use Rattle.development.proofs.clauses.typed.Goals as goal

pub loop-left-preserved : goal.loop-left-preserved
loop-left-preserved c =
    let place = c.args.place.now in (
      omega arith,
      typed_step (output_literal place.symbols.now place.order.now) place.first_eigen (length place.order.now) place.level c.loop-left.left c.args.lits.now c.index-lits-left.result
          (term_of c.loop-left.all) (term_of c.in_ok-all-2.all) (term_of c.in_ok-domain.domain) (omega arith) (omega arith) (sym c.index-lits-left.is) c.in_ok-all-2.ensures c.in_ok-domain.ensures
          ∙ c.loop-left.invariant.1,
    )
