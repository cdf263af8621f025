use Rattle.std.proofs.Common.{sym, ◌∙◌, arith}
use Rattle.lp_term.specs.View.{term_of}
use Rattle.lp_kernel.proofs.StepLaws.{applied_found}
use Rattle.lp_kernel.proofs.resume.applied_of.Goals as goal

pub returns : goal.returns
returns c = applied_found c.args.node c.in_ok-rank.rank c.in_ok-next.next (term_of c.args.function) (term_of c.args.a.now) (term_of c.args.b.now) (term_of c.args.by) (term_of c.in_ok-of.of) (term_of c.in_ok-value.value)
    (sym c.in_ok-stays_in_fragment.ensures ∙ c.if-not-branch.false) c.in_ok-rank.ensures (omega arith) c.in_ok-of.ensures c.in_ok-value.ensures
