use Rattle.lp_term.specs.View.{term_of}
use Rattle.lp_kernel.proofs.FrameLaws.{argument_same, argument_other}
use Rattle.lp_kernel.proofs.resume.argument_value.Goals as goal

pub returns-then-branch : goal.returns-then-branch
returns-then-branch c = argument_same c.args.level c.args.node (term_of c.args.x.now) (term_of c.args.of) (term_of c.args.value) (c.in_ok-same_lazy.ensures.0 c.if-branch.true)

pub returns : goal.returns
returns c = argument_other c.args.level c.args.node (term_of c.args.x.now) (term_of c.args.of) (term_of c.args.value) _ _ (λ e. let h = c.in_ok-same_lazy.ensures.1 e in let k = c.if-branch.false in cc) c.in_ok-wanted.ensures c.in_ok-found.ensures
