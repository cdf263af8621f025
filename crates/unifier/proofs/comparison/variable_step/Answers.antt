use Rattle.unifier.proofs.ComparisonLaws.{first_bound, second_bound}
use Rattle.unifier.proofs.comparison.variable_step.Goals as goal

pub returns-then-i-frozen : goal.returns-then-i-frozen
returns-then-i-frozen c =
    first_bound c.args.frozen c.args.s.now c.args.i c.in-Var.j c.args.b.now c.in-Var.is c.if-i-j.false c.if-i-frozen.true c.requires.within c.requires.free
    (c.requires.end c.in-Var.j c.in-Var.is) c.requires.below

pub returns-then-j-frozen : goal.returns-then-j-frozen
returns-then-j-frozen c =
    second_bound c.args.frozen c.args.s.now c.args.i c.in-Var.j c.args.b.now c.in-Var.is c.if-i-j.false c.if-j-frozen.true c.requires.within c.requires.free
    (c.requires.end c.in-Var.j c.in-Var.is) c.requires.below
