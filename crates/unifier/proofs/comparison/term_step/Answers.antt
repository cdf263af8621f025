use Rattle.std.proofs.Common.{sym, ◌∙◌}
use Rattle.unifier.proofs.ComparisonLaws.{occurs_refuted, term_bound}
use Rattle.unifier.proofs.comparison.term_step.Goals as goal

pub returns-then-branch : goal.returns-then-branch
returns-then-branch c =
    occurs_refuted c.args.frozen c.args.s.now c.args.i c.args.b.now c.requires.sound c.requires.no_variable
    (λ m ok. sym c.if-branch.true ∙ c.in_ok-occurs.ensures m ok)

pub returns : goal.returns
returns c =
    term_bound c.args.frozen c.args.s.now c.args.i c.args.b.now c.in_ok-term.term c.in_ok-term.ensures c.if-i-frozen.false c.requires.within c.requires.free c.requires.below
    (λ m ok. sym c.if-branch.false ∙ c.in_ok-occurs.ensures m ok)
