use Rattle.unifier.proofs.comparison.+follow.Goals as goal

pub returns-in_ok-end-in-Some-clause-below : goal.returns-in_ok-end-in-Some-clause-below
returns-in_ok-end-in-Some-clause-below t c = λ below _. c.in_ok-end-in-Some.ensures.below below (below c.in-Var.k c.in-Some.bound.now c.in-Some.ensures)
