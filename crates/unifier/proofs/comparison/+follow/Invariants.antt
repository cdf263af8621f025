use Rattle.unifier.proofs.comparison.+follow.Given as goal

abbrev pub decreases-follow : goal.decreases-follow
decreases-follow l = l.fuel
