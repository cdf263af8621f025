use Rattle.std.proofs.Common.{◌≡◌, map, take}
use Rattle.step_skolem.specs.Carrying.{across}
use Rattle.step_skolem.proofs.carrying.renumber.Given as goal

abbrev pub invariant-loop-number : goal.invariant-loop-number
invariant-loop-number l = l.args ≡ map (across l.from.alls l.to.alls) (take l.number-index l.one.args)
