use Rattle.std.proofs.Common.{◌≡◌, map}
use Rattle.skolem_order.specs.Ranks.{term_in}
use Rattle.skolem_order.proofs.ranking.terms_of.Given as goal

abbrev pub invariant-loop-one : goal.invariant-loop-one
invariant-loop-one l = l.terms ≡ map term_in l.yielded
