use Rattle.std.proofs.Common.{◌≡◌, map, take}
use Rattle.dk_syntax.specs.Terms.{substituted}
use Rattle.expansion.specs.Rows.{term_at}
use Rattle.skolem_order.specs.Origins.{outside}
use Rattle.skolem_order.proofs.putting.+put_term.Given as goal

abbrev pub invariant-put_all-loop-arg : goal.invariant-put_all-loop-arg
invariant-put_all-loop-arg l = l.put ≡ map (substituted (outside (term_at l.terms) l.inside)) (take l.arg-index l.args)
