use Rattle.std.proofs.Common.{◌≡◌, drop, map}
use Rattle.dk_syntax.specs.Terms.{any_true, has_variable}
use Rattle.skolem_order.proofs.occurrence.+stands_in.Given as goal

abbrev pub invariant-stands_in_one-loop-term : goal.invariant-stands_in_one-loop-term
invariant-stands_in_one-loop-term l =
    any_true (map (has_variable l.k) (drop l.term-index l.terms)) ≡ any_true (map (has_variable l.k) l.terms)
