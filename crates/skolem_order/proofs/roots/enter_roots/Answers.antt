use Rattle.std.specs.List.{flat_map}
use Rattle.skolem_order.proofs.EnteredLaws.{entered_both}
use Rattle.skolem_order.specs.Order.{clause_terms, thin_terms}
use Rattle.skolem_order.proofs.roots.enter_roots.Goals as goal

pub returns : goal.returns
returns c =
    entered_both c.args.table.now c.enter_thins.new.table c.enter_clauses.new.table (flat_map thin_terms c.args.thins.now) (flat_map clause_terms c.args.clauses.now)
    c.in_ok-enter_thins.ensures c.in_ok-enter_clauses.ensures
