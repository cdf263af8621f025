use Rattle.std.proofs.Common.{subst}
use Rattle.ground_instances.specs.Growing.{AreLiteralsEntered, ground_literals}
use Rattle.ground_instances.specs.Notes.{judged_given}
use Rattle.ground_instances.specs.Rows.{terms_by}
use Rattle.ground_instances.proofs.ClauseLaws.{found_clause}
use Rattle.ground_instances.proofs.state.ground_clause.Goals as goal

pub returns-in_ok-lits-in-Some : goal.returns-in_ok-lits-in-Some
returns-in_ok-lits-in-Some c =
    let table = c.args.table.now in let named = c.args.named.now in let clause = c.in-Some.clause.now in let new = c.enter_literals.new.table in let lits = c.in_ok-lits-in-Some.lits in (
      clause,
      found_clause (judged_given c.args.given.now) c.args.lists.now named.place clause c.requires.lists c.in-Some.ensures (terms_by table named.terms),
      subst (λ vs. AreLiteralsEntered table (ground_literals table vs clause.lits) new lits) c.as_slice-values.ensures
          (subst (λ ls. AreLiteralsEntered table (ground_literals table c.as_slice-values.result.now ls) new lits) c.as_slice.ensures c.in_ok-lits-in-Some.ensures),
    )
