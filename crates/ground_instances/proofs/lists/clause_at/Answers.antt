use Rattle.ground_instances.specs.Clauses.{staged}
use Rattle.ground_instances.proofs.ClauseLaws.{match_as}
use Rattle.ground_instances.proofs.lists.clause_at.Goals as goal

pub returns : goal.returns
returns c = match_as c.staged_clause.result (λ it h. staged h) c.staged_clause.ensures
