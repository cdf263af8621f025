use Rattle.plan.proofs.thins.form_of_step.Goals as goal

pub form-requires-clause-graph : goal.form-requires-clause-graph
form-requires-clause-graph c = c.requires.graph

pub form-requires-clause-parents : goal.form-requires-clause-parents
form-requires-clause-parents c = c.requires.parents
