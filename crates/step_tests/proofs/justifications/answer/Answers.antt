use Rattle.step_tests.proofs.justifications.answer.Goals as goal

pub justify-requires-clause-target : goal.justify-requires-clause-target
justify-requires-clause-target c = c.is_numbered.ensures.0 c.if-is_numbered.true

pub justify-requires-clause-parents : goal.justify-requires-clause-parents
justify-requires-clause-parents c = c.are_numbered.ensures.0 c.if-are_numbered.true
