use Rattle.step_tests.proofs.chains.answer.Goals as goal

pub chain_of-requires-clause-target : goal.chain_of-requires-clause-target
chain_of-requires-clause-target c = c.is_numbered.ensures.0 c.if-is_numbered.true

pub chain_of-requires-clause-parents : goal.chain_of-requires-clause-parents
chain_of-requires-clause-parents c = c.are_numbered.ensures.0 c.if-are_numbered.true
