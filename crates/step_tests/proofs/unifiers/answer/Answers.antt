use Rattle.step_tests.proofs.unifiers.answer.Goals as goal

pub solve-requires : goal.solve-requires
solve-requires c = c.equations_below.ensures.0 c.if-equations_below.true
