use Rattle.step_check.proofs.limits.noted_limit.Goals as goal

pub returns : goal.returns
returns c = (c.requires.right c.args.number c.known.result.now c.known.ensures).limit
