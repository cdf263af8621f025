use Rattle.std.proofs.Common.{take}
use Rattle.step_chain.specs.Resolvents.{kept}
use Rattle.step_chain.specs.Resolving.{AreAddedOnce}
use Rattle.step_chain.proofs.once.add_once.Given as goal

abbrev pub invariant-loop-k : goal.invariant-loop-k
invariant-loop-k l = AreAddedOnce l.fn.once (kept (take l.k l.literals) (take l.k l.taken)) l.once
