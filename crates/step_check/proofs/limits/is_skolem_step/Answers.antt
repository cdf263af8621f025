use Rattle.step_check.proofs.FittedParents.{says_skolem}
use Rattle.step_check.specs.Notes.{case_given}
use Rattle.step_check.proofs.limits.is_skolem_step.Goals as goal

pub returns-in-Derived : goal.returns-in-Derived
returns-in-Derived c =
    says_skolem (case_given c.args.given.now) c.args.number c.in-Some.step.now c.in-Derived.cth c.in-Derived.esa c.in-Derived.parents
    c.in-Some.ensures c.in-Derived.is
