use Rattle.std.proofs.Common.{Contains, subst}
use Rattle.step_check.proofs.WithinLaws.{parent_nodes}
use Rattle.step_check.specs.Notes.{case_given}
use Rattle.step_check.proofs.inference.has_existential.Goals as goal

pub one_exists-requires-clause-within : goal.one_exists-requires-clause-within
one_exists-requires-clause-within c = λ q there.
    parent_nodes (case_given c.args.given.now) c.args.number q c.requires.within (subst (λ l. Contains l q) c.parents_at.ensures there)
