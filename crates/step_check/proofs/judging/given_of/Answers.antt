use Rattle.std.proofs.Common.{ℕ, List, sym, ap₂, subst}
use Rattle.dk_syntax.specs.declared.Problem.{Problem}
use Rattle.step_check.proofs.Entry.{given_sound}
use Rattle.step_check.specs.Notes.{IsSound}
use Rattle.step_check.specs.Steps.{Case}
use Rattle.tstp_trace.specs.declared.step.Step.{Step}
use Rattle.step_check.proofs.judging.given_of.Goals as goal

abbrev case_at : Problem → List Step → List (List ℕ) → Case
case_at problem steps rows = record { problem = problem; steps = steps; rows = rows }

pub returns-clause-sound : goal.returns-clause-sound
returns-clause-sound c =
    subst IsSound (sym (ap₂ (case_at c.args.problem.now) c.as_slice.ensures c.as_slice-2.ensures))
    (given_sound c.args.problem.now c.args.trace.now c.args.graph.now c.requires.graph c.requires.parents)
