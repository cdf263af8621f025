-- Verdict lists from which instances are pulled back.
use Rattle.std.specs.Prelude.{None}
use Rattle.dk_syntax.specs.declared.Problem.{Problem}
use Rattle.derivation_graph.specs.declared.graph.Graph.{Graph}
use Rattle.step_check.specs.Freshness.{AreVerdicts, IsFirstBad}
use Rattle.step_check.specs.Steps.{case_of}
use Rattle.step_check.specs.declared.verdict.Verdicts.{Verdicts}
use Rattle.tstp_trace.specs.declared.step.Trace.{Trace}

-- it is the verdict list of the trace for a problem, and no step is bad
abbrev pub AreRightVerdicts : Trace → Graph → Verdicts → Type 0
AreRightVerdicts trace graph verdicts =
    (problem : Problem) × AreVerdicts (case_of problem trace graph) verdicts.list × IsFirstBad verdicts.list None
