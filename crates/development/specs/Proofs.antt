-- The proof of falsity of an instance below its literals' variables, as it is built at a place.
use Rattle.std.specs.Prelude.{ℕ, ◌+◌, Bool, true, false, [], ◌∷◌, length, slice_get, Option, Some, None}
use Rattle.expansion.specs.declared.thin.Thin.{Thin}
use Rattle.dk_syntax.specs.declared.Problem.{Problem}
use Rattle.ground_instances.specs.Keys.{verdict_in}
use Rattle.ground_instances.specs.declared.instance.Instance.{Instance}
use Rattle.lp_term.specs.LambdaPi.{Term}
use Rattle.nd_term.specs.Instances.{applied_to}
use Rattle.nd_term.specs.Justified.{justified_proof}
use Rattle.nd_term.specs.Places.{at_level, last_variables}
use Rattle.nd_term.specs.ThinReading.{consumer_at}
use Rattle.nd_term.specs.Views.{theory_formula}
use Rattle.nd_term.specs.declared.place.Place.{Place}
use Rattle.plan.specs.Maps.{map_at}
use Rattle.plan.specs.declared.maps.StepMap.{StepMap}
use Rattle.plan.specs.declared.plan.Plan.{Plan}
use Rattle.plan_typing.specs.Reasons.{formula_at, hypothesis_of, justification_from, literals_at, needed_at}
use Rattle.step_clause.specs.declared.justification.Justification.{Justification}
use Rattle.tstp_trace.specs.declared.step.Trace.{Trace}

-- the proof of the instance that is bound at a level, at so many literals' variables in order
abbrev pub proof_at : Place → (level count : ℕ) → Term
proof_at place level count = applied_to (at_level place.level level) (last_variables count)

module _ (problem : Problem) (trace : Trace) (plan : Plan) where
  -- a hypothesis consumed, or the denied conjecture
  abbrev pub proof_of_leaf : Place → Thin → StepMap → Bool → Term
  proof_of_leaf place thin it true =
      consumer_at (theory_formula (formula_at (slice_get problem.hyps (hypothesis_of problem trace plan it.leaf)))) thin (hypothesis_of problem trace plan it.leaf) place
  proof_of_leaf place thin it false = consumer_at (theory_formula (formula_at problem.conjecture)) thin (length problem.hyps) place

  -- the first instance has the level begin
  abbrev pub proof_of_tree : Place → (begin count : ℕ) → Thin → Option StepMap → Term
  proof_of_tree place begin count thin None = proof_at place begin count
  proof_of_tree place begin count thin (Some it) = proof_of_leaf place thin it it.sign

  abbrev pub proof_by : Place → ℕ → Instance → Option Justification → Term
  proof_by place begin it None = proof_at place (begin + needed_at problem trace plan it 0) (length it.lits)
  proof_by place begin it (Some j) =
      justified_proof place j it.lits (literals_at problem trace plan (needed_at problem trace plan it 0) ∷ [])
      ((begin + needed_at problem trace plan it 0) ∷ (begin + needed_at problem trace plan it 1) ∷ [])

  abbrev pub proof_of_instance : Place → ℕ → Instance → Option Thin → Term
  proof_of_instance place begin it (Some thin) = proof_of_tree place begin (length it.lits) thin (map_at plan.maps it.step)
  proof_of_instance place begin it None = proof_by place begin it (justification_from (verdict_in plan.verdicts.list it.step) it.stage it.clause)
