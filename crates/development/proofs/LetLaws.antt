-- The let that is built for an instance.
use Rattle.std.proofs.Common.{◌≡◌, ◌+◌, ◌<◌, ◌≤◌, ℕ, List, [], length, get_or, Option, None, Some, sym, ap, ap₂, ◌∙◌}
use Rattle.std.specs.Prelude.{slice_get}
use Rattle.std.proofs.lemmas.List.{length-map}
use Rattle.assemble.specs.Body.{reason_proof}
use Rattle.assemble.specs.Fitting.{symbols_of}
use Rattle.assemble.specs.Levels.{Levels, abstractions_at, place_at}
use Rattle.development.proofs.LetSteps.{abstracted_is, levels_inside, typed_is}
use Rattle.development.proofs.ReasonLaws.{proof_is}
use Rattle.development.specs.Buildable.{IsBuildable}
use Rattle.development.specs.Clauses.{abstracted, typed}
use Rattle.development.specs.Lets.{let_built}
use Rattle.development.specs.Places.{IsIn, further_in, levels_in}
use Rattle.development.specs.Proofs.{proof_of_instance}
use Rattle.dk_syntax.specs.declared.Problem.{Problem}
use Rattle.expansion.specs.declared.thin.Thin.{Thin}
use Rattle.ground_instances.specs.Lists.{instances_of}
use Rattle.ground_instances.specs.declared.instance.Instance.{Instance}
use Rattle.lp_term.specs.Connectives.{bot, proof_of}
use Rattle.lp_term.specs.LambdaPi.{Term}
use Rattle.lp_term.specs.ProofTerms.{let_term}
use Rattle.nd_term.specs.Formulas.{Literal}
use Rattle.nd_term.specs.Instances.{clause_type}
use Rattle.nd_term.specs.Outputs.{output_clause, output_literal}
use Rattle.nd_term.specs.Places.{last_variables}
use Rattle.nd_term.specs.declared.place.Place.{Place}
use Rattle.plan.specs.declared.plan.Plan.{Plan}
use Rattle.plan_typing.specs.Reasons.{reason_of}
use Rattle.tstp_trace.specs.declared.step.Trace.{Trace}

is_further : {plan : Plan} {first n : ℕ} {place : Place} (m : ℕ) → IsIn plan first n place → IsIn plan first (n + m) (further_in place m)
is_further m i = record { level = ap (λ l. l + m) i.level; first_eigen = i.first_eigen; order = i.order; symbols = i.symbols }

module _ (problem : Problem) (trace : Trace) (plan : Plan) (built : IsBuildable problem trace plan) (first begin number : ℕ)
    (below : length problem.hyps < begin) (room : first + (length plan.order + length plan.order) ≤ begin)
    (it : Instance) (at : slice_get (instances_of plan.instances) number ≡ Some it) (place : Place) (i : IsIn plan first (begin + number) place) where
  abbrev p : Levels
  p = levels_in (length problem.hyps) first (length plan.order) begin number

  abbrev thin : Option Thin
  thin = get_or plan.thins number None

  abbrev clause : List Literal
  clause = output_clause (symbols_of plan.origins.list) plan.order it.lits

  type_is : (t : Term) → t ≡ typed place.level place.first_eigen (length place.order.now) (output_clause place.symbols.now place.order.now it.lits) (proof_of bot)
      → t ≡ clause_type (place_at (begin + number) p).eigenvariables clause
  type_is t e =
      e ∙ (λ k. typed (i.level k) (i.first_eigen k) (length (i.order k)) (output_clause (i.symbols k) (i.order k) it.lits) (proof_of bot))
      ∙ typed_is {n = begin + number} {p = p} clause (levels_inside (length problem.hyps) first (length plan.order) begin number below room)

  falsity_is : (t : Term) → t ≡ proof_of_instance problem trace plan (further_in place (length it.lits)) begin it thin
      → t ≡ reason_proof (place_at (begin + number + length clause) p) (last_variables (length clause)) (reason_of problem trace plan it thin)
  falsity_is t e =
      e ∙ proof_is plan first (begin + number + length it.lits) (further_in place (length it.lits)) (is_further (length it.lits) i) problem trace begin number it thin
      (built.signs number it at) (built.met number it at)
      ∙ ap (λ m. reason_proof (place_at (begin + number + m) p) (last_variables m) (reason_of problem trace plan it thin))
      (sym (length-map it.lits (output_literal (symbols_of plan.origins.list) plan.order)))

  term_is : (t f : Term) → f ≡ proof_of_instance problem trace plan (further_in place (length it.lits)) begin it thin
      → t ≡ abstracted place.level place.first_eigen (length place.order.now) (output_clause place.symbols.now place.order.now it.lits) f
      → t ≡ abstractions_at clause (begin + number) p [] (reason_of problem trace plan it thin)
  term_is t f q e =
      e ∙ (λ k. abstracted (i.level k) (i.first_eigen k) (length (i.order k)) (output_clause (i.symbols k) (i.order k) it.lits) (falsity_is f q k))
      ∙ abstracted_is clause (begin + number) p (reason_of problem trace plan it thin)

  pub let_is : (r a t f u : Term) → r ≡ let_term a t u
      → a ≡ typed place.level place.first_eigen (length place.order.now) (output_clause place.symbols.now place.order.now it.lits) (proof_of bot)
      → t ≡ abstracted place.level place.first_eigen (length place.order.now) (output_clause place.symbols.now place.order.now it.lits) f
      → f ≡ proof_of_instance problem trace plan (further_in place (length it.lits)) begin it thin
      → r ≡ let_built problem trace plan first begin number it u
  let_is r a t f u e ea et ef = e ∙ ap₂ (λ x y. let_term x y u) (type_is a ea) (term_is t f ef et)
