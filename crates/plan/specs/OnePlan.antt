-- There is one plan.
use Rattle.std.specs.Prelude.{◌≡◌, ℕ, List, Contains, filter_map, IsTrue}
use Rattle.dk_syntax.specs.WellFormed.{well_formed_term}
use Rattle.dk_syntax.specs.declared.Problem.{Problem}
use Rattle.dk_syntax.specs.declared.term.Term.{Term}
use Rattle.ground_instances.specs.Instances.{clauses_in}
use Rattle.ground_instances.specs.Lists.{instances_of}
use Rattle.plan.specs.Laws.{AreWellFormed}
use Rattle.plan.specs.Plans.{IsPlan}
use Rattle.plan.specs.declared.plan.Plan.{Plan}
use Rattle.skolem_order.specs.Order.{root_terms}
use Rattle.tstp_trace.specs.declared.step.Trace.{Trace}

-- the terms from which the needed ones come
abbrev pub roots_of : Plan → List Term
roots_of plan = root_terms (filter_map (λ thin. thin) plan.thins) (clauses_in (instances_of plan.instances))

-- these are well-formed
abbrev pub HasWellFormedRoots : Plan → Type 0
HasWellFormedRoots plan = (t : Term) → Contains (roots_of plan) t → IsTrue (well_formed_term t)

-- Two plans are alike. The order of Skolem terms is one where terms are told apart by it, as well-formed ones are.
pub record AreAlikePlans (trace : Trace) (one other : Plan) : Type 0 where
  pub graph : one.graph ≡ other.graph
  pub root : one.root ≡ other.root
  pub verdicts : one.verdicts.list ≡ other.verdicts.list
  pub instances : instances_of one.instances ≡ instances_of other.instances
  pub weight : one.weight ≡ other.weight
  pub maps : one.maps ≡ other.maps
  pub thins : one.thins ≡ other.thins
  pub origins : one.origins.list ≡ other.origins.list
  pub order : AreWellFormed trace.steps → HasWellFormedRoots one → one.order ≡ other.order

-- a problem and a trace have one plan at most
abbrev pub PlansAreOne : Type 0
PlansAreOne = (problem : Problem) (trace : Trace) (limit : ℕ) (one other : Plan) → IsPlan problem trace limit one → IsPlan problem trace limit other → AreAlikePlans trace one other
