-- What the parts of a plan say of it.
use Rattle.std.proofs.Common.{◌≡◌, ◌<◌, ◌≤◌, ◌^◌, ℕ, List, Option, filter_map, sym, subst, arith}
use Rattle.dk_syntax.specs.Depth.{capped}
use Rattle.dk_syntax.specs.declared.clause.Literal.{Literal}
use Rattle.dk_syntax.specs.declared.term.Term.{Term}
use Rattle.expansion.specs.declared.thin.Thin.{Thin}
use Rattle.ground_instances.specs.Instances.{clauses_in}
use Rattle.ground_instances.specs.Keys.{Judged}
use Rattle.ground_instances.specs.Weights.{IsWeight}
use Rattle.ground_instances.specs.declared.instance.Instance.{Instance}
use Rattle.plan.proofs.GroundTrees.{AreGroundInstances, roots_ground}
use Rattle.plan.specs.Thins.{AreThins}
use Rattle.skolem_order.specs.Order.{AreGround, AreNeeded, root_terms}
use Rattle.skolem_order.specs.declared.origins.Origin.{Origin}

-- a weight within the limit is the number that is counted
pub weight_stands : (clauses : List (List Literal)) (limit counted : ℕ) → (weight : ℕ) × IsWeight clauses weight × (weight ≤ limit) → limit < 2 ^ 64
    → ((weight : ℕ) → IsWeight clauses weight → counted ≡ capped weight) → IsWeight clauses counted
weight_stands clauses limit counted (weight, is, within) small told = subst (IsWeight clauses) (sym same) is
  where
    same : counted ≡ weight
    same = let e = told weight is in omega (arith, e, within, small)

abbrev roots_of : List (Option Thin) → List Instance → List Term
roots_of thins instances = root_terms (filter_map (λ thin. thin) thins) (clauses_in instances)

-- the terms that are needed for ground roots are needed, since these are ground
pub order_stands : (origins : List Origin) (judged : Judged) (instances : List Instance) (thins slice : List (Option Thin)) (order : List Term) → slice ≡ thins
    → AreGroundInstances instances → AreThins judged instances thins → (AreGround (roots_of slice instances) → AreNeeded origins (roots_of slice instances) order)
    → AreNeeded origins (roots_of thins instances) order
order_stands origins judged instances thins slice order e ground are needed =
    let roots : AreGround (roots_of slice instances) =
    subst (λ l. AreGround (roots_of l instances)) (sym e) (roots_ground judged instances thins ground are) in
    subst (λ l. AreNeeded origins (roots_of l instances) order) e (needed roots)
