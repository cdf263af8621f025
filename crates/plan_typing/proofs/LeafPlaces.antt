-- The Skolem terms of an instance's thin tree have their places in the order.
use Rattle.std.proofs.Common.{ℕ, Bool, List, [], ◌∷◌, filter_map, Contains, Option, Some, None, sym, ap, subst, inl, inr}
use Rattle.std.specs.Prelude.{IsTrue, is_some}
use Rattle.std.specs.List.{flat_map}
use Rattle.dk_syntax.specs.Lists.{Entry, Every, every_cons, every_nil}
use Rattle.dk_syntax.specs.declared.clause.Literal.{Literal}
use Rattle.dk_syntax.specs.declared.term.Term.{Term}
use Rattle.expansion.proofs.Everywhere.{every_both}
use Rattle.expansion.specs.declared.thin.Thin.{Thin}
use Rattle.ground_instances.specs.Lists.{instances_of}
use Rattle.ground_instances.specs.declared.instance.Instance.{Instance}
use Rattle.nd_term.specs.Outputs.{place_of}
use Rattle.plan.proofs.Membership.{Among, among_left, among_right, contained}
use Rattle.plan.proofs.OneAnswer.{thin_is_one}
use Rattle.plan.specs.Laws.{AreRightSteps, judged_of}
use Rattle.plan.specs.OnePlan.{roots_of}
use Rattle.plan.specs.Thins.{AreThins, IsThin}
use Rattle.plan.specs.declared.plan.Plan.{Plan}
use Rattle.plan_typing.proofs.LeafLists.{among_every, every_among}
use Rattle.skolem_order.specs.Meetings.{Meets, at_all, at_both, at_ex, at_false, at_left, at_lit, at_right, at_vacuous}
use Rattle.skolem_order.specs.Order.{Needed, in_root, itself, thin_terms}
use Rattle.skolem_order.specs.Origins.{is_skolem}
use Rattle.skolem_order.specs.SignedForms.{SignedForm}
use Rattle.skolem_order.specs.declared.origins.Origin.{Origin}
use Rattle.step_check.specs.Steps.{Case}
use Rattle.step_check.specs.declared.verdict.Verdict.{Verdict}

-- ---- the terms at existentials are Skolem terms

abbrev pub IsSkolemTerm : List Origin → Term → Type 0
IsSkolemTerm origins t = IsTrue (is_skolem origins t)

pub met_skolem : {origins : List Origin} {z : ℕ → Term} {n : SignedForm} {picks : List Bool} {terms skolems : List Term} {ends : List Literal}
    → Meets origins z n picks terms skolems ends → Every (IsSkolemTerm origins) skolems
met_skolem (at_false s) = every_nil
met_skolem (at_lit s literal) = every_nil
met_skolem (at_left s a b picks terms skolems ends m) = met_skolem m
met_skolem (at_right s a b picks terms skolems ends m) = met_skolem m
met_skolem (at_both s a b picks sides terms others skolems more ends rest m n) = every_both (met_skolem m) (met_skolem n)
met_skolem (at_all s a t picks terms skolems ends g m) = met_skolem m
met_skolem (at_ex s sign f a t picks terms skolems ends at m) = every_cons (ap is_some at.listed) (met_skolem m)
met_skolem (at_vacuous s a picks terms skolems ends m) = met_skolem m

-- ---- the tree is one of the plan's

module _ (case : Case) (list : List Verdict) (s : AreRightSteps case list) where
  thin_listed : (instances : List Instance) (thins : List (Option Thin)) → AreThins (judged_of case list) instances thins → (it : Instance) (thin : Thin) → Among instances it
      → IsThin (judged_of case list) it thin → Among (filter_map (λ one. one) thins) thin
  thin_listed [] thins are it thin there is = absurd there
  thin_listed (one ∷ instances) [] are it thin there is = absurd are
  thin_listed (one ∷ instances) (None ∷ thins) are it thin (inl e) is = absurd (are.0 thin (subst (λ x. IsThin (judged_of case list) x thin) (sym e) is))
  thin_listed (one ∷ instances) (Some other ∷ thins) are it thin (inl e) is =
      inl (thin_is_one case list s one other thin are.0 (subst (λ x. IsThin (judged_of case list) x thin) (sym e) is))
  thin_listed (one ∷ instances) (None ∷ thins) are it thin (inr there) is = thin_listed instances thins are.1 it thin there is
  thin_listed (one ∷ instances) (Some other ∷ thins) are it thin (inr there) is = inr (thin_listed instances thins are.1 it thin there is)

among_flat : {A B : Type 0} (f : A → List B) (l : List A) (x : A) (y : B) → Among l x → Among (f x) y → Among (flat_map f l) y
among_flat f [] x y h k = absurd h
among_flat f (z ∷ l) x y (inl e) k = among_left (f z) (flat_map f l) y (subst (λ w. Among (f w) y) (sym e) k)
among_flat f (z ∷ l) x y (inr h) k = among_right (f z) (flat_map f l) y (among_flat f l x y h k)

-- a term at an existential of a tree of the plan is one of the terms from which the needed ones come
root_of : (plan : Plan) (thin : Thin) (t : Term) → Among (filter_map (λ one. one) plan.thins) thin → Among thin.skolems t → Contains (roots_of plan) t
root_of plan thin t there h =
    let trees = filter_map (λ (one : Option Thin). one) plan.thins in
    let here = among_flat thin_terms trees thin t there (among_right thin.terms thin.skolems t h) in
    contained (roots_of plan) t (among_left (flat_map thin_terms trees) _ t here)

pub skolems_placed : (case : Case) (list : List Verdict) → AreRightSteps case list → (plan : Plan) → AreThins (judged_of case list) (instances_of plan.instances) plan.thins
    → ((t : Term) → Needed plan.origins.list (roots_of plan) t → Entry plan.order (place_of plan.order t) t)
    → (it : Instance) (thin : Thin) → Among (instances_of plan.instances) it → IsThin (judged_of case list) it thin
    → Every (IsSkolemTerm plan.origins.list) thin.skolems → Every (λ t. Entry plan.order (place_of plan.order t) t) thin.skolems
skolems_placed case list s plan thins placed it thin there is skolem =
    let tree = thin_listed case list s (instances_of plan.instances) plan.thins thins it thin there is in
    among_every (λ t. Entry plan.order (place_of plan.order t) t) thin.skolems
    (λ t h. placed t (in_root t t (root_of plan thin t tree h) itself (every_among thin.skolems skolem h)))
