-- The terms from which a plan's Skolem terms come are well-formed.
use Rattle.std.proofs.Common.{List, [], ◌∷◌, Option, Some, None, subst, inl, inr}
use Rattle.std.specs.List.{flat_map}
use Rattle.std.specs.Prelude.{filter_map}
use Rattle.dk_syntax.specs.Lists.{Every, every_cons, every_nil}
use Rattle.dk_syntax.specs.declared.clause.Literal.{Literal}
use Rattle.dk_syntax.specs.declared.symbol.SymKey.{SymKey}
use Rattle.expansion.specs.declared.thin.Thin.{Thin}
use Rattle.ground_instances.specs.Instances.{clauses_in}
use Rattle.ground_instances.specs.Lists.{instances_of}
use Rattle.ground_instances.specs.declared.instance.Instance.{Instance}
use Rattle.plan.proofs.Membership.{Among, among}
use Rattle.plan.specs.Laws.{AreRightSteps, AreWellFormed, judged_of}
use Rattle.plan.specs.OnePlan.{roots_of}
use Rattle.plan.specs.Thins.{AreThins}
use Rattle.plan_symbols.proofs.InstancesOver.{instances_over, IsOverAll}
use Rattle.plan_symbols.proofs.PremisesOver.{all_over, all_symbols}
use Rattle.plan_symbols.proofs.EveryLaws.{every_both}
use Rattle.plan_symbols.proofs.TermsOver.{literal_apart}
use Rattle.plan_symbols.proofs.ThinsOver.{IsThinAll, thins_over}
use Rattle.plan_symbols.proofs.VerdictsOver.{AreStepsOver, PutNoOthers}
use Rattle.plan_symbols.specs.Laws.{RootsAreWellFormed}
use Rattle.plan_symbols.specs.Over.{IsLiteralOver, IsTermOver}
use Rattle.skolem_order.specs.Order.{clause_terms, thin_terms}
use Rattle.step_check.specs.Steps.{Case, case_of}
use Rattle.step_check.specs.declared.verdict.Verdict.{Verdict}

every_among : {A : Type 0} {p : A → Type 0} {l : List A} → Every p l → (a : A) → Among l a → p a
every_among every_nil a m = absurd m
every_among {p = p} (every_cons w ws) a (inl e) = subst p e w
every_among (every_cons w ws) a (inr m) = every_among ws a m

module _ (symbols : List SymKey) where
  -- ---- the terms of clauses

  clause_over : (lits : List Literal) → Every (IsLiteralOver symbols) lits → Every (IsTermOver symbols) (clause_terms lits)
  clause_over [] h = every_nil
  clause_over (l ∷ lits) (every_cons w ws) = every_both (literal_apart symbols l w).each (clause_over lits ws)

  clauses_over : (instances : List Instance) → Every (IsOverAll symbols) instances → Every (IsTermOver symbols) (flat_map clause_terms (clauses_in instances))
  clauses_over [] h = every_nil
  clauses_over (it ∷ instances) (every_cons w ws) = every_both (clause_over it.lits w.lits) (clauses_over instances ws)

  -- ---- the terms of thin trees

  thin_over : (thin : Thin) → IsThinAll symbols thin → Every (IsTermOver symbols) (thin_terms thin)
  thin_over thin h = every_both h.terms h.skolems

  module _ (case : Case) (list : List Verdict) (right : AreRightSteps case list) (formed : AreWellFormed case.steps) (over : AreStepsOver case list symbols) where
    trees_over : (instances : List Instance) (thins : List (Option Thin)) → Every (IsOverAll symbols) instances → AreThins (judged_of case list) instances thins
        → Every (IsTermOver symbols) (flat_map thin_terms (filter_map (λ thin. thin) thins))
    trees_over [] [] h k = every_nil
    trees_over [] (thin ∷ thins) h k = absurd k
    trees_over (it ∷ instances) [] h k = absurd k
    trees_over (it ∷ instances) (None ∷ thins) (every_cons w ws) k = trees_over instances thins ws k.1
    trees_over (it ∷ instances) (Some thin ∷ thins) (every_cons w ws) k =
        every_both (thin_over thin (thins_over symbols case list right formed over it thin w.terms k.0)) (trees_over instances thins ws k.1)

-- so are the roots of a plan, where most general substitutions put no other symbols
pub roots_by : ((symbols : List SymKey) → PutNoOthers symbols) → RootsAreWellFormed
roots_by put problem trace limit plan h own formed t m =
    let case : Case = case_of problem trace plan.graph in
    let list : List Verdict = plan.verdicts.list in
    let right : AreRightSteps case list = record { are = h.judged.verdicts; right = h.right; acyclic = h.judged.start.graph_is.1 } in
    let symbols : List SymKey = all_symbols case list in
    let over : AreStepsOver case list symbols = all_over case list formed in
    let instances = instances_over symbols case list right formed (put symbols) over plan.root (instances_of plan.instances) h.instances.0 in
    let trees = trees_over symbols case list right formed over (instances_of plan.instances) plan.thins instances h.thins in
    let roots : Every (IsTermOver symbols) (roots_of plan) = every_both trees (clauses_over symbols (instances_of plan.instances) instances) in
    (every_among roots t (among (roots_of plan) t m)).formed
