-- The terms of a root's instances are ground.
use Rattle.std.proofs.Common.{◌≡◌, ℕ, zero, suc, ◌&&◌, true, List, [], ◌∷◌, map, refl, sym, ap₂, ◌∙◌, subst, inl, inr}
use Rattle.dk_syntax.proofs.ListLaws.{ForEach}
use Rattle.dk_syntax.proofs.SubstitutionLaws.{substituted-Any, substituted-App, substituted-Var}
use Rattle.dk_syntax.proofs.TermLaws.{term_induction}
use Rattle.dk_syntax.proofs.WellFormedLaws.{closed-Any, closed-App}
use Rattle.dk_syntax.specs.Lists.{Every, all_true, every_cons, every_nil}
use Rattle.dk_syntax.specs.Terms.{substituted}
use Rattle.dk_syntax.specs.WellFormed.{IsGround, term_closed_under}
use Rattle.dk_syntax.specs.declared.term.Term.{Term}
use Rattle.expansion.proofs.Everywhere.{every_both}
use Rattle.ground_instances.specs.Instances.{AreInstances, keys_of}
use Rattle.ground_instances.specs.Keys.{Judged, Key}
use Rattle.ground_instances.specs.Needs.{Needs, Visits, by_base, by_chain, by_clauses, by_image, by_leaf, by_parent, by_stage, by_thin, done, fresh, ground, named_by, of_image, of_parents, of_stage, seen, value_in}
use Rattle.ground_instances.specs.declared.instance.Instance.{Instance}
use Rattle.plan.proofs.Membership.{Among}
use Rattle.step_clause.specs.declared.justification.Justification.{Justification}
use Rattle.step_clause.specs.declared.justification.Justification.TheVariants.{Resolve, Subsume}

-- ---- substitution

each_ground : (v : ℕ → Term) (args : List Term) → ForEach (λ t. IsGround (substituted v t)) args → all_true (map (term_closed_under 0) (map (substituted v) args)) ≡ true
each_ground v [] h = refl
each_ground v (t ∷ args) h = ap₂ (λ a b. a && b) h.0 (each_ground v args h.1)

put_ground : (v : ℕ → Term) → ((n : ℕ) → IsGround (v n)) → (t : Term) → IsGround (substituted v t)
put_ground v h = term_induction (λ t. IsGround (substituted v t))
    (λ n. subst IsGround (sym (substituted-Var v n)) (h n))
    (λ f args each. subst IsGround (sym (substituted-App v f args)) (closed-App f (map (substituted v) args) 0 ∙ each_ground v args each))
    (subst IsGround (sym (substituted-Any v)) (closed-Any 0))

value_ground : (ts : List Term) → Every IsGround ts → (k : ℕ) → IsGround (value_in ts k)
value_ground [] h k = closed-Any 0
value_ground (t ∷ ts) (every_cons w ws) zero = w
value_ground (t ∷ ts) (every_cons w ws) (suc k) = value_ground ts ws k

all_ground : (ts us : List Term) → Every IsGround ts → Every IsGround (map (ground ts) us)
all_ground ts [] h = every_nil
all_ground ts (u ∷ us) h = every_cons (put_ground (value_in ts) (value_ground ts h) u) (all_ground ts us h)

-- ---- what an instance needs

abbrev HasGroundTerms : Key → Type 0
HasGroundTerms one = Every IsGround one.terms

named_ground : (at : ℕ → ℕ → List Term → Key) → ((k c : ℕ) (us : List Term) → (at k c us).terms ≡ us) → (ts : List Term) → Every IsGround ts → (step : Justification)
    → Every HasGroundTerms (named_by at ts step)
named_ground at same ts h (Subsume parent clause picks us) =
    every_cons (subst (Every IsGround) (sym (same parent clause (map (ground ts) us))) (all_ground ts us h)) every_nil
named_ground at same ts h (Resolve pos_parent pos_clause neg_parent neg_clause pos_picks neg_picks us vs) =
    every_cons (subst (Every IsGround) (sym (same pos_parent pos_clause (map (ground ts) us))) (all_ground ts us h))
    (every_cons (subst (Every IsGround) (sym (same neg_parent neg_clause (map (ground ts) vs))) (all_ground ts vs h)) every_nil)

module _ (judged : Judged) where
  stage_terms : (i target mids k c : ℕ) (us : List Term) → (of_stage judged i target mids k c us).terms ≡ us
  stage_terms i target zero zero c us = refl
  stage_terms i target (suc before) zero c us = refl
  stage_terms i target mids (suc k) c us = refl

  needs_ground : {one : Key} {keys : List Key} → Needs judged one keys → Every IsGround one.terms → Every HasGroundTerms keys
  needs_ground (by_leaf i c ts base) h = every_nil
  needs_ground (by_base i base c ts map_here has none is) h = every_cons h every_nil
  needs_ground (by_clauses i c ts steps step has at) h = named_ground (of_parents judged i) (λ k n us. refl) ts h step
  needs_ground (by_stage i j c ts chains chain step has at there) h = named_ground (of_stage judged i c j) (λ k n us. stage_terms i c j k n us) ts h step
  needs_ground (by_chain i c ts chains chain step has at there) h = named_ground (of_stage judged i c _) (λ k n us. stage_terms i c _ k n us) ts h step
  needs_ground (by_image i c ts composed step has at) h = named_ground (of_image judged i) (λ k n us. refl) ts h step
  needs_ground (by_thin i q c ts composed has one base) h = every_nil
  needs_ground (by_parent i q base c ts composed has one none is) h = every_cons h every_nil

  visits_ground : {list names after : List Key} → Visits judged list names after → Every HasGroundTerms list → Every HasGroundTerms names → Every HasGroundTerms after
  visits_ground (done list) h k = h
  visits_ground (seen list one rest after c v) h (every_cons w ws) = visits_ground v h ws
  visits_ground (fresh list one rest needs middle after n need v w) h (every_cons g gs) =
      visits_ground w (every_both (visits_ground v h (needs_ground need g)) (every_cons g every_nil)) gs

  keyed : (instances : List Instance) (it : Instance) → Every HasGroundTerms (keys_of instances) → Among instances it → Every IsGround it.terms
  keyed [] it h there = absurd there
  keyed (one ∷ instances) it (every_cons w ws) (inl e) = subst (λ (x : Instance). Every IsGround x.terms) e w
  keyed (one ∷ instances) it (every_cons w ws) (inr there) = keyed instances it ws there

  pub instance_ground : (root : ℕ) (instances : List Instance) → AreInstances judged root instances → (it : Instance) → Among instances it → Every IsGround it.terms
  instance_ground root instances are it there = keyed instances it (visits_ground are.needed every_nil (every_cons every_nil every_nil)) there
