-- The instances that a root needs are over symbols that all steps' formulas are over.
use Rattle.std.proofs.Common.{◌≡◌, ℕ, zero, suc, List, [], ◌∷◌, length, map, refl, sym, subst, arith}
use Rattle.std.specs.List.{All}
use Rattle.dk_syntax.specs.Lists.{Every, every_cons, every_nil}
use Rattle.dk_syntax.specs.Terms.{instance}
use Rattle.dk_syntax.specs.declared.clause.Clause.{Clause}
use Rattle.dk_syntax.specs.declared.symbol.SymKey.{SymKey}
use Rattle.dk_syntax.specs.declared.term.Term.{Term}
use Rattle.ground_instances.specs.Instances.{AreInstances, IsInstance, key_of, keys_of}
use Rattle.ground_instances.specs.Keys.{imaged, IsClauseOf, Key, listed, middle}
use Rattle.ground_instances.specs.Needs.{by_base, by_chain, by_clauses, by_image, by_leaf, by_parent, by_stage, by_thin, done, fresh, ground, named_by, Needs, of_image, of_parents, of_stage, seen, stage_before, value_in, Visits}
use Rattle.ground_instances.specs.declared.instance.Instance.{Instance}
use Rattle.normal_form.specs.ClauseLists.{clause_rows}
use Rattle.plan.specs.Laws.{AreRightSteps, AreWellFormed, judged_of}
use Rattle.plan_symbols.proofs.RowsOver.{every_slice, rows_over}
use Rattle.plan_symbols.proofs.EveryLaws.{every_both, every_head, every_map, every_tail}
use Rattle.plan_symbols.proofs.TermsOver.{any_over, instance_over, substituted_over}
use Rattle.plan_symbols.proofs.VerdictsOver.{AreStepsOver, PutNoOthers, stands_over, verdict_over}
use Rattle.plan_symbols.specs.Known.{IsClauseOver, JustificationOver}
use Rattle.plan_symbols.specs.Over.{IsLiteralOver, IsTermOver}
use Rattle.step_check.specs.Steps.{Case}
use Rattle.step_check.specs.declared.verdict.Verdict.{Verdict}
use Rattle.step_check.specs.declared.verdict.Verdict.TheVariants.{Chained, Clausal, Composes}
use Rattle.step_clause.specs.declared.justification.Justification.{Justification}
use Rattle.step_clause.specs.declared.justification.Justification.TheVariants.{Resolve, Subsume}

every_of_all : {A : Type 0} {p : A → Type 0} (l : List A) → All p l → Every p l
every_of_all [] h = every_nil
every_of_all (a ∷ l) h = every_cons (h zero a (omega arith)) (every_of_all l (λ k d below. h (suc k) d (omega (arith, below))))

module _ (symbols : List SymKey) where
  -- the terms of the instance's name are over the symbols
  abbrev pub IsKeyOver : Key → Type 0
  IsKeyOver one = Every (IsTermOver symbols) one.terms

  pub value_over : (terms : List Term) → Every (IsTermOver symbols) terms → (k : ℕ) → IsTermOver symbols (value_in terms k)
  value_over [] h k = any_over symbols
  value_over (t ∷ terms) (every_cons w ws) zero = w
  value_over (t ∷ terms) (every_cons w ws) (suc k) = value_over terms ws k

  grounds_over : (terms ts : List Term) → Every (IsTermOver symbols) terms → Every (IsTermOver symbols) ts → Every (IsTermOver symbols) (map (ground terms) ts)
  grounds_over terms ts h k = every_map (ground terms) (λ t w. substituted_over symbols (value_in terms) (value_over terms h) t w) k

  named_over : (at : ℕ → ℕ → List Term → Key) → ((k c : ℕ) (ts : List Term) → (at k c ts).terms ≡ ts) → (terms : List Term) (step : Justification) → Every (IsTermOver symbols) terms → JustificationOver symbols step
      → Every IsKeyOver (named_by at terms step)
  named_over at same terms (Subsume parent clause picks ts) h w =
      every_cons (subst (Every (IsTermOver symbols)) (sym (same parent clause (map (ground terms) ts))) (grounds_over terms ts h w)) every_nil
  named_over at same terms (Resolve a b c d ps ns ts us) h w =
      every_cons (subst (Every (IsTermOver symbols)) (sym (same a b (map (ground terms) ts))) (grounds_over terms ts h w.0))
      (every_cons (subst (Every (IsTermOver symbols)) (sym (same c d (map (ground terms) us))) (grounds_over terms us h w.1)) every_nil)

  -- the terms and literals of the instance are over the symbols
  pub record IsOverAll (it : Instance) : Type 0 where
    pub terms : Every (IsTermOver symbols) it.terms
    pub lits : Every (IsLiteralOver symbols) it.lits

  module _ (case : Case) (list : List Verdict) (right : AreRightSteps case list) (formed : AreWellFormed case.steps) (put : PutNoOthers symbols) (over : AreStepsOver case list symbols) where
    stage_terms : (i target before c : ℕ) (ts : List Term) → (stage_before (judged_of case list) i target before c ts).terms ≡ ts
    stage_terms i target zero c ts = refl
    stage_terms i target (suc before) c ts = refl

    of_stage_terms : (i target mids k c : ℕ) (ts : List Term) → (of_stage (judged_of case list) i target mids k c ts).terms ≡ ts
    of_stage_terms i target mids zero c ts = stage_terms i target mids c ts
    of_stage_terms i target mids (suc k) c ts = refl

    needs_over : {one : Key} {needed : List Key} → Needs (judged_of case list) one needed → IsKeyOver one → Every IsKeyOver needed
    needs_over (by_leaf i c terms leaf) h = every_nil
    needs_over (by_base i base c terms m has apart from) h = every_cons h every_nil
    needs_over (by_clauses i c terms steps step has at) h =
        named_over (of_parents (judged_of case list) i) (λ k d ts. refl) terms step h (every_slice steps c step (verdict_over case list right formed symbols put over i (Clausal steps) has) at)
    needs_over (by_stage i j c terms chains chain step has at this) h =
        let chain_over = every_slice chains c chain (verdict_over case list right formed symbols put over i (Chained chains) has) at in
        named_over (of_stage (judged_of case list) i c j) (of_stage_terms i c j) terms step h (every_slice chain.steps j step chain_over.steps this)
    needs_over (by_chain i c terms chains chain step has at this) h =
        let chain_over = every_slice chains c chain (verdict_over case list right formed symbols put over i (Chained chains) has) at in
        named_over (of_stage (judged_of case list) i c (length chain.mids)) (of_stage_terms i c (length chain.mids)) terms step h (every_slice chain.steps (length chain.mids) step chain_over.steps this)
    needs_over (by_image i c terms composed step has at) h =
        let composed_over = verdict_over case list right formed symbols put over i (Composes composed) has in
        named_over (of_image (judged_of case list) i) (λ k d ts. refl) terms step h (every_slice composed.steps c step composed_over.steps at)
    needs_over (by_thin i q c terms composed has one leaf) h = every_nil
    needs_over (by_parent i q base c terms composed has one apart from) h = every_cons h every_nil

    visits_over : {before todo after : List Key} → Visits (judged_of case list) before todo after → Every IsKeyOver before → Every IsKeyOver todo → Every IsKeyOver after
    visits_over (done before) h k = h
    visits_over (seen before one rest after there more) h k = visits_over more h (every_tail k)
    visits_over (fresh before one rest needs between after new need visit more) h k =
        let mids = visits_over visit h (needs_over need (every_head k)) in
        visits_over more (every_both mids (every_cons (every_head k) every_nil)) (every_tail k)

    -- the literals of an instance's clause are over the symbols
    pub clause_over : {one : Key} {clause : Clause} → IsClauseOf (judged_of case list) one clause → IsClauseOver symbols clause
    clause_over (listed i c terms r row stands at) =
        every_slice (clause_rows r) c row (rows_over symbols r (stands_over case list right formed symbols put over stands)) at
    clause_over (middle i j c terms chains chain clause has at this) =
        let chain_over = every_slice chains c chain (verdict_over case list right formed symbols put over i (Chained chains) has) at in
        every_slice chain.mids j clause chain_over.mids this
    clause_over (imaged i c terms composed row has at) =
        let composed_over = verdict_over case list right formed symbols put over i (Composes composed) has in
        every_slice composed.image.rows c row composed_over.rows at

    instance_all : (keys : List Key) (it : Instance) → IsInstance (judged_of case list) keys it → IsKeyOver (key_of it) → IsOverAll it
    instance_all keys it is h = record {
      terms = h;
      lits = subst (Every (IsLiteralOver symbols)) (sym is.lits)
          (every_map (instance (value_in it.terms)) (λ l w. instance_over symbols (value_in it.terms) (value_over it.terms h) l w) (clause_over is.of));
    }

    each_instance : (keys : List Key) (l : List Instance) → Every (IsInstance (judged_of case list) keys) l → Every IsKeyOver (keys_of l) → Every IsOverAll l
    each_instance keys [] is h = every_nil
    each_instance keys (it ∷ l) (every_cons i is) (every_cons w ws) = every_cons (instance_all keys it i w) (each_instance keys l is ws)

    pub instances_over : (root : ℕ) (instances : List Instance) → AreInstances (judged_of case list) root instances → Every IsOverAll instances
    instances_over root instances h =
        each_instance (keys_of instances) instances (every_of_all instances h.each)
        (visits_over h.needed every_nil (every_cons every_nil every_nil))
