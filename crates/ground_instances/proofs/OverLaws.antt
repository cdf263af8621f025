-- Where the list so far weighs more than the limit, so does each whole list.
use Rattle.std.proofs.Common.{◌≡◌, ◌<◌, ℕ, suc, List, [], ◌∷◌, ◌++◌, map, length, All, length-append, arith, refl, sym, ap, ap₂, ◌∙◌, subst, inl, inr}
use Rattle.std.proofs.lemmas.List.Sums.{sum_by-append}
use Rattle.dk_syntax.specs.Terms.{instance}
use Rattle.dk_syntax.specs.TermTables.{IsTermTable}
use Rattle.dk_syntax.specs.declared.clause.Literal.{Literal}
use Rattle.dk_syntax.specs.declared.term.Term.{Term}
use Rattle.ground_instances.proofs.ClauseLaws.{one_clause, part_in_clause}
use Rattle.ground_instances.proofs.Parts.{all_at, clause_left, mapped, mapped_from}
use Rattle.ground_instances.proofs.Pigeons.{no_longer}
use Rattle.ground_instances.proofs.TableLaws.{terms_once}
use Rattle.ground_instances.proofs.Visits.{does_extend, does_have}
use Rattle.ground_instances.specs.Instances.{AreInstances, clauses_in, IsInstance, IsOverWeight, key_of, keys_of}
use Rattle.ground_instances.specs.Keys.{IsClauseOf, Judged, Key}
use Rattle.ground_instances.specs.Naming.{IsFit, IsNamedPart}
use Rattle.ground_instances.specs.Needs.{value_in}
use Rattle.ground_instances.specs.Notes.{HasImages}
use Rattle.ground_instances.specs.States.{IsPulled, IsTaskRight, key_in, keys_in, KeyTask, append, visit}
use Rattle.ground_instances.specs.Weights.{IsInClauses, IsPartOf, literals_in, weight_by}
use Rattle.ground_instances.specs.declared.instance.Instance.{Instance}

task_fit : (judged : Judged) (task : KeyTask) → IsTaskRight judged task → IsFit judged (key_in task)
task_fit judged (visit one) h = h
task_fit judged (append one needs) h = h.0

module _ (judged : Judged) (images : HasImages judged) where
  -- one name has one ground clause
  same_lits : (list other : List Key) (x y : Instance) → IsInstance judged list x → IsInstance judged other y → key_of x ≡ key_of y → x.lits ≡ y.lits
  same_lits list other x y a b e =
      let c = one_clause judged images (subst (λ k. IsClauseOf judged k a.clause) e a.of) b.clause b.of in
      a.lits ∙ ap₂ (λ ts ls. map (instance (value_in ts)) ls) (ap (λ (k : Key). k.terms) e) (ap (λ z. z.lits) c) ∙ sym b.lits

  -- the clauses of the front of a list
  front : (list other : List Key) (xs ys : List Instance) (more : List Key) → All (IsInstance judged list) xs → All (IsInstance judged other) ys
      → keys_of ys ≡ keys_of xs ++ more → (rest : List (List Literal)) × (clauses_in ys ≡ clauses_in xs ++ rest)
  front list other [] ys more a b e = (clauses_in ys, refl)
  front list other (x ∷ xs) [] more a b e = cc
  front list other (x ∷ xs) (y ∷ ys) more a b e =
      let first : key_of y ≡ key_of x = cc in
      let others : keys_of ys ≡ keys_of xs ++ more = cc in
      let r = front list other xs ys more (λ k d l. a (suc k) d (omega arith)) (λ k d l. b (suc k) d (omega arith)) others in
      (r.0, ap₂ (λ l ls. l ∷ ls) (same_lits other list y x (b 0 y (omega arith)) (a 0 x (omega arith)) first) r.1)

  module _ (root : ℕ) (table : List Term) (instances : List Instance) (tasks : List KeyTask) (h : IsPulled judged root table instances tasks) where
    -- a term of a task stands in the clause of the task's instance, wherever the list ends
    named_stands : (all : List Instance) → AreInstances judged root all → (t : Term) → IsNamedPart (keys_in tasks) t → IsInClauses (clauses_in all) t
    named_stands all are t (one, c, p) =
        let d = h.back (keys_of all) are.needed in
        let task = mapped_from key_in tasks one c in
        let k = does_have judged tasks (keys_of instances) (keys_of all) d task.0 task.1 in
        let it = mapped_from key_of all (key_in task.0) k in
        let fit = subst (IsFit judged) (sym it.2) (task_fit judged task.0 (all_at (IsTaskRight judged) tasks task.0 h.right task.1)) in
        let q = subst (λ (x : Key). IsPartOf x.terms t) (sym task.2 ∙ sym it.2) p in (
          it.0.lits,
          mapped (λ (x : Instance). x.lits) all it.0 it.1,
          part_in_clause judged images (keys_of all) it.0 (all_at (IsInstance judged (keys_of all)) all it.0 are.each it.1) fit t q,
        )

    pub over_weight : (limit : ℕ) → IsTermTable table → limit < weight_by (clauses_in instances) table → IsOverWeight judged root limit
    over_weight limit is over all weight are (terms, terms_of, weight_is) =
        let d = h.back (keys_of all) are.needed in
        let extended = does_extend judged tasks (keys_of instances) (keys_of all) d in
        let f = front (keys_of instances) (keys_of all) instances all extended.0 h.each are.each extended.1 in
        let many = ap length f.1 ∙ length-append (clauses_in instances) f.0 in
        let literals = ap literals_in f.1 ∙ sum_by-append (λ (l : List Literal). length l) (clauses_in instances) f.0 in
        let fewer = no_longer table terms (terms_once table is) (λ t c. (terms_of.same t).1 (elim (h.stand t c) [
          | inl p ↦ subst (λ x. IsInClauses x t) (sym f.1) (clause_left (clauses_in instances) f.0 t p)
          | inr q ↦ named_stands all are t q
        ])) in
        omega arith
