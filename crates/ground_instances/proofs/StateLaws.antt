-- Laws of the state: what each task does to it.
use Rattle.std.proofs.Common.{◌≡◌, ◌<◌, ℕ, zero, suc, List, [], ◌∷◌, ◌++◌, length, All, Contains, Some, slice_get, arith, refl, sym, ap, ◌∙◌, subst, ◌⊎◌, inl, inr}
use Rattle.std.proofs.lemmas.List.{map-append}
use Rattle.std.proofs.lemmas.List.Elements.{All-append, All-push, Contains-append_cases, Contains-append_left, Contains-append_right}
use Rattle.dk_syntax.specs.declared.term.Term.{Term}
use Rattle.ground_instances.proofs.ClauseLaws.{part_in_clause}
use Rattle.ground_instances.proofs.OneVisit.{one_visit}
use Rattle.ground_instances.proofs.Parts.{all_at, beyond, clause_left, clause_right, mapped, mapped_from, there}
use Rattle.ground_instances.proofs.Visits.{does_visits, fresh_visit, visits_do}
use Rattle.ground_instances.specs.Growing.{Grows}
use Rattle.ground_instances.specs.Instances.{AreNumbers, clauses_in, IsInstance, key_of, keys_of}
use Rattle.ground_instances.specs.Keys.{Judged, Key}
use Rattle.ground_instances.specs.Naming.{IsFit, IsNamedPart}
use Rattle.ground_instances.specs.Needs.{done, fresh, Needs, seen}
use Rattle.ground_instances.specs.Notes.{HasImages}
use Rattle.ground_instances.specs.States.{append, Does, IsPulled, IsTaskRight, key_in, keys_in, KeyTask, visit, visits_of}
use Rattle.ground_instances.specs.Weights.{IsInClause, IsInClauses, IsPartOf}
use Rattle.ground_instances.specs.declared.instance.Instance.{Instance}

-- ---- lists

slice_more : {A : Type 0} (xs more : List A) (n : ℕ) (x : A) → slice_get xs n ≡ Some x → slice_get (xs ++ more) n ≡ Some x
slice_more [] more n x h = cc
slice_more (y ∷ ys) more zero x h = h
slice_more (y ∷ ys) more (suc n) x h = slice_more ys more n x h

slice_last : {A : Type 0} (xs : List A) (x y : A) (n : ℕ) → slice_get (xs ++ x ∷ []) n ≡ Some y → (slice_get xs n ≡ Some y) ⊎ ((n ≡ length xs) × (x ≡ y))
slice_last [] x y zero h = inr (refl, cc)
slice_last [] x y (suc n) h = cc
slice_last (z ∷ zs) x y zero h = inl h
slice_last (z ∷ zs) x y (suc n) h = elim (slice_last zs x y n h) [ inl p ↦ inl p | inr q ↦ inr (ap suc q.0, q.1) ]

contained : {A : Type 0} (xs : List A) (n : ℕ) (x : A) → slice_get xs n ≡ Some x → Contains xs x
contained [] n x h = cc
contained (y ∷ ys) zero x h = (0, omega arith, cc)
contained (y ∷ ys) (suc n) x h = beyond y x ys (contained ys n x h)

-- ---- tasks

keys_of_visits : (needs : List Key) → keys_in (visits_of needs) ≡ needs
keys_of_visits [] = refl
keys_of_visits (n ∷ ns) = ap (λ x. n ∷ x) (keys_of_visits ns)

keys_begun : (needs : List Key) (one : Key) (tasks : List KeyTask) → keys_in (visits_of needs ++ append one needs ∷ tasks) ≡ needs ++ one ∷ keys_in tasks
keys_begun needs one tasks = map-append key_in (visits_of needs) (append one needs ∷ tasks) ∙ ap (λ x. x ++ one ∷ keys_in tasks) (keys_of_visits needs)

named_left : (xs ys : List Key) (t : Term) → IsNamedPart xs t → IsNamedPart (xs ++ ys) t
named_left xs ys t (one, c, p) = (one, Contains-append_left xs ys one c, p)

named_right : (xs ys : List Key) (t : Term) → IsNamedPart ys t → IsNamedPart (xs ++ ys) t
named_right xs ys t (one, c, p) = (one, Contains-append_right xs ys one c, p)

-- a part of a term of the first instance, or of another
named_first : (one : Key) (rest : List Key) (t : Term) → IsNamedPart (one ∷ rest) t → IsPartOf one.terms t ⊎ IsNamedPart rest t
named_first one rest t (other, (zero, l, e), p) = inl (subst (λ (x : Key). IsPartOf x.terms t) (sym e) p)
named_first one rest t (other, (suc k, l, e), p) = inr (other, (k, omega arith, e), p)

-- a term of the table after it grew
old_or_new : {Is : Term → Type 0} {old new : List Term} → Grows Is old new → (t : Term) → Contains new t → Contains old t ⊎ Is t
old_or_new {old = old} g t c = elim (Contains-append_cases old g.more t (subst (λ x. Contains x t) g.grown c)) [ inl p ↦ inl p | inr q ↦ inr (g.each t q) ]

more_numbers : (list more needs : List Key) (numbers : List ℕ) → AreNumbers list needs numbers → AreNumbers (list ++ more) needs numbers
more_numbers list more [] [] h = tt
more_numbers list more [] (n ∷ numbers) h = absurd h
more_numbers list more (one ∷ needs) [] h = absurd h
more_numbers list more (one ∷ needs) (n ∷ numbers) h = (slice_more list more n one h.0, more_numbers list more needs numbers h.1)

module _ (judged : Judged) where
  more_instance : (list more : List Key) (it : Instance) → IsInstance judged list it → IsInstance judged (list ++ more) it
  more_instance list more it is = record {
    clause = is.clause;
    of = is.of;
    each = is.each;
    lits = is.lits;
    needed = is.needed;
    needs = is.needs;
    numbers = more_numbers list more is.needed it.needs is.numbers;
  }

  module _ (images : HasImages judged) where
    -- the terms of an instance in the list stand in its clause
    seen_part : (list : List Key) (instances : List Instance) → All (IsInstance judged list) instances → All (IsFit judged) (keys_of instances)
        → (one : Key) → Contains (keys_of instances) one → (t : Term) → IsPartOf one.terms t → IsInClauses (clauses_in instances) t
    seen_part list instances each fits one c t p =
        let r = mapped_from key_of instances one c in
        let it = r.0 in
        let fit = subst (IsFit judged) (sym r.2) (all_at (IsFit judged) (keys_of instances) one fits c) in
        let q = subst (λ (x : Key). IsPartOf x.terms t) (sym r.2) p in
        (it.lits, mapped (λ (x : Instance). x.lits) instances it r.1, part_in_clause judged images list it (all_at (IsInstance judged list) instances it each r.1) fit t q)

    module _ (root : ℕ) where
      -- a visit of an instance that stands in the list is over
      pub skipped : (table : List Term) (instances : List Instance) (one : Key) (tasks : List KeyTask) → IsPulled judged root table instances (visit one ∷ tasks)
          → Contains (keys_of instances) one → IsPulled judged root table instances tasks
      skipped table instances one tasks h c =
          let keys = keys_of instances in
          let over = seen keys one [] keys c (done keys) in
          record {
            goes = λ after d. h.goes after (keys, over, d);
            back = λ after n. let d = h.back after n in subst (λ m. Does judged m tasks after) (one_visit judged d.1 keys over) d.2;
            each = h.each;
            before = h.before;
            once = h.once;
            fits = h.fits;
            right = λ k d l. h.right (suc k) d (omega arith);
            stand = λ t k. elim (h.stand t k) [
              | inl p ↦ inl p
              | inr q ↦ elim (named_first one (keys_in tasks) t q) [ inl p ↦ inl (seen_part keys instances h.each h.fits one c t p) | inr p ↦ inr p ]
            ];
          }

      -- a visit of another begins
      pub begun : (table new : List Term) (instances : List Instance) (one : Key) (needs : List Key) (tasks : List KeyTask)
          → IsPulled judged root table instances (visit one ∷ tasks) → (Contains (keys_of instances) one → ⊥) → Needs judged one needs → All (IsFit judged) needs
          → Grows (IsNamedPart needs) table new → IsPulled judged root new instances (visits_of needs ++ append one needs ∷ tasks)
      begun table new instances one needs tasks h absent has fits grows =
          let keys = keys_of instances in
          let names = keys_begun needs one tasks in
          record {
            goes = λ after d.
                let r = does_visits judged needs keys (append one needs ∷ tasks) after d in
                h.goes after (r.0 ++ one ∷ [], fresh keys one [] needs r.0 (r.0 ++ one ∷ []) absent has r.1 (done (r.0 ++ one ∷ [])), r.2);
            back = λ after n.
                let d = h.back after n in
                let v = fresh_visit judged d.1 needs absent has in
                visits_do judged needs keys v.0 (append one needs ∷ tasks) after v.1 (subst (λ m. Does judged m tasks after) v.2 d.2);
            each = h.each;
            before = h.before;
            once = h.once;
            fits = h.fits;
            right = All-append (IsTaskRight judged) (visits_of needs) (append one needs ∷ tasks) (all_visits needs fits)
                (first_right (append one needs) tasks (h.right 0 (visit one) (omega arith), has) (λ k d l. h.right (suc k) d (omega arith)));
            stand = λ t k. elim (old_or_new grows t k) [
              | inl p ↦ elim (h.stand t p) [
                | inl q ↦ inl q
                | inr q ↦ inr (subst (λ x. IsNamedPart x t) (sym names) (named_right needs (one ∷ keys_in tasks) t q))
              ]
              | inr q ↦ inr (subst (λ x. IsNamedPart x t) (sym names) (named_left needs (one ∷ keys_in tasks) t q))
            ];
          }
        where
          all_visits : (ns : List Key) → All (IsFit judged) ns → All (IsTaskRight judged) (visits_of ns)
          all_visits [] all k d l = absurd (omega arith)
          all_visits (n ∷ ns) all zero d l = all 0 n (omega arith)
          all_visits (n ∷ ns) all (suc k) d l = all_visits ns (λ j e m. all (suc j) e (omega arith)) k d (omega arith)

          first_right : (task : KeyTask) (rest : List KeyTask) → IsTaskRight judged task → All (IsTaskRight judged) rest → All (IsTaskRight judged) (task ∷ rest)
          first_right task rest p all zero d l = p
          first_right task rest p all (suc k) d l = all k d (omega arith)

      keys_put : (instances : List Instance) (it : Instance) (one : Key) → key_of it ≡ one → keys_of (instances ++ it ∷ []) ≡ keys_of instances ++ one ∷ []
      keys_put instances it one e = map-append key_of instances (it ∷ []) ∙ ap (λ x. keys_of instances ++ x ∷ []) e

      -- an instance comes to the end of the list
      pub put : (table new : List Term) (instances : List Instance) (it : Instance) (one : Key) (needs : List Key) (tasks : List KeyTask)
          → IsPulled judged root table instances (append one needs ∷ tasks) → key_of it ≡ one → IsInstance judged (keys_of instances) it
          → All (λ need. need < length instances) it.needs → (Contains (keys_of instances) one → ⊥) → Grows (IsInClause it.lits) table new
          → IsPulled judged root new (instances ++ it ∷ []) tasks
      put table new instances it one needs tasks h name is earlier absent grows =
          let keys = keys_of instances in
          let names = keys_put instances it one name in
          let fit : IsFit judged one = (h.right 0 (append one needs) (omega arith)).0 in
          let clauses : clauses_in (instances ++ it ∷ []) ≡ clauses_in instances ++ it.lits ∷ [] = map-append (λ (x : Instance). x.lits) instances (it ∷ []) in
          record {
            goes = λ after d. h.goes after (subst (λ x. Does judged x tasks after) names d);
            back = λ after n. subst (λ x. Does judged x tasks after) (sym names) (h.back after n);
            each = subst (λ x. All (IsInstance judged x) (instances ++ it ∷ [])) (sym names)
                (All-push (IsInstance judged (keys ++ one ∷ [])) instances it (λ k d l. more_instance keys (one ∷ []) _ (h.each k d l)) (more_instance keys (one ∷ []) it is));
            before = λ n x at. elim (slice_last instances it x n at) [
              | inl p ↦ h.before n x p
              | inr q ↦ subst (λ (y : Instance). All (λ need. need < n) y.needs) q.1 (subst (λ m. All (λ need. need < m) it.needs) (sym q.0) earlier)
            ];
            once = λ j k x y at bt e. different j k x y (slice_last instances it x j at) (slice_last instances it y k bt) e;
            fits = subst (All (IsFit judged)) (sym names) (All-push (IsFit judged) keys one h.fits fit);
            right = λ k d l. h.right (suc k) d (omega arith);
            stand = λ t k. subst (λ x. IsInClauses x t ⊎ IsNamedPart (keys_in tasks) t) (sym clauses) (elim (old_or_new grows t k) [
              | inl p ↦ elim (h.stand t p) [
                | inl q ↦ inl (clause_left (clauses_in instances) (it.lits ∷ []) t q)
                | inr q ↦ elim (named_first one (keys_in tasks) t q) [
                  | inl r ↦ inl (last_clause t (part_in_clause judged images keys it is (subst (IsFit judged) (sym name) fit) t (subst (λ (x : Key). IsPartOf x.terms t) (sym name) r)))
                  | inr r ↦ inr r
                ]
              ]
              | inr q ↦ inl (last_clause t q)
            ]);
          }
        where
          last_clause : (t : Term) → IsInClause it.lits t → IsInClauses (clauses_in instances ++ it.lits ∷ []) t
          last_clause t p = clause_right (clauses_in instances) (it.lits ∷ []) t (it.lits, there it.lits [], p)

          stands_not : (x : Instance) (n : ℕ) → slice_get instances n ≡ Some x → key_of x ≡ one → ⊥
          stands_not x n at e = absent (subst (Contains (keys_of instances)) e (mapped key_of instances x (contained instances n x at)))

          different : (j k : ℕ) (x y : Instance) → ((slice_get instances j ≡ Some x) ⊎ ((j ≡ length instances) × (it ≡ x)))
              → ((slice_get instances k ≡ Some y) ⊎ ((k ≡ length instances) × (it ≡ y))) → key_of x ≡ key_of y → j ≡ k
          different j k x y (inl p) (inl q) e = h.once j k x y p q e
          different j k x y (inl p) (inr q) e = absurd (stands_not x j p (e ∙ ap key_of (sym q.1) ∙ name))
          different j k x y (inr p) (inl q) e = absurd (stands_not y k q (sym e ∙ ap key_of (sym p.1) ∙ name))
          different j k x y (inr p) (inr q) e = p.0 ∙ sym q.0
