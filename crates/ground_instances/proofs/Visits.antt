-- Laws of visits and of the tasks that lead to them.
use Rattle.std.proofs.Common.{◌≡◌, ℕ, zero, suc, List, [], ◌∷◌, ◌++◌, Contains, append_assoc, append-nil, arith, refl, sym, ap, ◌∙◌, subst}
use Rattle.std.proofs.lemmas.List.Elements.{Contains-append_left, Contains-push}
use Rattle.ground_instances.proofs.OneVisit.{one_needs}
use Rattle.ground_instances.specs.Keys.{Judged, Key, key}
use Rattle.ground_instances.specs.Needs.{AreNeeded, done, fresh, Needs, seen, Visits}
use Rattle.ground_instances.specs.States.{append, Does, key_in, KeyTask, visit, visits_of}

-- the list is the front of the other
abbrev pub StartsWith : List Key → List Key → Type 0
StartsWith list after = (more : List Key) × (after ≡ list ++ more)

pub kept : (list after : List Key) → StartsWith list after → (one : Key) → Contains list one → Contains after one
kept list after (more, e) one c = subst (λ x. Contains x one) (sym e) (Contains-append_left list more one c)

none_in : (one : Key) → Contains [] one → ⊥
none_in one (k, l, e) = omega arith

module _ (judged : Judged) where
  visits_then : {list middle : List Key} {one : Key} → Visits judged list (one ∷ []) middle → (rest after : List Key) → Visits judged middle rest after
      → Visits judged list (one ∷ rest) after
  visits_then (seen l k _ _ stands (done _)) rest after w = seen l k rest after stands w
  visits_then (fresh l k _ needs mid _ new has first (done _)) rest after w = fresh l k rest needs mid after new has first w

  visits_split : {list after : List Key} {one : Key} {rest : List Key} → Visits judged list (one ∷ rest) after
      → (middle : List Key) × Visits judged list (one ∷ []) middle × Visits judged middle rest after
  visits_split (seen l k rest after stands v) = (l, seen l k [] l stands (done l), v)
  visits_split (fresh l k rest needs mid after new has first v) = (mid ++ k ∷ [], fresh l k [] needs mid (mid ++ k ∷ []) new has first (done (mid ++ k ∷ [])), v)

  pub does_visits : (needs list : List Key) (tasks : List KeyTask) (after : List Key) → Does judged list (visits_of needs ++ tasks) after
      → (middle : List Key) × Visits judged list needs middle × Does judged middle tasks after
  does_visits [] list tasks after h = (list, done list, h)
  does_visits (n ∷ ns) list tasks after (m, v, h) = let r = does_visits ns m tasks after h in (r.0, visits_then v ns r.0 r.1, r.2)

  pub visits_do : (needs list middle : List Key) (tasks : List KeyTask) (after : List Key) → Visits judged list needs middle → Does judged middle tasks after
      → Does judged list (visits_of needs ++ tasks) after
  visits_do [] list _ tasks after (done _) d = d
  visits_do (n ∷ ns) list middle tasks after v d = let s = visits_split v in (s.0, s.1, visits_do ns s.0 middle tasks after s.2 d)

  -- a visit of an instance that isn't in the list
  pub fresh_visit : {list middle : List Key} {one : Key} → Visits judged list (one ∷ []) middle → (needs : List Key) → (Contains list one → ⊥) → Needs judged one needs
      → (before : List Key) × Visits judged list needs before × (middle ≡ before ++ one ∷ [])
  fresh_visit (seen l k _ _ stands (done _)) needs new has = absurd (new stands)
  fresh_visit (fresh l k _ needs' mid _ new' has' first (done _)) needs new has = (mid, subst (λ z. Visits judged l z mid) (one_needs judged has' needs has) first, refl)

  -- ---- lists only grow

  pub visits_extend : {list keys after : List Key} → Visits judged list keys after → StartsWith list after
  visits_extend (done l) = ([], sym (append-nil l))
  visits_extend (seen l k ks after stands v) = visits_extend v
  visits_extend (fresh l k ks needs mid after new has first v) =
      let f = visits_extend first in
      let r = visits_extend v in (
        f.0 ++ (k ∷ r.0),
        r.1 ∙ append_assoc mid (k ∷ []) r.0 ∙ ap (λ x. x ++ (k ∷ r.0)) f.1 ∙ append_assoc l f.0 (k ∷ r.0),
      )

  pub visited_one : {list after : List Key} {one : Key} → Visits judged list (one ∷ []) after → Contains after one
  visited_one (seen l k _ _ stands (done _)) = stands
  visited_one (fresh l k _ needs mid _ new has first (done _)) = Contains-push mid k

  pub does_extend : (tasks : List KeyTask) (list after : List Key) → Does judged list tasks after → StartsWith list after
  does_extend [] list after h = ([], sym h ∙ sym (append-nil list))
  does_extend (visit k ∷ ts) list after (m, v, d) =
      let f = visits_extend v in
      let r = does_extend ts m after d in
      (f.0 ++ r.0, r.1 ∙ ap (λ x. x ++ r.0) f.1 ∙ append_assoc list f.0 r.0)
  does_extend (append k needs ∷ ts) list after d =
      let r = does_extend ts (list ++ k ∷ []) after d in
      (k ∷ r.0, r.1 ∙ append_assoc list (k ∷ []) r.0)

  -- each task's instance stands in the list in the end
  pub does_have : (tasks : List KeyTask) (list after : List Key) → Does judged list tasks after → (task : KeyTask) → Contains tasks task → Contains after (key_in task)
  does_have [] list after d task (k, l, e) = absurd (omega arith)
  does_have (visit k ∷ ts) list after (m, v, d) task (zero, l, e) =
      subst (λ x. Contains after (key_in x)) e (kept m after (does_extend ts m after d) k (visited_one v))
  does_have (visit k ∷ ts) list after (m, v, d) task (suc j, l, e) = does_have ts m after d task (j, omega arith, e)
  does_have (append k needs ∷ ts) list after d task (zero, l, e) =
      subst (λ x. Contains after (key_in x)) e (kept (list ++ k ∷ []) after (does_extend ts (list ++ k ∷ []) after d) k (Contains-push list k))
  does_have (append k needs ∷ ts) list after d task (suc j, l, e) = does_have ts (list ++ k ∷ []) after d task (j, omega arith, e)

  -- the root's instance is the last
  pub ends_in : {root : ℕ} {after : List Key} → AreNeeded judged root after → (middle : List Key) × (after ≡ middle ++ key root 0 0 [] ∷ [])
  ends_in (seen _ k _ _ stands (done _)) = absurd (none_in k stands)
  ends_in (fresh _ k _ needs mid _ new has first (done _)) = (mid, refl)
