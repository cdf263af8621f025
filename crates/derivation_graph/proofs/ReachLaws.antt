-- Laws on what walks reach.
use Rattle.std.proofs.Common.{◌≡◌, ℕ, ◌+◌, ◌<◌, Bool, true, false, not, count_by, List, [], ◌∷◌, ◌++◌, length, get_or, Contains, inl, inr, refl, subst, sym, ◌∙◌, arith, slice_set}
use Rattle.std.proofs.lemmas.Bool.{cases_eq}
use Rattle.std.proofs.lemmas.List.{get_or-replicate, get_or-set_other, get_or-set_same, length-append, length-replicate, length-set}
use Rattle.std.proofs.Math.ListN.{get_or-eq_default, replicate}
use native.Mathlib.Decide.{dec_lt}
use Rattle.std.proofs.lemmas.List.Elements.{Contains-append_left, Contains-push, Contains-push_cases}
use Rattle.derivation_graph.specs.Agendas.{IsMarked, IsUnmarked}
use Rattle.derivation_graph.specs.Graphs.{HasParent, IsOnCycle, IsStep, parents_in, Walks, turn, onward}
use Rattle.derivation_graph.specs.Reach.{Reaches, Spreads}
use Rattle.derivation_graph.proofs.Members.{contains_cons, contains_first, none_in_nothing}
use Rattle.derivation_graph.proofs.OrderLaws.{parents_stand, walk_on}

-- the only member of a list of one
only_member : (n q : ℕ) → Contains (n ∷ []) q → n ≡ q
only_member n q h = elim (contains_cons n q [] h) [ inl same ↦ same | inr none ↦ absurd (none_in_nothing q none) ]

-- what is marked already spreads to nothing more
pub spreads_to_marked : (n : ℕ) (seen : List Bool) (pending : List ℕ) → IsMarked seen n → Spreads (n ∷ []) seen seen pending pending
spreads_to_marked n seen pending m = record {
  long = refl;
  alone = λ q h. inl h;
  all = λ q h. subst (λ x. IsMarked seen x) (only_member n q h) m;
  kept = λ q h. h;
  stays = λ q h. h;
  added = λ q h. inl h;
  known = λ q h. inl h;
  left = refl;
}

-- one mark more, and one number that is pending
pub spreads_to_new : (n : ℕ) (seen : List Bool) (pending pending' : List ℕ) → n < length seen → IsUnmarked seen n → pending' ≡ pending ++ n ∷ []
    → count_by not (slice_set seen n true) + 1 ≡ count_by not seen → Spreads (n ∷ []) seen (slice_set seen n true) pending pending'
spreads_to_new n seen pending pending' below u is counted = rw is (record {
  long = length-set seen n true;
  alone = λ q h. elim (cases_eq q n) [
    | inl same ↦ inr (subst (λ x. Contains (n ∷ []) x) (sym same) (contains_first n []))
    | inr differs ↦ inl (sym (get_or-set_other seen n q true false differs) ∙ h)
  ];
  all = λ q h. subst (λ x. get_or (slice_set seen n true) x false ≡ true) (only_member n q h) (get_or-set_same seen n true false below);
  kept = λ q h. elim (cases_eq q n) [
    | inl same ↦ subst (λ x. get_or (slice_set seen n true) x false ≡ true) (sym same) (get_or-set_same seen n true false below)
    | inr differs ↦ get_or-set_other seen n q true false differs ∙ h
  ];
  stays = λ q h. Contains-append_left pending (n ∷ []) q h;
  added = λ q h. elim (cases_eq q n) [
    | inl same ↦ inr (subst (λ x. Contains (pending ++ n ∷ []) x) (sym same) (Contains-push pending n))
    | inr differs ↦ inl (sym (get_or-set_other seen n q true false differs) ∙ h)
  ];
  known = λ q h. elim (Contains-push_cases pending n q h) [
    | inl before ↦ inl before
    | inr same ↦ inr (subst (λ x. get_or (slice_set seen n true) x false ≡ true) same (get_or-set_same seen n true false below))
  ];
  left = let e = length-append pending (n ∷ []) in omega arith;
})

-- with no numbers nothing spreads
pub spreads_to_none : (seen : List Bool) (pending : List ℕ) → Spreads [] seen seen pending pending
spreads_to_none seen pending = record {
  long = refl;
  alone = λ q h. inl h;
  all = λ q h. absurd (none_in_nothing q h);
  kept = λ q h. h;
  stays = λ q h. h;
  added = λ q h. inl h;
  known = λ q h. inl h;
  left = refl;
}

-- to some numbers, and then to one more
pub spreads_more : (numbers : List ℕ) (n : ℕ) (a b c : List Bool) (o p q : List ℕ) → Spreads numbers a b o p → Spreads (n ∷ []) b c p q → Spreads (numbers ++ n ∷ []) a c o q
spreads_more numbers n a b c o p q first last = record {
  long = last.long ∙ first.long;
  alone = λ x h. elim (last.alone x h) [
    | inl before ↦ elim (first.alone x before) [ inl old ↦ inl old | inr among ↦ inr (Contains-append_left numbers (n ∷ []) x among) ]
    | inr now ↦ inr (subst (λ y. Contains (numbers ++ n ∷ []) y) (only_member n x now) (Contains-push numbers n))
  ];
  all = λ x h. elim (Contains-push_cases numbers n x h) [
    | inl among ↦ last.kept x (first.all x among)
    | inr same ↦ last.all x (subst (λ y. Contains (n ∷ []) y) same (contains_first n []))
  ];
  kept = λ x h. last.kept x (first.kept x h);
  stays = λ x h. last.stays x (first.stays x h);
  added = λ x h. elim (last.added x h) [
    | inl before ↦ elim (first.added x before) [ inl old ↦ inl old | inr waits ↦ inr (last.stays x waits) ]
    | inr waits ↦ inr waits
  ];
  known = λ x h. elim (last.known x h) [
    | inl before ↦ elim (first.known x before) [ inl old ↦ inl old | inr marked ↦ inr (last.kept x marked) ]
    | inr marked ↦ inr marked
  ];
  left = last.left ∙ first.left;
}

-- ---- the walks from a step

-- of marks that are all false none is set
pub none_marked : (count : ℕ) (seen : List Bool) → seen ≡ replicate count false → (n : ℕ) → IsMarked seen n → ⊥
none_marked count seen is n m = elim (dec_lt n count) [
  | yes below ↦ let e = get_or-replicate count n false false below in let f = subst (λ l. get_or l n false ≡ true) is m in cc
  | no past ↦
      let long = length-replicate count false in
      let e = get_or-eq_default (replicate count false) false {n = n} (omega arith) in
      let f = subst (λ l. get_or l n false ≡ true) is m in cc
]

-- the parents of the step itself
pub reaches_parents : (rows : List (List ℕ)) (step : ℕ) (seen seen' : List Bool) (pending : List ℕ) → length seen ≡ length rows + 1 → ((n : ℕ) → IsMarked seen n → ⊥)
    → Spreads (parents_in rows step) seen seen' [] pending → Reaches rows step seen' pending
reaches_parents rows step seen seen' pending long none s = record {
  long = s.long ∙ long;
  walks = λ n h. elim (s.alone n h) [ inl before ↦ absurd (none n before) | inr parent ↦ turn step n parent ];
  begun = λ n h. s.all n h;
  known = λ n h. elim (s.known n h) [ inl before ↦ absurd (none_in_nothing n before) | inr marked ↦ marked ];
  done = λ n parent h is. elim (s.added n h) [ inl before ↦ absurd (none n before) | inr waits ↦ inl waits ];
}

-- the parents of a marked step that was pending
pub reaches_more : (rows : List (List ℕ)) (step next : ℕ) (seen seen' : List Bool) (pending rest pending' : List ℕ) → pending ≡ rest ++ next ∷ []
    → Reaches rows step seen pending → Spreads (parents_in rows next) seen seen' rest pending' → Reaches rows step seen' pending'
reaches_more rows step next seen seen' pending rest pending' is r s =
    let came : Walks rows step next = r.walks next (r.known next (rw is (Contains-push rest next))) in
    record {
      long = s.long ∙ r.long;
      walks = λ n h. elim (s.alone n h) [ inl before ↦ r.walks n before | inr parent ↦ walk_on rows step next n came parent ];
      begun = λ n h. s.kept n (r.begun n h);
      known = λ n h. elim (s.known n h) [ inl before ↦ s.kept n (r.known n (rw is (Contains-append_left rest (next ∷ []) n before))) | inr marked ↦ marked ];
      done = λ n parent h p. elim (s.added n h) [
        | inl before ↦ elim (r.done n parent before p) [
          | inl waits ↦ elim (Contains-push_cases rest next n (subst (λ l. Contains l n) is waits)) [
            | inl still ↦ inl (s.stays n still)
            | inr same ↦ inr (s.all parent (subst (λ x. HasParent rows x parent) (sym same) p))
          ]
          | inr marked ↦ inr (s.kept parent marked)
        ]
        | inr waits ↦ inl waits
      ];
    }

-- where nothing is pending, what a walk reaches from a marked step is marked
pub walk_stays : (rows : List (List ℕ)) (step : ℕ) (seen : List Bool) → Reaches rows step seen [] → (from to : ℕ) → IsMarked seen from → Walks rows from to → IsMarked seen to
walk_stays rows step seen r _ _ m (turn from to h) = elim (r.done from to m h) [ inl waits ↦ absurd (none_in_nothing from waits) | inr marked ↦ marked ]
walk_stays rows step seen r _ _ m (onward from through to h rest) =
    let n : IsMarked seen through = elim (r.done from through m h) [ inl waits ↦ absurd (none_in_nothing from waits) | inr marked ↦ marked ] in
    walk_stays rows step seen r through to n rest

-- and so is what a walk reaches from the step
pub walk_marked : (rows : List (List ℕ)) (step : ℕ) (seen : List Bool) → Reaches rows step seen [] → (to : ℕ) → Walks rows step to → IsMarked seen to
walk_marked rows _ seen r _ (turn from to h) = r.begun to h
walk_marked rows _ seen r _ (onward from through to h rest) = walk_stays rows from seen r through to (r.begun through h) rest

-- what lies on a cycle is a step
pub cycle_stands : (rows : List (List ℕ)) (step : ℕ) → IsOnCycle rows step → IsStep rows step
cycle_stands rows step walk = first_stands step step walk
  where
    first_stands : (from to : ℕ) → Walks rows from to → IsStep rows from
    first_stands _ _ (turn from to h) = parents_stand rows from to h
    first_stands _ _ (onward from through to h rest) = parents_stand rows from through h
