-- Laws on waiting lists.
use Rattle.std.proofs.Common.{◌≡◌, ℕ, ◌<◌, ◌≤◌, ◌≢◌, true, false, refl, append_assoc, drop, ◌+◌, List, [], ◌∷◌, ◌++◌, length, get_or, Contains, ◌⊎◌, inl, inr, subst, sym, arith, slice_set, ◌∙◌, ap, Bool}
use Rattle.std.proofs.lemmas.List.{get_or-set_other, get_or-set_same, get_or_default, length-set, append-nil}
use Rattle.std.proofs.lemmas.List.Elements.{Contains-append_left, Contains-push, Contains-push_cases}
use Rattle.std.proofs.lemmas.Bool.{cases_eq}
use Rattle.derivation_graph.proofs.Members.{next_or_later, none_in_nothing}
use Rattle.std.specs.BTreeSet.{BTreeSet}
use Rattle.derivation_graph.specs.Agendas.{AreStuck, AreTurns, Fits, IsIn, IsMarked, IsOpen, IsPlaced, IsUnmarked, Waits}
use Rattle.derivation_graph.specs.Graphs.{IsStep}
use Rattle.derivation_graph.specs.Orders.{ComeAfter, IsLeastReady}

-- the list that is pushed to, at its place
pub pushed_list : (waiting : List (List ℕ)) (parent step : ℕ) (old list : List ℕ) → parent < length waiting → old ≡ get_or waiting parent old → list ≡ old ++ step ∷ []
    → get_or (slice_set waiting parent list) parent [] ≡ get_or waiting parent [] ++ step ∷ []
pushed_list waiting parent step old list within was is =
    get_or-set_same waiting parent list [] within ∙ (is ∙ ap (λ l. l ++ step ∷ []) (was ∙ get_or_default waiting parent old [] within))

-- what is pushed stands there
pub stands_after_push : (waiting : List (List ℕ)) (parent step : ℕ) (old list : List ℕ) → parent < length waiting → old ≡ get_or waiting parent old → list ≡ old ++ step ∷ []
    → Contains (get_or (slice_set waiting parent list) parent []) step
stands_after_push waiting parent step old list within was is =
    subst (λ l. Contains l step) (sym (pushed_list waiting parent step old list within was is)) (Contains-push (get_or waiting parent []) step)

-- a number that stands in one of the lists stands there after a push to one of them
pub stays_after_push : (waiting : List (List ℕ)) (parent step other waiter : ℕ) (old list : List ℕ) → parent < length waiting → old ≡ get_or waiting parent old → list ≡ old ++ step ∷ []
    → Contains (get_or waiting other []) waiter → Contains (get_or (slice_set waiting parent list) other []) waiter
stays_after_push waiting parent step other waiter old list within was is has = elim (cases_eq other parent) [
  | inl same ↦ subst (λ o. Contains (get_or (slice_set waiting parent list) o []) waiter) (sym same) (subst (λ l. Contains l waiter) (sym (pushed_list waiting parent step old list within was is)) (Contains-append_left (get_or waiting parent []) (step ∷ []) waiter (subst (λ o. Contains (get_or waiting o []) waiter) same has)))
  | inr differs ↦ subst (λ l. Contains l waiter) (sym (get_or-set_other waiting parent other list [] differs)) has
]

-- the lists after a push wait as before for what isn't marked, and the step that is pushed waits too
pub waits_after_push : (rows : List (List ℕ)) (marks : List Bool) (waiting : List (List ℕ)) (parent step waiter : ℕ) (old list : List ℕ) → parent < length waiting → old ≡ get_or waiting parent old → list ≡ old ++ step ∷ []
    → Waits rows marks waiting waiter → Waits rows marks (slice_set waiting parent list) waiter
waits_after_push rows marks waiting parent step waiter old list within was is w =
    (w.0, w.1, w.2, stays_after_push waiting parent step w.0 waiter old list within was is w.3)

-- the next of the others in its place
pub fits_placed : (rows : List (List ℕ)) (marks : List Bool) (ready ready' : BTreeSet ℕ) (waiting waiting' : List (List ℕ)) (others : List ℕ) (i : ℕ) → i < length others
    → Fits rows marks ready waiting (drop i others) → length waiting' ≡ length rows + 1
    → (IsStep rows (get_or others i 0) → IsUnmarked marks (get_or others i 0) → IsPlaced rows marks ready' waiting' (get_or others i 0))
    → ((q : ℕ) → IsPlaced rows marks ready waiting q → IsPlaced rows marks ready' waiting' q)
    → ((q : ℕ) → IsIn ready' q → IsIn ready q ⊎ IsOpen rows marks q)
    → Fits rows marks ready' waiting' (drop (i + 1) others)
fits_placed rows marks ready ready' waiting waiting' others i below fits long placed kept opened = record {
  long = long;
  placed = λ q stands u. elim (fits.placed q stands u) [
    | inl before ↦ inl (kept q before)
    | inr left ↦ elim (next_or_later others i q below left) [
      | inl is ↦ inl (subst (λ x. IsPlaced rows marks ready' waiting' x) is (placed (subst (λ x. IsStep rows x) (sym is) stands) (subst (λ x. IsUnmarked marks x) (sym is) u)))
      | inr later ↦ inr later
    ]
  ];
  opened = λ q in_set. elim (opened q in_set) [ inl before ↦ fits.opened q before | inr now ↦ now ];
}

-- ---- turns

-- a number is marked or not
pub marked_or_not : (marks : List Bool) (n : ℕ) → IsMarked marks n ⊎ IsUnmarked marks n
marked_or_not marks n = let b : Bool = get_or marks n false in either b
  where
    either : (b : Bool) → (b ≡ true) ⊎ (b ≡ false)
    either true = inl refl
    either false = inr refl

-- a list of turns with the least ready step at its end
pub come_after_push : (rows : List (List ℕ)) (listed rest : List ℕ) (step : ℕ) → ComeAfter rows listed rest → IsLeastReady rows (listed ++ rest) step → ComeAfter rows listed (rest ++ step ∷ [])
come_after_push rows listed [] step h least = (subst (λ l. IsLeastReady rows l step) (append-nil listed) least, tt)
come_after_push rows listed (first ∷ rest) step h least =
    (h.0, come_after_push rows (listed ++ first ∷ []) rest step h.1 (subst (λ l. IsLeastReady rows l step) (sym (append_assoc listed (first ∷ []) rest)) least))

-- the least number of the ready set is the least ready step
pub least_is_ready : (rows : List (List ℕ)) (marks : List Bool) (list : List ℕ) (ready : BTreeSet ℕ) (waiting : List (List ℕ)) (step : ℕ) → AreTurns rows marks list → Fits rows marks ready waiting []
    → IsIn ready step → ((n : ℕ) → IsIn ready n → step ≤ n) → IsLeastReady rows list step
least_is_ready rows marks list ready waiting step turns fits has least =
    let opening : IsOpen rows marks step = fits.opened step has in (
      record {
        stands = opening.stands;
        fresh = λ listed. let m = turns.marked step listed in let u = opening.fresh in cc;
        after = λ parent h. turns.listed parent (opening.after parent h);
      },
      λ other below other_ready. elim (marked_or_not marks other) [
        | inl m ↦ other_ready.fresh (turns.listed other m)
        | inr u ↦ elim (fits.placed other other_ready.stands u) [
          | inl placed ↦ elim placed [
            | inl in_set ↦ omega (arith, least other in_set)
            | inr waits ↦ let m = turns.marked waits.0 (other_ready.after waits.0 waits.1) in let v = waits.2 in cc
          ]
          | inr none ↦ none_in_nothing other none
        ]
      ],
    )

-- the turns with that step
pub turns_after : (rows : List (List ℕ)) (marks : List Bool) (list after : List ℕ) (ready : BTreeSet ℕ) (waiting : List (List ℕ)) (step : ℕ) → AreTurns rows marks list → Fits rows marks ready waiting []
    → IsIn ready step → ((n : ℕ) → IsIn ready n → step ≤ n) → after ≡ list ++ step ∷ [] → AreTurns rows (slice_set marks step true) after
turns_after rows marks list after ready waiting step turns fits has least is =
    let opening : IsOpen rows marks step = fits.opened step has in
    let within : step < length marks = omega (arith, opening.stands.1, turns.long) in
    rw is (record {
      long = length-set marks step true ∙ turns.long;
      turns = come_after_push rows [] list step turns.turns (least_is_ready rows marks list ready waiting step turns fits has least);
      listed = λ q m. elim (cases_eq q step) [
        | inl same ↦ subst (λ x. Contains (list ++ step ∷ []) x) (sym same) (Contains-push list step)
        | inr differs ↦ Contains-append_left list (step ∷ []) q (turns.listed q (sym (get_or-set_other marks step q true false differs) ∙ m))
      ];
      marked = λ q h. elim (cases_eq q step) [
        | inl same ↦ subst (λ x. get_or (slice_set marks step true) x false ≡ true) (sym same) (get_or-set_same marks step true false within)
        | inr differs ↦ elim (Contains-push_cases list step q h) [
          | inl before ↦ get_or-set_other marks step q true false differs ∙ turns.marked q before
          | inr same ↦ absurd (differs (sym same))
        ]
      ];
    })

-- with the step marked and out of the ready set, those that waited for it have no place yet
pub fits_after : (rows : List (List ℕ)) (marks : List Bool) (list : List ℕ) (ready rest : BTreeSet ℕ) (waiting : List (List ℕ)) (step : ℕ) → AreTurns rows marks list → Fits rows marks ready waiting []
    → IsIn ready step → ((n : ℕ) → IsIn rest n → IsIn ready n × (n ≢ step)) → ((n : ℕ) → IsIn ready n → (n ≡ step) ⊎ IsIn rest n)
    → Fits rows (slice_set marks step true) rest waiting (get_or waiting step [])
fits_after rows marks list ready rest waiting step turns fits has others kept =
    let opening : IsOpen rows marks step = fits.opened step has in
    let within : step < length marks = omega (arith, opening.stands.1, turns.long) in
    let marked : get_or (slice_set marks step true) step false ≡ true = get_or-set_same marks step true false within in
    record {
      long = fits.long;
      placed = λ q stands u. elim (cases_eq q step) [
        | inl same ↦ let v = subst (λ x. get_or (slice_set marks step true) x false ≡ false) same u in cc
        | inr differs ↦ elim (fits.placed q stands (sym (get_or-set_other marks step q true false differs) ∙ u)) [
          | inl placed ↦ elim placed [
            | inl in_set ↦ elim (kept q in_set) [
              | inl same ↦ absurd (differs same)
              | inr in_rest ↦ inl (inl in_rest)
            ]
            | inr waits ↦ elim (cases_eq waits.0 step) [
              | inl for_it ↦ inr (subst (λ x. Contains (get_or waiting x []) q) for_it waits.3)
              | inr for_another ↦ inl (inr (waits.0, waits.1, get_or-set_other marks step waits.0 true false for_another ∙ waits.2, waits.3))
            ]
          ]
          | inr none ↦ absurd (none_in_nothing q none)
        ]
      ];
      opened = λ q in_rest.
          let was = others q in_rest in
          let one : IsOpen rows marks q = fits.opened q was.0 in
          record {
            stands = one.stands;
            fresh = get_or-set_other marks step q true false was.1 ∙ one.fresh;
            after = λ parent h. elim (cases_eq parent step) [
              | inl same ↦ subst (λ x. get_or (slice_set marks step true) x false ≡ true) (sym same) marked
              | inr differs ↦ get_or-set_other marks step parent true false differs ∙ one.after parent h
            ];
          };
    }

-- where no step is ready, each step that isn't listed has a parent that isn't
pub stuck_without_ready : (rows : List (List ℕ)) (marks : List Bool) (list : List ℕ) (ready : BTreeSet ℕ) (waiting : List (List ℕ)) → AreTurns rows marks list → Fits rows marks ready waiting []
    → ((n : ℕ) → IsIn ready n → ⊥) → AreStuck rows list
stuck_without_ready rows marks list ready waiting turns fits none step stands unlisted = elim (marked_or_not marks step) [
  | inl m ↦ absurd (unlisted (turns.listed step m))
  | inr u ↦ elim (fits.placed step stands u) [
    | inl placed ↦ elim placed [
      | inl in_set ↦ absurd (none step in_set)
      | inr waits ↦ (waits.0, waits.1, λ h. let m = turns.marked waits.0 h in let v = waits.2 in cc)
    ]
    | inr nothing ↦ absurd (none_in_nothing step nothing)
  ]
]
