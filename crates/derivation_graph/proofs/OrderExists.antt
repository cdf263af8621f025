-- In a graph without a cycle, each of whose parents is a step, the steps have an order.
use Rattle.std.proofs.Common.{◌≡◌, ℕ, zero, suc, ◌+◌, ◌-◌, ◌<◌, ◌≤◌, List, [], ◌∷◌, ◌++◌, length, get_or, length-append, append_assoc, append-nil, Contains, ◌⊎◌, inl, inr, refl, subst, sym, ap, ◌∙◌, arith}
use Rattle.std.proofs.Math.ListN.{get_or-append}
use Rattle.std.proofs.Math.Seq.{get_or-append_seam}
use Rattle.std.proofs.lemmas.Bool.{cases_eq}
use Rattle.indexmap.proofs.IndexTableLemmas.Probe.{pigeonhole}
use native.Mathlib.Decide.{dec_lt}
use Rattle.derivation_graph.specs.Agendas.{AreStuck}
use Rattle.derivation_graph.specs.Graphs.{HasNoCycle, HasParent, HasStepsForParents, IsStep, parents_in}
use Rattle.derivation_graph.specs.Orders.{ComeAfter, HasOrder, IsLeastReady, IsReady}
use Rattle.derivation_graph.proofs.Members.{contains_cons, contains_first, contains_later, member_or_not, none_in_nothing}
use Rattle.derivation_graph.proofs.OrderLaws.{has_order}

-- ---- what is ready

-- one of the numbers isn't listed, or all are
unlisted_or_all : (numbers listed : List ℕ)
    → ((parent : ℕ) × Contains numbers parent × (Contains listed parent → ⊥)) ⊎ ((parent : ℕ) → Contains numbers parent → Contains listed parent)
unlisted_or_all [] listed = inr (λ parent h. absurd (none_in_nothing parent h))
unlisted_or_all (n ∷ numbers) listed = elim (member_or_not listed n) [
  | inr absent ↦ inl (n, contains_first n numbers, absent)
  | inl there ↦ elim (unlisted_or_all numbers listed) [
    | inl found ↦ inl (found.0, contains_later n found.0 numbers found.1, found.2)
    | inr all ↦ inr (λ parent h. elim (contains_cons n parent numbers h) [ inl same ↦ subst (Contains listed) same there | inr later ↦ all parent later ])
  ]
]

module _ (rows : List (List ℕ)) (listed : List ℕ) where
  -- a step that isn't listed is ready, or a parent of it isn't listed
  ready_or_waits : (step : ℕ) → IsStep rows step → (Contains listed step → ⊥)
      → IsReady rows listed step ⊎ ((parent : ℕ) × HasParent rows step parent × (Contains listed parent → ⊥))
  ready_or_waits step stands fresh = elim (unlisted_or_all (parents_in rows step) listed) [
    | inl waits ↦ inr waits
    | inr all ↦ inl (record { stands = stands; fresh = fresh; after = all })
  ]

  ready_or_not : (step : ℕ) → IsReady rows listed step ⊎ (IsReady rows listed step → ⊥)
  ready_or_not step = elim (dec_lt 0 step) [
    | no zero' ↦ inr (λ h. zero' h.stands.0)
    | yes positive ↦ elim (dec_lt (length rows) step) [
      | yes past ↦ inr (λ h. let high = h.stands.1 in omega arith)
      | no within ↦ elim (member_or_not listed step) [
        | inl there ↦ inr (λ h. h.fresh there)
        | inr fresh ↦ elim (ready_or_waits step (positive, omega arith) fresh) [
          | inl ready ↦ inl ready
          | inr waits ↦ inr (λ h. waits.2 (h.after waits.0 waits.1))
        ]
      ]
    ]
  ]

  -- the least that is ready below a number, or none is
  least_or_none : (n : ℕ) → ((step : ℕ) × IsLeastReady rows listed step) ⊎ ((step : ℕ) → step < n → IsReady rows listed step → ⊥)
  least_or_none zero = inr (λ step below. absurd (omega arith))
  least_or_none (suc n) = elim (least_or_none n) [
    | inl found ↦ inl found
    | inr none ↦ elim (ready_or_not n) [
      | inl ready ↦ inl (n, (ready, none))
      | inr not ↦ inr (λ step below h. elim (cases_eq step n) [ inl same ↦ not (subst (IsReady rows listed) same h) | inr differs ↦ none step (omega arith) h ])
    ]
  ]

  -- the least that is ready, or no step is
  next_or_end : ((step : ℕ) × IsLeastReady rows listed step) ⊎ ((step : ℕ) → IsReady rows listed step → ⊥)
  next_or_end = elim (least_or_none (suc (length rows))) [
    | inl found ↦ inl found
    | inr none ↦ inr (λ step h. let high = h.stands.1 in none step (omega arith) h)
  ]

  -- where none is ready, each step that isn't listed waits for a parent
  stuck : ((step : ℕ) → IsReady rows listed step → ⊥) → AreStuck rows listed
  stuck none step stands fresh = elim (ready_or_waits step stands fresh) [ inl ready ↦ absurd (none step ready) | inr waits ↦ waits ]

-- ---- turns

-- the listed numbers are steps, each once
record AreSteps (rows : List (List ℕ)) (listed : List ℕ) : Type 0 where
  pub stand : (i : ℕ) → i < length listed → IsStep rows (get_or listed i 0)
  pub once : (i j : ℕ) → i < length listed → j < length listed → get_or listed i 0 ≡ get_or listed j 0 → i ≡ j

-- a list of steps, each once, is no longer than the graph
few : (rows : List (List ℕ)) (listed : List ℕ) → AreSteps rows listed → length listed ≤ length rows
few rows listed are =
    pigeonhole (length listed) (length rows) (λ i. get_or listed i 0 - 1)
    (λ i below. let s = are.stand i below in omega (arith, s.0, s.1))
    (λ i j below below' same.
    let s = are.stand i below in
    let t = are.stand j below' in
    let equal : get_or listed i 0 ≡ get_or listed j 0 = omega (arith, s.0, t.0) in are.once i j below below' equal)

-- a member by its place
member_at : (xs : List ℕ) (i q : ℕ) → i < length xs → get_or xs i 0 ≡ q → Contains xs q
member_at [] i q below is = absurd (omega arith)
member_at (x ∷ xs) zero q below is = (zero, omega arith, is)
member_at (x ∷ xs) (suc i) q below is = let later = member_at xs i q (omega arith) is in contains_later x q xs later

module _ (rows : List (List ℕ)) (listed : List ℕ) (step : ℕ) (are : AreSteps rows listed) (ready : IsReady rows listed step) where
  old : (i : ℕ) → i < length listed → get_or (listed ++ step ∷ []) i 0 ≡ get_or listed i 0
  old i below = get_or-append listed (step ∷ []) 0 i below

  new : (i : ℕ) → i ≡ length listed → get_or (listed ++ step ∷ []) i 0 ≡ step
  new i is = ap (λ k. get_or (listed ++ step ∷ []) k 0) is ∙ get_or-append_seam listed step [] 0

  long : length (listed ++ step ∷ []) ≡ length listed + 1
  long = length-append listed (step ∷ [])

  split : (i : ℕ) → i < length (listed ++ step ∷ []) → (i < length listed) ⊎ (i ≡ length listed)
  split i below = let l = long in elim (dec_lt i (length listed)) [ yes less ↦ inl less | no past ↦ inr (omega arith) ]

  -- the new one is none of the old
  apart : (i : ℕ) → i < length listed → get_or listed i 0 ≡ step → ⊥
  apart i below same = ready.fresh (member_at listed i step below same)

  one_more : AreSteps rows (listed ++ step ∷ [])
  one_more = record {
    stand = λ i below. elim (split i below) [
      | inl less ↦ subst (IsStep rows) (sym (old i less)) (are.stand i less)
      | inr is ↦ subst (IsStep rows) (sym (new i is)) ready.stands
    ];
    once = λ i j below below' same. elim (split i below) [
      | inl less ↦ elim (split j below') [
        | inl less' ↦ are.once i j less less' (sym (old i less) ∙ same ∙ old j less')
        | inr is' ↦ absurd (apart i less (sym (old i less) ∙ same ∙ new j is'))
      ]
      | inr is ↦ elim (split j below') [
        | inl less' ↦ absurd (apart j less' (sym (old j less') ∙ sym same ∙ new i is))
        | inr is' ↦ is ∙ sym is'
      ]
    ];
  }

-- Turns go on until none is ready, and then every step is listed.
turns : (rows : List (List ℕ)) (fuel : ℕ) (listed : List ℕ) → AreSteps rows listed → length rows < length listed + fuel
    → (rest : List ℕ) × ComeAfter rows listed rest × AreStuck rows (listed ++ rest)
turns rows zero listed are enough = let bound = few rows listed are in absurd (omega arith)
turns rows (suc fuel) listed are enough = elim (next_or_end rows listed) [
  | inr none ↦ ([], tt, subst (AreStuck rows) (sym (append-nil listed)) (stuck rows listed none))
  | inl found ↦
      let step = found.0 in
      let longer : length (listed ++ step ∷ []) ≡ length listed + 1 = length-append listed (step ∷ []) in
      let more = turns rows fuel (listed ++ step ∷ []) (one_more rows listed step are found.1.0) (omega arith) in
      (step ∷ more.0, (found.1, more.1), subst (AreStuck rows) (append_assoc listed (step ∷ []) more.0) more.2)
]

pub order_exists : (rows : List (List ℕ)) → HasNoCycle rows → HasStepsForParents rows → HasOrder rows
order_exists rows acyclic parents =
    let none : AreSteps rows [] = record { stand = λ i below. absurd (omega arith); once = λ i j below below' same. absurd (omega arith) } in
    let all = turns rows (suc (length rows)) [] none (omega arith) in
    has_order rows all.0 acyclic parents all.2 all.1
