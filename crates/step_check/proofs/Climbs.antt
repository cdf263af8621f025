-- Paths of steps along parents on which they hang.
use Rattle.std.proofs.Common.{◌≡◌, ◌≢◌, ◌+◌, ◌-◌, ◌<◌, ◌≤◌, ℕ, zero, suc, List, [], ◌∷◌, ◌++◌, length, reverse, get_or, Option, Some, None, Contains, ◌⊎◌, inl, inr, refl, sym, ap, ◌∙◌, subst, arith}
use Rattle.std.proofs.lemmas.Bool.{cases_eq}
use Rattle.std.proofs.lemmas.List.{reverse-append}
use Rattle.indexmap.proofs.IndexTableLemmas.Probe.{pigeonhole}
use native.Mathlib.Decide.{dec_lt}
use Rattle.derivation_graph.proofs.OrderLaws.{walk_on}
use Rattle.derivation_graph.specs.Graphs.{HasNoCycle, HasParent, HasStepsForParents, IsStep, parents_in, turn, Walks}
use Rattle.step_check.proofs.OneRepresentative.{same_some}
use Rattle.step_check.specs.Notes.{AreForms, AreOwnsKnown, EndsIn, Grow, HangOn, Hangs, HangsOn, IsFitted, IsImageOf, IsLink, IsOpened, IsPath, IsReady, IsSound, parent_by, Spread}
use Rattle.step_check.specs.Representatives.{HasOneParent}
use Rattle.step_check.specs.Steps.{Case, parents_of}
use Rattle.step_check.specs.Tables.{AreRight, at, IsKnown, Keeps}
use Rattle.step_check.specs.declared.notes.Forms.{Forms}
use Rattle.step_check.specs.declared.notes.Link.{Link}
use Rattle.step_check.specs.declared.notes.Link.TheVariants as link
use Rattle.step_check.specs.declared.notes.Representative.{Representative}

-- ---- what grows

pub keeps_all : {A : Type 0} (slots : List (Option A)) → Keeps slots slots
keeps_all slots i item h = h

pub keeps_on : {A : Type 0} (one two three : List (Option A)) → Keeps one two → Keeps two three → Keeps one three
keeps_on one two three h k i item x = k i item (h i item x)

pub grow_on : (one two three : Forms) → Grow one two → Grow two three → Grow one three
grow_on one two three h k = record {
  owns = keeps_on one.owns two.owns three.owns h.owns k.owns;
  links = keeps_on one.links two.links three.links h.links k.links;
}

pub known_on : {A : Type 0} (old new : List (Option A)) (i : ℕ) → Keeps old new → IsKnown old i → IsKnown new i
known_on old new i h k = (k.0, h i k.0 k.1)

module _ (case : Case) where
  pub owns_on : (old new : Forms) (i : ℕ) → Grow old new → AreOwnsKnown case old.owns i → AreOwnsKnown case new.owns i
  owns_on old new i g h = record {
    here = known_on old.owns new.owns i g.owns h.here;
    parents = λ q is. known_on old.owns new.owns q g.owns (h.parents q is);
  }

  pub opened_on : (old new : Forms) (i : ℕ) → Grow old new → IsOpened case old i → IsOpened case new i
  opened_on old new i g h = record { owns = owns_on old new i g h.owns; link = known_on old.links new.links i g.links h.link }

  hangs_on : (old new : Forms) (q i : ℕ) → Grow old new → HangsOn case old q i → HangsOn case new q i
  hangs_on old new q i g h = record {
    stands = h.stands;
    opened = opened_on old new i g h.opened;
    hangs = (h.hangs.0, g.links i h.hangs.0 h.hangs.1, h.hangs.2);
  }

  pub hang_on : (old new : Forms) (q : ℕ) (rest : List ℕ) → Grow old new → HangOn case old q rest → HangOn case new q rest
  hang_on old new q [] g h = h
  hang_on old new q (i ∷ rest) g h = (hangs_on old new q i g h.0, hang_on old new i rest g h.1)

  -- ---- one parent

  pub hangs_once : (forms : Forms) (i p q : ℕ) → Hangs forms i p → Hangs forms i q → p ≡ q
  hangs_once forms i p q h k =
      let e : h.0 ≡ k.0 = same_some (at forms.links i) h.0 k.0 h.1 k.1 in
      same_some (parent_by k.0) p q (subst (λ (x : Link). parent_by x ≡ Some p) e h.2) k.2

  link_parent : (i q : ℕ) (one : Link) → IsLink case i one → parent_by one ≡ Some q → HasOneParent case i q
  link_parent i q link.Apart h e = cc
  link_parent i q (link.Same p) h e = subst (λ x. HasOneParent case i x) (same_some (Some p) p q refl e) h.fitted.one
  link_parent i q (link.Skolem p map) h e = subst (λ x. HasOneParent case i x) (same_some (Some p) p q refl e) h.fitted.one

  pub hangs_one : (forms : Forms) (i q : ℕ) → AreForms case forms → Hangs forms i q → HasOneParent case i q
  hangs_one forms i q right h = link_parent i q h.0 (right.links i h.0 h.1) h.2

  only_one : (l : List ℕ) (q : ℕ) → l ≡ q ∷ [] → Contains l q
  only_one l q h = subst (λ (x : List ℕ). Contains x q) (sym h) (zero, omega arith, refl)

  pub hangs_parent : (forms : Forms) (i q : ℕ) → AreForms case forms → Hangs forms i q → HasParent case.rows i q
  hangs_parent forms i q right h = only_one (parents_of case i) q (hangs_one forms i q right h)

  pub parent_stands : (forms : Forms) (i q : ℕ) → IsSound case → AreForms case forms → Hangs forms i q → IsStep case.rows q
  parent_stands forms i q sound right h = sound.parents i q (hangs_parent forms i q right h)

  -- ---- no path is longer than the trace

  module _ (forms : Forms) (sound : IsSound case) (right : AreForms case forms) where
    walk_down : (q : ℕ) (rest : List ℕ) → HangOn case forms q rest → (j : ℕ) → j < length rest → Walks case.rows (get_or rest j 0) q
    walk_down q [] h j below = absurd (omega arith)
    walk_down q (i ∷ rest) h zero below = turn i q (hangs_parent forms i q right h.0.hangs)
    walk_down q (i ∷ rest) h (suc j) below = walk_on case.rows (get_or rest j 0) i q (walk_down i rest h.1 j (omega arith)) (hangs_parent forms i q right h.0.hangs)

    walks : (q : ℕ) (rest : List ℕ) → HangOn case forms q rest → (i j : ℕ) → i < j → j < length (q ∷ rest) → Walks case.rows (get_or (q ∷ rest) j 0) (get_or (q ∷ rest) i 0)
    walks q rest h i zero less below = absurd (omega arith)
    walks q rest h zero (suc j) less below = walk_down q rest h j (omega arith)
    walks q [] h (suc i) (suc j) less below = absurd (omega arith)
    walks q (k ∷ rest) h (suc i) (suc j) less below = walks k rest h.1 i j (omega arith) (omega arith)

    all_stand : (q : ℕ) (rest : List ℕ) → IsStep case.rows q → HangOn case forms q rest → (j : ℕ) → j < length (q ∷ rest) → IsStep case.rows (get_or (q ∷ rest) j 0)
    all_stand q rest stands h zero below = stands
    all_stand q [] stands h (suc j) below = absurd (omega arith)
    all_stand q (k ∷ rest) stands h (suc j) below = all_stand k rest h.0.stands h.1 j (omega arith)

    never_same : (q : ℕ) (rest : List ℕ) → HangOn case forms q rest → (i j : ℕ) → i < j → j < length (q ∷ rest) → get_or (q ∷ rest) j 0 ≡ get_or (q ∷ rest) i 0 → ⊥
    never_same q rest h i j less below same =
        sound.acyclic (get_or (q ∷ rest) i 0) (subst (λ x. Walks case.rows x (get_or (q ∷ rest) i 0)) same (walks q rest h i j less below))

    pub path_short : (q : ℕ) (rest : List ℕ) → IsStep case.rows q → HangOn case forms q rest → length (q ∷ rest) ≤ length case.rows
    path_short q rest stands h =
        let step : (i : ℕ) → i < length (q ∷ rest) → IsStep case.rows (get_or (q ∷ rest) i 0) = all_stand q rest stands h in
        pigeonhole (length (q ∷ rest)) (length case.rows) (λ i. get_or (q ∷ rest) i 0 - 1)
        (λ i below. let s = step i below in omega (arith, s.0, s.1))
        (λ i j below below' same.
        let s = step i below in let t = step j below' in
        let equal : get_or (q ∷ rest) i 0 ≡ get_or (q ∷ rest) j 0 = omega (arith, s.0, t.0) in
        elim (dec_lt i j) [
          | yes less ↦ absurd (never_same q rest h i j less below' (sym equal))
          | no not_less ↦ elim (dec_lt j i) [ yes less ↦ absurd (never_same q rest h j i less below equal) | no not_more ↦ omega arith ]
        ])

-- ---- pushes and pops

pub reversed_push : (path more : List ℕ) (q : ℕ) → more ≡ path ++ q ∷ [] → reverse more ≡ q ∷ reverse path
reversed_push path more q h = ap reverse h ∙ reverse-append path (q ∷ [])

pub ends_push : (path : List ℕ) (i q n : ℕ) (below : List ℕ) → reverse path ≡ i ∷ below → EndsIn (reverse path) n → EndsIn (q ∷ reverse path) n
ends_push path i q n below e h = subst (λ l. EndsIn (q ∷ l) n) (sym e) (subst (λ l. EndsIn l n) e h)

ends_first : (i n : ℕ) (rest : List ℕ) → EndsIn (i ∷ rest) n → (i ≡ n) ⊎ EndsIn rest n
ends_first i n [] h = inl h
ends_first i n (j ∷ rest) h = inr h

-- what is known of the path's end after the first step's representative was noted
pub known_end : (images new : List (Option Representative)) (i n : ℕ) (rest : List ℕ) → Spread images new → IsKnown new i
    → IsKnown images n ⊎ EndsIn (i ∷ rest) n → IsKnown new n ⊎ EndsIn rest n
known_end images new i n rest spread there (inl known) = inl (spread n known)
known_end images new i n rest spread there (inr ends) = elim (ends_first i n rest ends) [
  | inl same ↦ inl (subst (IsKnown new) same there)
  | inr later ↦ inr later
]

pub path_popped : (case : Case) (forms : Forms) (images new : List (Option Representative)) (i : ℕ) (rest : List ℕ) → IsKnown new i
    → IsPath case forms images (i ∷ rest) → IsPath case forms new rest
path_popped case forms images new i [] there h = tt
path_popped case forms images new i (j ∷ rest) there h =
    let hangs = h.1.0 in (
      record {
        stands = hangs.stands;
        opened = hangs.opened;
        parent = λ q k. subst (IsKnown new) (hangs_once case forms j i q hangs.hangs k) there;
      },
      h.1.1,
    )

-- representatives that were known are known after one was put
pub spread_put : (old new : List (Option Representative)) (n : ℕ) → IsKnown new n → ((other : ℕ) → other ≢ n → at new other ≡ at old other) → Spread old new
spread_put old new n there others i known = elim (cases_eq i n) [
  | inl same ↦ subst (IsKnown new) (sym same) there
  | inr other ↦ (known.0, others i other ∙ known.1)
]

-- ---- the last of a path is taken

module _ (case : Case) (forms : Forms) (images : List (Option Representative)) (path left : List ℕ) (number : ℕ) where
  reversed : path ≡ left ++ number ∷ [] → reverse path ≡ number ∷ reverse left
  reversed h = reversed_push left path number h

  pub taken_ready : path ≡ left ++ number ∷ [] → IsPath case forms images (reverse path) → IsReady case forms images number
  taken_ready h k = (subst (IsPath case forms images) (reversed h) k).0

  pub taken_path : (new : List (Option Representative)) → path ≡ left ++ number ∷ [] → IsPath case forms images (reverse path) → IsKnown new number → IsPath case forms new (reverse left)
  taken_path new h k there = path_popped case forms images new number (reverse left) there (subst (IsPath case forms images) (reversed h) k)

  pub taken_end : (new : List (Option Representative)) (n : ℕ) → path ≡ left ++ number ∷ [] → Spread images new → IsKnown new number
      → IsKnown images n ⊎ EndsIn (reverse path) n → IsKnown new n ⊎ EndsIn (reverse left) n
  taken_end new n h spread there known =
      known_end images new number n (reverse left) spread there (subst (λ l. IsKnown images n ⊎ EndsIn l n) (reversed h) known)

pub nothing_left : (images : List (Option Representative)) (path : List ℕ) (n : ℕ) → path ≡ [] → IsKnown images n ⊎ EndsIn (reverse path) n → IsKnown images n
nothing_left images path n h (inl known) = known
nothing_left images path n h (inr ends) = absurd (subst (λ l. EndsIn (reverse l) n) h ends)

pub spread_on : (one two three : List (Option Representative)) → Spread one two → Spread two three → Spread one three
spread_on one two three h k i known = k i (h i known)

-- ---- items of a list, one by one

pub item_contained : (l : List ℕ) (i : ℕ) → i < length l → Contains l (get_or l i 0)
item_contained [] i below = absurd (omega arith)
item_contained (n ∷ l) zero below = (zero, omega arith, refl)
item_contained (n ∷ l) (suc i) below = let later = item_contained l i (omega arith) in (suc later.0, omega (arith, later.1), later.2)

item_is : (l : List ℕ) (i q : ℕ) → i < length l → get_or l i q ≡ q → get_or l i 0 ≡ q
item_is [] i q below h = absurd (omega arith)
item_is (n ∷ l) zero q below h = h
item_is (n ∷ l) (suc i) q below h = item_is l i q (omega arith) h

pub known_next : (P : ℕ → Type 0) (l : List ℕ) (i : ℕ) → i < length l → P (get_or l i 0) → ((j q : ℕ) → j < i → get_or l j q ≡ q → P q)
    → (j q : ℕ) → j < i + 1 → get_or l j q ≡ q → P q
known_next P l i below here before j q less is = elim (cases_eq j i) [
  | inl same ↦ subst P (item_is l i q below (subst (λ k. get_or l k q ≡ q) same is)) here
  | inr other ↦ before j q (omega arith) is
]
