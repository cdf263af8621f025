-- The new symbols of a composed step are those of its map.
use Rattle.std.proofs.Common.{◌≡◌, ◌⊎◌, ◌<◌, ◌≤◌, ℕ, zero, suc, ◌+◌, ◌-◌, nat_eq, Bool, true, false, not, ◌&&◌, ◌||◌, inl, inr, List, [], ◌∷◌, ◌++◌, get_or, length, refl, sym, ap, ap₂, ◌∙◌, subst, arith, eq-eqb}
use Rattle.std.specs.List.{All}
use Rattle.std.proofs.lemmas.Bool.{eqb-true, or_left, or_right}
use Rattle.std.proofs.lemmas.List.{get_or-map}
use native.Mathlib.Decide.{dec_lt}
use Rattle.dk_syntax.specs.Lists.{Every, every_cons, every_nil}
use Rattle.dk_syntax.specs.declared.symbol.SymKey.{SymKey}
use Rattle.normal_form.specs.ClauseLists.{has_number}
use Rattle.normal_form.specs.Forms.{alls, exs, Form, form_of}
use Rattle.normal_form.specs.Forms as form
use Rattle.normal_form.specs.declared.clause_list.ClauseRow.{ClauseRow}
use Rattle.normal_form.specs.declared.form.Nf.{Nf}
use Rattle.plan_symbols.proofs.EveryLaws.{every_back, every_front, every_head, every_tail}
use Rattle.plan_symbols.proofs.ImageSymbols.{EntriesHave}
use Rattle.plan_symbols.proofs.Pigeonhole.{pigeonhole}
use Rattle.step_compose.specs.Composing.{Composes, symbol_by}
use Rattle.step_compose.specs.FullImages.{full_entries, nameless}
use Rattle.step_compose.specs.declared.composed.Composed.{Composed}
use Rattle.step_skolem.specs.Images.{are_distinct}

-- ---- distinct numbers

both_true : (a b : Bool) → (a && b) ≡ true → (a ≡ true) × (b ≡ true)
both_true true b h = (refl, h)
both_true false b h = absurd cc

has_at : (l : List ℕ) (j : ℕ) → j < length l → has_number l (get_or l j 0) ≡ true
has_at [] j below = absurd (omega arith)
has_at (n ∷ l) zero below = or_left (nat_eq n n) (has_number l n) (eq-eqb n n refl)
has_at (n ∷ l) (suc j) below = or_right (nat_eq n (get_or l j 0)) (has_number l (get_or l j 0)) (has_at l j (omega arith))

apart : (n : ℕ) (l : List ℕ) (j : ℕ) → are_distinct (n ∷ l) ≡ true → j < length l → n ≡ get_or l j 0 → ⊥
apart n l j h below e =
    let none = (both_true (not (has_number l n)) (are_distinct l) h).0 in
    let there : has_number l n ≡ true = subst (λ m. has_number l m ≡ true) (sym e) (has_at l j below) in
    let no = sym (ap not there) ∙ none in cc

places_one : (l : List ℕ) → are_distinct l ≡ true → (i j : ℕ) → i < length l → j < length l → get_or l i 0 ≡ get_or l j 0 → i ≡ j
places_one [] h i j below below' e = absurd (omega arith)
places_one (n ∷ l) h zero zero below below' e = refl
places_one (n ∷ l) h zero (suc j) below below' e = absurd (apart n l j h (omega arith) e)
places_one (n ∷ l) h (suc i) zero below below' e = absurd (apart n l i h (omega arith) (sym e))
places_one (n ∷ l) h (suc i) (suc j) below below' e = ap suc (places_one l (both_true (not (has_number l n)) (are_distinct l) h).1 i j (omega arith) (omega arith) e)

place_or_none : (l : List ℕ) (n : ℕ) → ((k : ℕ) × (k < length l) × (get_or l k 0 ≡ n)) ⊎ (has_number l n ≡ false)
place_or_none [] n = inr refl
place_or_none (m ∷ l) n = by_test (nat_eq m n) refl (place_or_none l n)
  where
    by_test : (b : Bool) → nat_eq m n ≡ b → ((k : ℕ) × (k < length l) × (get_or l k 0 ≡ n)) ⊎ (has_number l n ≡ false)
        → ((k : ℕ) × (k < length (m ∷ l)) × (get_or (m ∷ l) k 0 ≡ n)) ⊎ (has_number (m ∷ l) n ≡ false)
    by_test true e more = inl (zero, omega arith, eqb-true m n e)
    by_test false e (inl later) = inl (suc later.0, omega (arith, later.1), later.2)
    by_test false e (inr none) = inr (ap₂ (λ x y. x || y) e none)

-- as many distinct numbers as there are below a bound are all of these
each_number : (places : List ℕ) (n : ℕ) → All (λ place. place < n) places → are_distinct places ≡ true → length places ≡ n → (p : ℕ) → p < n
    → (k : ℕ) × (k < length places) × (get_or places k 0 ≡ p)
each_number places n within once long p below = elim (place_or_none places p) [
  | inl found ↦ found
  | inr none ↦
      let distinct : are_distinct (p ∷ places) ≡ true = ap₂ (λ x y. not x && y) none once in
      let few : length (p ∷ places) ≤ n = pigeonhole (length (p ∷ places)) n (λ i. get_or (p ∷ places) i 0) (low p places within below) (places_one (p ∷ places) distinct) in
      absurd (omega (arith, few, long))
]
  where
    low : (p : ℕ) (places : List ℕ) → All (λ place. place < n) places → p < n → (i : ℕ) → i < length (p ∷ places) → get_or (p ∷ places) i 0 < n
    low p places within below zero h = below
    low p places within below (suc i) h = within i 0 (omega arith)

-- ---- entries and new symbols

module _ (K : SymKey → Type 0) where
  -- the map has an entry for each existential
  entry_has : (symbols : ℕ → SymKey) (around : List ℕ) (u e : ℕ) (n : Form) → EntriesHave K (full_entries symbols around u e n) → (k : ℕ) → k < exs n → K (symbols (k + e))
  entry_has symbols around u e form.yes h k below = absurd (omega arith)
  entry_has symbols around u e form.no h k below = absurd (omega arith)
  entry_has symbols around u e (form.lit l) h k below = absurd (omega arith)
  entry_has symbols around u e (form.and a b) h k below =
      let left = full_entries symbols around u e a in
      let right = full_entries symbols around (alls a + u) (exs a + e) b in
      elim (dec_lt k (exs a)) [
        | yes less ↦ entry_has symbols around u e a (every_front left right h) k less
        | no past ↦
            (let same : (k - exs a) + (exs a + e) ≡ k + e = omega arith in
            subst (λ j. K (symbols j)) same (entry_has symbols around (alls a + u) (exs a + e) b (every_back left right h) (k - exs a) (omega arith)))
      ]
  entry_has symbols around u e (form.or a b) h k below =
      let left = full_entries symbols around u e a in
      let right = full_entries symbols around (alls a + u) (exs a + e) b in
      elim (dec_lt k (exs a)) [
        | yes less ↦ entry_has symbols around u e a (every_front left right h) k less
        | no past ↦
            (let same : (k - exs a) + (exs a + e) ≡ k + e = omega arith in
            subst (λ j. K (symbols j)) same (entry_has symbols around (alls a + u) (exs a + e) b (every_back left right h) (k - exs a) (omega arith)))
      ]
  entry_has symbols around u e (form.all a) h k below = entry_has symbols (around ++ u ∷ []) (suc u) e a h k below
  entry_has symbols around u e (form.ex a) h zero below = let same : e ≡ zero + e = omega arith in subst (λ j. K (symbols j)) same (every_head h)
  entry_has symbols around u e (form.ex a) h (suc k) below =
      let same : k + suc e ≡ suc k + e = omega arith in
      subst (λ j. K (symbols j)) same (entry_has symbols around u (suc e) a (every_tail h) k (omega arith))

  each_has : (l : List SymKey) → ((p : ℕ) → p < length l → K (get_or l p nameless)) → Every K l
  each_has [] h = every_nil
  each_has (s ∷ l) h = every_cons (h zero (omega arith)) (each_has l (λ p below. h (suc p) (omega arith)))

  -- the new symbols have what those of the map have
  pub new_symbols : (n : Nf) (aliens : List SymKey) (targets : List ClauseRow) (places : List ℕ) (composed : Composed) → Composes n aliens targets places composed
      → EntriesHave K composed.map.entries → Every K aliens
  new_symbols n aliens targets places composed c h =
      each_has aliens (λ p below.
      let found = each_number places (length aliens) c.within c.once (c.each ∙ sym c.exactly) p below in
      let many : found.0 < exs (form_of n) = omega (arith, found.1, c.each) in
      let none : found.0 + 0 ≡ found.0 = omega arith in
      let entries = subst (EntriesHave K) c.map_is h in
      let one = subst (λ j. K (symbol_by aliens places j)) none (entry_has (symbol_by aliens places) [] 0 0 (form_of n) entries found.0 many) in
      subst K (get_or-map (λ place. get_or aliens place nameless) places found.0 0 nameless found.1 ∙ ap (λ j. get_or aliens j nameless) found.2) one)
