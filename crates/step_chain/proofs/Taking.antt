-- What is taken, one literal after another.
use Rattle.std.proofs.Common.{◌≡◌, ℕ, zero, suc, Bool, true, false, List, [], ◌∷◌, ◌++◌, map, length, Option, Some, None, slice_get, refl, sym, ap, subst, arith, ◌⊎◌, inl, inr}
use Rattle.dk_syntax.specs.Terms.{substituted}
use Rattle.dk_syntax.specs.declared.Literal.{Literal}
use Rattle.dk_syntax.specs.declared.SymKey.{SymKey}
use Rattle.dk_syntax.specs.declared.Term.{Term}
use Rattle.step_clause.specs.Search.{PivotsBelow, SamePivot}
use Rattle.step_chain.proofs.Items.{same_some}
use Rattle.step_chain.specs.declared.pair.Slot.{Slot}
use Rattle.step_chain.specs.Pairs.{AreAt, AreAtOne, AreChosen, first_taken, SlotsBelow}

pub option_cases : {A : Type 0} (x : Option A) → (x ≡ None) ⊎ ((a : A) × (x ≡ Some a))
option_cases None = inl refl
option_cases (Some a) = inr (a, refl)

-- ---- the first literal that is taken

pub first_false : (slots : List Slot) (bits : List Bool) → first_taken slots (bits ++ false ∷ []) ≡ first_taken slots bits
first_false [] bits = refl
first_false (s ∷ []) [] = refl
first_false (s ∷ t ∷ slots) [] = refl
first_false (s ∷ slots) (true ∷ bits) = refl
first_false (s ∷ slots) (false ∷ bits) = first_false slots bits

pub first_true : (slots : List Slot) (bits : List Bool) (slot : Slot) → first_taken slots bits ≡ None → slice_get slots (length bits) ≡ Some slot → first_taken slots (bits ++ true ∷ []) ≡ Some slot.literal
first_true [] bits slot h at = cc
first_true (s ∷ slots) [] slot h at = ap Some (ap (λ z. z.literal) (same_some (Some s) s slot refl at))
first_true (s ∷ slots) (true ∷ bits) slot h at = cc
first_true (s ∷ slots) (false ∷ bits) slot h at = first_true slots bits slot h at

pub first_stays : (slots : List Slot) (bits more : List Bool) (e : Literal) → first_taken slots bits ≡ Some e → first_taken slots (bits ++ more) ≡ Some e
first_stays [] bits more e h = cc
first_stays (s ∷ slots) [] more e h = cc
first_stays (s ∷ slots) (true ∷ bits) more e h = h
first_stays (s ∷ slots) (false ∷ bits) more e h = first_stays slots bits more e h

pub first_below : (n : ℕ) (slots : List Slot) (bits : List Bool) → SlotsBelow n slots → PivotsBelow n (first_taken slots bits)
first_below n [] bits h = tt
first_below n (s ∷ slots) [] h = tt
first_below n (s ∷ slots) (true ∷ bits) h = h zero s (omega arith)
first_below n (s ∷ slots) (false ∷ bits) h = first_below n slots bits (λ k d less. h (suc k) d (omega arith))

-- ---- atoms

module _ (r : ℕ → Term) (pred : SymKey) (args : List Term) where
  abbrev pub HasAtom : Slot → Type 0
  HasAtom slot = (slot.may_be_taken ≡ true) × (slot.literal.pred ≡ pred) × (map (substituted r) slot.literal.args ≡ args)

  pub at_nothing : (slots : List Slot) → AreAt r pred args slots []
  at_nothing [] = tt
  at_nothing (s ∷ slots) = tt

  pub at_prefix : (slots : List Slot) (bits more : List Bool) → AreAt r pred args slots (bits ++ more) → AreAt r pred args slots bits
  at_prefix [] bits more h = tt
  at_prefix (s ∷ slots) [] more h = tt
  at_prefix (s ∷ slots) (true ∷ bits) more h = (h.0, at_prefix slots bits more h.1)
  at_prefix (s ∷ slots) (false ∷ bits) more h = at_prefix slots bits more h

  pub at_false : (slots : List Slot) (bits : List Bool) → AreAt r pred args slots bits → AreAt r pred args slots (bits ++ false ∷ [])
  at_false [] bits h = tt
  at_false (s ∷ slots) [] h = at_nothing slots
  at_false (s ∷ slots) (true ∷ bits) h = (h.0, at_false slots bits h.1)
  at_false (s ∷ slots) (false ∷ bits) h = at_false slots bits h

  pub at_true : (slots : List Slot) (bits : List Bool) (slot : Slot) → slice_get slots (length bits) ≡ Some slot → AreAt r pred args slots bits → HasAtom slot → AreAt r pred args slots (bits ++ true ∷ [])
  at_true [] bits slot at h it = tt
  at_true (s ∷ slots) [] slot at h it = (subst HasAtom (sym (same_some (Some s) s slot refl at)) it, at_nothing slots)
  at_true (s ∷ slots) (true ∷ bits) slot at h it = (h.0, at_true slots bits slot at h.1 it)
  at_true (s ∷ slots) (false ∷ bits) slot at h it = at_true slots bits slot at h it

  pub at_slot : (slots : List Slot) (bits : List Bool) (slot : Slot) → slice_get slots (length bits) ≡ Some slot → AreAt r pred args slots (bits ++ true ∷ []) → HasAtom slot
  at_slot [] bits slot at h = absurd (let w : None ≡ Some slot = at in cc)
  at_slot (s ∷ slots) [] slot at h = subst HasAtom (same_some (Some s) s slot refl at) h.0
  at_slot (s ∷ slots) (true ∷ bits) slot at h = at_slot slots bits slot at h.1
  at_slot (s ∷ slots) (false ∷ bits) slot at h = at_slot slots bits slot at h

  pub none_at : (slots : List Slot) (bits : List Bool) → first_taken slots bits ≡ None → AreAt r pred args slots bits
  none_at [] bits h = tt
  none_at (s ∷ slots) [] h = tt
  none_at (s ∷ slots) (true ∷ bits) h = absurd (let w : Some s.literal ≡ None = h in cc)
  none_at (s ∷ slots) (false ∷ bits) h = none_at slots bits h

  pub first_at : (slots : List Slot) (bits : List Bool) (e : Literal) → first_taken slots bits ≡ Some e → AreAt r pred args slots bits → (e.pred ≡ pred) × (map (substituted r) e.args ≡ args)
  first_at [] bits e h w = absurd (let v : None ≡ Some e = h in cc)
  first_at (s ∷ slots) [] e h w = absurd (let v : None ≡ Some e = h in cc)
  first_at (s ∷ slots) (true ∷ bits) e h w =
      subst (λ z. (z.pred ≡ pred) × (map (substituted r) z.args ≡ args)) (same_some (Some s.literal) s.literal e refl h) (w.0.1, w.0.2)
  first_at (s ∷ slots) (false ∷ bits) e h w = first_at slots bits e h w

-- ---- all that are taken have one atom

module _ (r : ℕ → Term) (slots : List Slot) where
  -- an atom for all is that of the first
  pub chosen_at : (pred : SymKey) (args : List Term) (bits : List Bool) → AreAt r pred args slots bits → AreChosen slots bits r
  chosen_at pred args bits h = by_first (first_taken slots bits) refl
    where
      by_first : (e : Option Literal) → first_taken slots bits ≡ e → AreAtOne r e slots bits
      by_first None is = tt
      by_first (Some e) is =
          let w = first_at r pred args slots bits e is h in
          subst (λ z. AreAt r z (map (substituted r) e.args) slots bits) (sym w.0) (subst (λ z. AreAt r pred z slots bits) (sym w.1) h)

  pub chosen_some : (bits : List Bool) (e : Literal) → first_taken slots bits ≡ Some e → AreChosen slots bits r → AreAt r e.pred (map (substituted r) e.args) slots bits
  chosen_some bits e is h = subst (λ z. AreAtOne r z slots bits) is h

  pub chosen_prefix : (bits more : List Bool) → AreChosen slots (bits ++ more) r → AreChosen slots bits r
  chosen_prefix bits more h = by_first (first_taken slots bits) refl
    where
      by_first : (e : Option Literal) → first_taken slots bits ≡ e → AreAtOne r e slots bits
      by_first None is = tt
      by_first (Some e) is =
          at_prefix r e.pred (map (substituted r) e.args) slots bits more (subst (λ z. AreAtOne r z slots (bits ++ more)) (first_stays slots bits more e is) h)

  pub chosen_false : (bits : List Bool) → AreChosen slots bits r → AreChosen slots (bits ++ false ∷ []) r
  chosen_false bits h = subst (λ z. AreAtOne r z slots (bits ++ false ∷ [])) (sym (first_false slots bits)) (by_first (first_taken slots bits) h)
    where
      by_first : (e : Option Literal) → AreAtOne r e slots bits → AreAtOne r e slots (bits ++ false ∷ [])
      by_first None h = tt
      by_first (Some e) h = at_false r e.pred (map (substituted r) e.args) slots bits h

  pub chosen_true : (bits : List Bool) (slot : Slot) → slice_get slots (length bits) ≡ Some slot → AreChosen slots bits r → slot.may_be_taken ≡ true → SamePivot r (first_taken slots bits) slot.literal
      → AreChosen slots (bits ++ true ∷ []) r
  chosen_true bits slot at h may same = elim (option_cases (first_taken slots bits)) [
    | inl is ↦
        subst (λ z. AreAtOne r z slots (bits ++ true ∷ [])) (sym (first_true slots bits slot is at))
        (at_true r slot.literal.pred (map (substituted r) slot.literal.args) slots bits slot at (none_at r slot.literal.pred (map (substituted r) slot.literal.args) slots bits is) (may, refl, refl))
    | inr w ↦
        let e = w.0 in
        let s = subst (λ z. SamePivot r z slot.literal) w.1 same in
        subst (λ z. AreAtOne r z slots (bits ++ true ∷ [])) (sym (first_stays slots bits (true ∷ []) e w.1))
        (at_true r e.pred (map (substituted r) e.args) slots bits slot at (chosen_some bits e w.1 h) (may, s.0, s.1))
  ]

  pub chosen_slot : (bits : List Bool) (slot : Slot) → slice_get slots (length bits) ≡ Some slot → AreChosen slots (bits ++ true ∷ []) r → (slot.may_be_taken ≡ true) × SamePivot r (first_taken slots bits) slot.literal
  chosen_slot bits slot at h = elim (option_cases (first_taken slots bits)) [
    | inl is ↦
        let w = at_slot r slot.literal.pred (map (substituted r) slot.literal.args) slots bits slot at (subst (λ z. AreAtOne r z slots (bits ++ true ∷ [])) (first_true slots bits slot is at) h) in
        (w.0, subst (λ z. SamePivot r z slot.literal) (sym is) tt)
    | inr v ↦
        let e = v.0 in
        let w = at_slot r e.pred (map (substituted r) e.args) slots bits slot at (subst (λ z. AreAtOne r z slots (bits ++ true ∷ [])) (first_stays slots bits (true ∷ []) e v.1) h) in
        (w.0, subst (λ z. SamePivot r z slot.literal) (sym v.1) (w.1, w.2))
  ]
