-- Where picks fit, signs and symbols allow them.
use Rattle.std.proofs.Common.{◌≡◌, ℕ, zero, suc, List, [], ◌∷◌, get_or, Bool, Option, Some, None, subst, arith, refl, sym, ◌∙◌, ◌⊎◌, inl, inr, true, false}
use Rattle.std.specs.List.{All}
use Rattle.dk_syntax.specs.declared.Literal.{Literal}
use Rattle.dk_syntax.specs.declared.Term.{Term}
use Rattle.step_clause.specs.declared.slots.Pivots.{Pivots}
use Rattle.step_clause.specs.declared.slots.Slot.{Slot}
use Rattle.step_clause.specs.Search.{SamePivot, first_pivot, after_sign, after_pivot, Fits, FitsAsPivot, NoneExtends}
use Rattle.step_clause.specs.Symbols.{AnyOf, HasPivotSymbol, MayBePivot, MayBePicked, MayBePivotOf, PivotsMayCome, AllowsPivot, HasRoom, SameSymbol}
use Rattle.step_clause.proofs.Apart.{after_first, wants}

-- ---- pivots

pivot_symbol : (r : ℕ → Term) (first : Option Literal) (c : Literal) → SamePivot r first c → HasPivotSymbol first c
pivot_symbol r None c h = tt
pivot_symbol r (Some e) c h = h.0

symbol_before : (first : Option Literal) (c d : Literal) → HasPivotSymbol (first_pivot first c) d → HasPivotSymbol first d
symbol_before None c d h = tt
symbol_before (Some e) c d h = h

pivot_before : (w : Pivots) (c : Literal) (slot : Slot) → MayBePivot (after_pivot w c).first slot → MayBePivot w.first slot
pivot_before w c slot h =
    (h.0, symbol_before w.first c slot.literal (subst (λ z. HasPivotSymbol z slot.literal) (after_first true c.positive (first_pivot w.first c) w) h.1))

picked_before : (ds : List Literal) (w : Pivots) (c : Literal) (slot : Slot) → MayBePicked ds (after_pivot w c).first slot → MayBePicked ds w.first slot
picked_before ds w c slot (inl h) = inl h
picked_before ds w c slot (inr h) = inr (pivot_before w c slot h)

-- ---- each literal

with_first : (P : Slot → Type 0) (slot : Slot) (slots : List Slot) → P slot → All P slots → All P (slot ∷ slots)
with_first P slot slots here there zero d l = here
with_first P slot slots here there (suc k) d l = there k d (omega arith)

pub fits_allowed : (r : ℕ → Term) (ds : List Literal) (w : Pivots) (slots : List Slot) (qs : List ℕ) → Fits r ds w slots qs → All (MayBePicked ds w.first) slots
fits_allowed r ds w [] qs h = λ k d l. absurd (omega arith)
fits_allowed r ds w (slot ∷ slots) [] h = absurd h
fits_allowed r ds w (slot ∷ slots) (p ∷ qs) (inl h) =
    with_first (MayBePicked ds w.first) slot slots (inl (p, h.0.0, h.0.1, (h.0.2.0, h.0.2.1.0))) (fits_allowed r ds w slots qs h.1)
fits_allowed r ds w (slot ∷ slots) (p ∷ qs) (inr h) =
    let later = fits_allowed r ds (after_pivot w slot.literal) slots qs h.3 in
    with_first (MayBePicked ds w.first) slot slots (inr (h.1, pivot_symbol r w.first slot.literal h.2))
    (λ k d l. picked_before ds w slot.literal (get_or slots k d) (later k d l))

pub none_allowed_after : (frozen : ℕ) (ds : List Literal) (w next : Pivots) (slot : Slot) (rest : List Slot) (s : List (Option Term)) → next ≡ after_pivot w slot.literal → (All (MayBePicked ds next.first) rest → ⊥) → NoneExtends frozen (FitsAsPivot ds w slot rest) s
none_allowed_after frozen ds w next slot rest s e refused qs r f h q =
    refused (fits_allowed r ds next rest qs (subst (λ z. Fits r ds z rest qs) (sym e) q.2))

-- ---- wanted pivots

later : (P : Slot → Type 0) (slot : Slot) (slots : List Slot) → AnyOf P slots → AnyOf P (slot ∷ slots)
later P slot slots h = (suc h.0, h.1, h.2, h.3)

any_before : (sign : Bool) (w : Pivots) (c : Literal) (slots : List Slot) → AnyOf (MayBePivotOf sign (after_pivot w c).first) slots → AnyOf (MayBePivotOf sign w.first) slots
any_before sign w c slots h = (h.0, h.1, h.2, (pivot_before w c h.1 h.3.0, h.3.1))

nothing_wanted : (sign : Bool) (w : Pivots) → (w.wants_positive ≡ false) × (w.wants_negative ≡ false) → wants sign w ≡ true → ⊥
nothing_wanted true w h e = let a = h.0 in absurd (cc)
nothing_wanted false w h e = let a = h.1 in absurd (cc)

still_wanted : (sign b : Bool) (first : Option Literal) (w : Pivots) → wants sign w ≡ true → (b ≡ sign) ⊎ (wants sign (after_sign b first w) ≡ true)
still_wanted true true first w e = inl refl
still_wanted true false first w e = inr e
still_wanted false true first w e = inr e
still_wanted false false first w e = inl refl

wanted_comes : (sign : Bool) (r : ℕ → Term) (ds : List Literal) (w : Pivots) (slots : List Slot) (qs : List ℕ) → Fits r ds w slots qs → wants sign w ≡ true → AnyOf (MayBePivotOf sign w.first) slots
wanted_comes sign r ds w [] [] h e = absurd (nothing_wanted sign w h e)
wanted_comes sign r ds w [] (p ∷ qs) h e = absurd h
wanted_comes sign r ds w (slot ∷ slots) [] h e = absurd h
wanted_comes sign r ds w (slot ∷ slots) (p ∷ qs) (inl h) e =
    later (MayBePivotOf sign w.first) slot slots (wanted_comes sign r ds w slots qs h.1 e)
wanted_comes sign r ds w (slot ∷ slots) (p ∷ qs) (inr h) e =
    elim (still_wanted sign slot.literal.positive (first_pivot w.first slot.literal) w e) [
      | inl same ↦ (0, slot, refl, ((h.1, pivot_symbol r w.first slot.literal h.2), same))
      | inr other ↦
          later (MayBePivotOf sign w.first) slot slots
          (any_before sign w slot.literal slots (wanted_comes sign r ds (after_pivot w slot.literal) slots qs h.3 other))
    ]

pub none_comes : (frozen : ℕ) (ds : List Literal) (w : Pivots) (slots : List Slot) (s : List (Option Term)) → (PivotsMayCome w slots → ⊥) → NoneExtends frozen (λ r qs. Fits r ds w slots qs) s
none_comes frozen ds w slots s refused qs r f h q =
    refused (wanted_comes true r ds w slots qs q, wanted_comes false r ds w slots qs q)

-- ---- the symbol of all pivots

pivot_is : (r : ℕ → Term) (first : Option Literal) (c : Literal) → SamePivot r first c → (e : Literal) × (first_pivot first c ≡ Some e) × (c.pred ≡ e.pred)
pivot_is r None c h = (c, refl, refl)
pivot_is r (Some e) c h = (e, refl, h.0)

pivot_comes : (sign : Bool) (r : ℕ → Term) (ds : List Literal) (w : Pivots) (slot : Slot) (slots : List Slot) (qs : List ℕ) (first : Option Literal) → first_pivot w.first slot.literal ≡ first → MayBePivot first slot → Fits r ds (after_pivot w slot.literal) slots qs → wants sign w ≡ true → AnyOf (MayBePivotOf sign first) (slot ∷ slots)
pivot_comes sign r ds w slot slots qs first is here h x =
    elim (still_wanted sign slot.literal.positive (first_pivot w.first slot.literal) w x) [
      | inl same ↦ (0, slot, refl, (here, same))
      | inr other ↦
          later (MayBePivotOf sign first) slot slots
          (subst (λ z. AnyOf (MayBePivotOf sign z) slots) (after_first true slot.literal.positive (first_pivot w.first slot.literal) w ∙ is)
          (wanted_comes sign r ds (after_pivot w slot.literal) slots qs h other))
    ]

-- each literal has one of its sign and symbol in the target
abbrev pub AreMated : List Literal → List Slot → Type 0
AreMated ds slots = All (λ slot. AnyOf (SameSymbol slot.literal) ds) slots

one_symbol : (r : ℕ → Term) (ds : List Literal) (w : Pivots) (slots : List Slot) (qs : List ℕ) → Fits r ds w slots qs → AreMated ds slots ⊎ ((e : Literal) × AllowsPivot ds w slots e)
one_symbol r ds w [] qs h = inl (λ k d l. absurd (omega arith))
one_symbol r ds w (slot ∷ slots) [] h = absurd h
one_symbol r ds w (slot ∷ slots) (p ∷ qs) (inl h) =
    let mate : AnyOf (SameSymbol slot.literal) ds = (p, h.0.0, h.0.1, (h.0.2.0, h.0.2.1.0)) in
    elim (one_symbol r ds w slots qs h.1) [
      | inl all ↦ inl (with_first (λ z. AnyOf (SameSymbol z.literal) ds) slot slots mate all)
      | inr it ↦ inr (
        it.0,
        (
          with_first (MayBePicked ds (Some it.0)) slot slots (inl mate) it.1.0,
          (
            λ x. later (MayBePivotOf true (Some it.0)) slot slots (it.1.1.0 x),
            λ x. later (MayBePivotOf false (Some it.0)) slot slots (it.1.1.1 x),
          ),
        ),
      )
    ]
one_symbol r ds w (slot ∷ slots) (p ∷ qs) (inr h) =
    let it = pivot_is r w.first slot.literal h.2 in
    let e = it.0 in
    let rest = subst (λ z. All (MayBePicked ds z) slots) (after_first true slot.literal.positive (first_pivot w.first slot.literal) w ∙ it.1)
    (fits_allowed r ds (after_pivot w slot.literal) slots qs h.3) in
    inr (
      e,
      (
        with_first (MayBePicked ds (Some e)) slot slots (inr (h.1, it.2)) rest,
        (
          pivot_comes true r ds w slot slots qs (Some e) it.1 (h.1, it.2) h.3,
          pivot_comes false r ds w slot slots qs (Some e) it.1 (h.1, it.2) h.3,
        ),
      ),
    )

picked_as : (ds : List Literal) (e c : Literal) (slot : Slot) → c.pred ≡ e.pred → MayBePicked ds (Some e) slot → MayBePicked ds (Some c) slot
picked_as ds e c slot same (inl h) = inl h
picked_as ds e c slot same (inr h) = inr (h.0, h.1 ∙ sym same)

any_as : (sign : Bool) (slots : List Slot) (e c : Literal) → c.pred ≡ e.pred → AnyOf (MayBePivotOf sign (Some e)) slots → AnyOf (MayBePivotOf sign (Some c)) slots
any_as sign slots e c same h = (h.0, h.1, h.2, ((h.3.0.0, h.3.0.1 ∙ sym same), h.3.1))

allows_as : (ds : List Literal) (w : Pivots) (slots : List Slot) (e c : Literal) → c.pred ≡ e.pred → AllowsPivot ds w slots e → AllowsPivot ds w slots c
allows_as ds w slots e c same h = (
  λ k d l. picked_as ds e c (get_or slots k d) same (h.0 k d l),
  (λ x. any_as true slots e c same (h.1.0 x), λ x. any_as false slots e c same (h.1.1 x)),
)

room_as : (ds : List Literal) (w : Pivots) (slots : List Slot) (e : Literal) (slot : Slot) → AllowsPivot ds w slots e → MayBePicked ds (Some e) slot → HasRoom ds w slots slot
room_as ds w slots e slot a (inl h) = inl h
room_as ds w slots e slot a (inr h) = inr (allows_as ds w slots e slot.literal h.1 a)

pub room_by_pivot : (ds : List Literal) (w : Pivots) (slots : List Slot) (e : Literal) → AllowsPivot ds w slots e → All (HasRoom ds w slots) slots
room_by_pivot ds w slots e a k d l = room_as ds w slots e (get_or slots k d) a (a.0 k d l)

pub pivot_by_room : (ds : List Literal) (w : Pivots) (slots : List Slot) (slot : Slot) → (AnyOf (SameSymbol slot.literal) ds → ⊥) → HasRoom ds w slots slot → AllowsPivot ds w slots slot.literal
pivot_by_room ds w slots slot lone (inl h) = absurd (lone h)
pivot_by_room ds w slots slot lone (inr h) = h

fits_room : (r : ℕ → Term) (ds : List Literal) (w : Pivots) (slots : List Slot) (qs : List ℕ) → Fits r ds w slots qs → All (HasRoom ds w slots) slots
fits_room r ds w slots qs h = elim (one_symbol r ds w slots qs h) [
  | inl all ↦ λ k d l. inl (all k d l)
  | inr it ↦ room_by_pivot ds w slots it.0 it.1
]

pub none_has_room : (frozen : ℕ) (ds : List Literal) (w : Pivots) (slots : List Slot) (s : List (Option Term)) → (All (HasRoom ds w slots) slots → ⊥) → NoneExtends frozen (λ r qs. Fits r ds w slots qs) s
none_has_room frozen ds w slots s refused qs r f h q = refused (fits_room r ds w slots qs q)
