-- A carried map is a map of an image, and leads to a form with the same sorted form.
use Rattle.std.proofs.Common.{◌≡◌, ◌<◌, ◌≤◌, ℕ, zero, suc, ◌+◌, nat_eq, nat_lt, Bool, true, false, List, [], ◌∷◌, ◌++◌, map, cond, length, refl, sym, ap, ap₂, ◌∙◌, subst, arith, eq-eqb, inl, inr}
use Rattle.std.proofs.lemmas.Bool.{cases_order, eqb-true}
use Rattle.dk_syntax.specs.declared.Term.{Term}
use Rattle.dk_syntax.specs.declared.Term.TheVariants.{Var}
use Rattle.normal_form.specs.ClauseLists.{has_number}
use Rattle.normal_form.specs.declared.form.Nf.{Nf}
use Rattle.normal_form.specs.Forms.{Form, form_of, nf_of, alls, exs}
use Rattle.step_skolem.specs.Images.{Kept, outside, universal, Image, i_yes, i_no, i_lit, i_and, i_or, i_all, i_keep, i_put, IsImage}
use Rattle.step_skolem.specs.Carrying.{across, by_number, carried, placed, renumbered}
use Rattle.step_skolem.specs.Laws.{CarriedIsImage}
use Rattle.normal_form.specs.Sorting.{Numbered, bare, existentials, numbered_from, SameSorted, sorted_form, universals}
use Rattle.step_skolem.specs.declared.map.SkEntry.{SkEntry}
use Rattle.normal_form.proofs.FormLaws.{bare_numbered, tree_is_form}
use Rattle.normal_form.proofs.Orders.{canonical}
use Rattle.step_skolem.proofs.Places.{every_of, length_existentials, length_universals, matched, orders_existentials, orders_universals, relabels}
use Rattle.step_skolem.proofs.PutImages.{entries_of, fate, image_put, put_image, with_fate}
use Rattle.step_skolem.proofs.Puts.{bare_relabelled, Fate, goes, moved, Put, put_relabelled, put_shuffled, relabelled, stays}
use Rattle.step_skolem.proofs.Numbers.{apart}
use Rattle.normal_form.proofs.Shuffles.{back, Shuffled, sorted_shuffled, SortingIsCanonical}

-- ---- maps in order

-- the entries' numbers rise, from low on, and are below high
abbrev pub Rises : ℕ → ℕ → List SkEntry → Type 0
Rises low high [] = Unit {0}
Rises low high (one ∷ l) = (low ≤ one.ex) × (one.ex < high) × Rises (suc one.ex) high l

rises_from : (a b high : ℕ) (l : List SkEntry) → a ≤ b → Rises b high l → Rises a high l
rises_from a b high [] h w = tt
rises_from a b high (one ∷ l) h w = (omega (arith, w.0), w.1, w.2)

rises_append : (low mid high : ℕ) (l m : List SkEntry) → low ≤ mid → mid ≤ high → Rises low mid l → Rises mid high m → Rises low high (l ++ m)
rises_append low mid high [] m h k w v = rises_from low mid high m h v
rises_append low mid high (one ∷ l) m h k w v = (w.0, omega (arith, w.1), rises_append (suc one.ex) mid high l m (omega (arith, w.1)) k w.2 v)

rises_at : (a b c d : ℕ) (l : List SkEntry) → a ≡ b → c ≡ d → Rises a c l → Rises b d l
rises_at a b c d l h k w = subst (λ x. Rises x d l) h (subst (λ x. Rises a x l) k w)

image_rises : {g : List Kept} {s : ℕ → Term} {u e : ℕ} {n : Form} {m : List SkEntry} {n' : Form} → Image g s u e n m n' → Rises e (exs n + e) m
image_rises (i_yes g s u e) = tt
image_rises (i_no g s u e) = tt
image_rises (i_lit g s u e l) = tt
image_rises (i_and g s u e a b m n c d p q) =
    rises_append e (exs a + e) (exs a + exs b + e) m n (omega arith) (omega arith) (image_rises p)
    (rises_at (exs a + e) (exs a + e) (exs b + (exs a + e)) (exs a + exs b + e) n refl (omega arith) (image_rises q))
image_rises (i_or g s u e a b m n c d p q) =
    rises_append e (exs a + e) (exs a + exs b + e) m n (omega arith) (omega arith) (image_rises p)
    (rises_at (exs a + e) (exs a + e) (exs b + (exs a + e)) (exs a + exs b + e) n refl (omega arith) (image_rises q))
image_rises (i_all g s u e b m d p) = image_rises p
image_rises (i_keep g s u e b m d p) = rises_from e (suc e) (suc (exs b) + e) m (omega arith) (rises_at (suc e) (suc e) (exs b + suc e) (suc (exs b) + e) m refl (omega arith) (image_rises p))
image_rises (i_put g s u e b m d symbol args ys fits p) =
    (omega arith, omega arith, rises_at (suc e) (suc e) (exs b + suc e) (suc (exs b) + e) m refl (omega arith) (image_rises p))

stays_below : (low high k : ℕ) (l : List SkEntry) → Rises low high l → k < low → fate l k ≡ stays
stays_below low high k [] w h = refl
stays_below low high k (one ∷ l) w h =
    ap (λ t. cond t (goes one.symbol one.args) (fate l k)) (apart one.ex k (λ e. omega (arith, e, w.0, h))) ∙ stays_below (suc one.ex) high k l w.2 (omega (arith, w.0, h))

entries_same : (f g : ℕ → Fate) (e n : ℕ) → ((k : ℕ) → e ≤ k → f k ≡ g k) → entries_of f e n ≡ entries_of g e n
entries_same f g e zero h = refl
entries_same f g e (suc n) h = ap₂ (with_fate e) (h e (omega arith)) (entries_same f g (suc e) n (λ k w. h k (omega arith)))

-- a map in order is the list of its fates
entries_all : (l : List SkEntry) (low n : ℕ) → Rises low (n + low) l → entries_of (fate l) low n ≡ l
entries_all [] low zero w = refl
entries_all (one ∷ l) low zero w = absurd (omega (arith, w.0, w.1))
entries_all [] low (suc n) w = entries_all [] (suc low) n tt
entries_all (one ∷ l) low (suc n) w = elim (cases_order one.ex low) [
  | inl e ↦
      ap (λ t. with_fate low (cond t (goes one.symbol one.args) (fate l low)) (entries_of (fate (one ∷ l)) (suc low) n)) (eq-eqb one.ex low e)
      ∙ ap₂ (λ (x : ℕ) (r : List SkEntry). record { ex = x; symbol = one.symbol; args = one.args } ∷ r) (sym e)
      (entries_same (fate (one ∷ l)) (fate l) (suc low) n (λ k v. ap (λ t. cond t (goes one.symbol one.args) (fate l k)) (apart one.ex k (λ d. omega (arith, d, e, v))))
      ∙ entries_all l (suc low) n (rises_at (suc one.ex) (suc low) (suc n + low) (n + suc low) l (ap suc e) (omega arith) w.2))
  | inr o ↦ elim o [
    | inl v ↦ absurd (omega (arith, v, w.0))
    | inr v ↦
        ap (λ x. with_fate low x (entries_of (fate (one ∷ l)) (suc low) n)) (stays_below one.ex (suc n + low) low (one ∷ l) (omega arith, w.1, w.2) v)
        ∙ entries_all (one ∷ l) (suc low) n (omega (arith, v), omega (arith, w.1), rises_at (suc one.ex) (suc one.ex) (suc n + low) (n + suc low) l refl (omega arith) w.2)
  ]
]

-- ---- putting in order

swapped : (x y : SkEntry) (l : List SkEntry) (k : ℕ) → (x.ex ≡ y.ex → ⊥) → fate (x ∷ y ∷ l) k ≡ fate (y ∷ x ∷ l) k
swapped x y l k h = by_tests (nat_eq x.ex k) (nat_eq y.ex k) (λ a b. h (eqb-true x.ex k a ∙ sym (eqb-true y.ex k b)))
  where
    by_tests : (s t : Bool) → (s ≡ true → t ≡ true → ⊥)
        → cond s (goes x.symbol x.args) (cond t (goes y.symbol y.args) (fate l k)) ≡ cond t (goes y.symbol y.args) (cond s (goes x.symbol x.args) (fate l k))
    by_tests true true w = absurd (w refl refl)
    by_tests true false w = refl
    by_tests false t w = refl

lt_true : (a b : ℕ) → nat_lt a b ≡ true → a < b
lt_true a b h = grind (arith, h)

lt_false : (a b : ℕ) → nat_lt a b ≡ false → b ≤ a
lt_false a b h = grind (arith, h)

fate_placed : (one : SkEntry) (l : List SkEntry) (k : ℕ) → fate (placed one l) k ≡ fate (one ∷ l) k
fate_placed one [] k = refl
fate_placed one (other ∷ l) k = by_test (nat_lt other.ex one.ex) (lt_true other.ex one.ex) (fate_placed one l k)
  where
    by_test : (t : Bool) → (t ≡ true → other.ex < one.ex) → fate (placed one l) k ≡ fate (one ∷ l) k → fate (cond t (other ∷ placed one l) (one ∷ other ∷ l)) k ≡ fate (one ∷ other ∷ l) k
    by_test true w h = ap (λ x. cond (nat_eq other.ex k) (goes other.symbol other.args) x) h ∙ swapped other one l k (λ e. let v = w refl in omega (arith, v, e))
    by_test false w h = refl

fate_by_number : (l : List SkEntry) (k : ℕ) → fate (by_number l) k ≡ fate l k
fate_by_number [] k = refl
fate_by_number (one ∷ l) k = fate_placed one (by_number l) k ∙ ap (λ x. cond (nat_eq one.ex k) (goes one.symbol one.args) x) (fate_by_number l k)

stays_not_goes : (one : SkEntry) (x : Fate) (t : Bool) → t ≡ true → cond t (goes one.symbol one.args) x ≡ stays → ⊥
stays_not_goes one x true e h = cc
stays_not_goes one x false e h = cc

other_stays : (one : SkEntry) (x : Fate) (t : Bool) → cond t (goes one.symbol one.args) x ≡ stays → x ≡ stays
other_stays one x true h = cc
other_stays one x false h = h

placed_rises : (low high : ℕ) (one : SkEntry) (l : List SkEntry) → low ≤ one.ex → one.ex < high → fate l one.ex ≡ stays → Rises low high l → Rises low high (placed one l)
placed_rises low high one [] h k s w = (h, k, tt)
placed_rises low high one (other ∷ l) h k s w =
    by_test (nat_lt other.ex one.ex) (lt_true other.ex one.ex) (lt_false other.ex one.ex)
    (λ v. placed_rises (suc other.ex) high one l (omega (arith, v)) k (other_stays other (fate l one.ex) (nat_eq other.ex one.ex) s) w.2)
  where
    differ : other.ex ≡ one.ex → ⊥
    differ e = stays_not_goes other (fate l one.ex) (nat_eq other.ex one.ex) (eq-eqb other.ex one.ex e) s

    by_test : (t : Bool) → (t ≡ true → other.ex < one.ex) → (t ≡ false → one.ex ≤ other.ex) → (other.ex < one.ex → Rises (suc other.ex) high (placed one l))
        → Rises low high (cond t (other ∷ placed one l) (one ∷ other ∷ l))
    by_test true a b f = (w.0, w.1, f (a refl))
    by_test false a b f = let v = b refl in (h, k, (elim (cases_order other.ex one.ex) [ inl e ↦ absurd (differ e) | inr o ↦ elim o [ inl x ↦ omega (arith, x, v) | inr x ↦ omega (arith, x) ] ], w.1, w.2))

-- each number stands once, and below high
abbrev pub Once : ℕ → List SkEntry → Type 0
Once high [] = Unit {0}
Once high (one ∷ l) = (one.ex < high) × (fate l one.ex ≡ stays) × Once high l

by_number_rises : (high : ℕ) (l : List SkEntry) → Once high l → Rises 0 high (by_number l)
by_number_rises high [] w = tt
by_number_rises high (one ∷ l) w = placed_rises 0 high one (by_number l) (omega arith) w.0 (fate_by_number l one.ex ∙ w.1) (by_number_rises high l w.2)

-- ---- other numbers

fate_renumbered : (p q r : ℕ → ℕ) (low high : ℕ) (l : List SkEntry) → Rises low high l → ((k : ℕ) → k < high → r (q k) ≡ k) → (k : ℕ) → k < high
    → fate (map (renumbered p q) l) (q k) ≡ moved p (fate l k)
fate_renumbered p q r low high [] w h k v = refl
fate_renumbered p q r low high (one ∷ l) w h k v = elim (cases_order one.ex k) [
  | inl e ↦
      ap (λ t. cond t (goes one.symbol (map p one.args)) (fate (map (renumbered p q) l) (q k))) (eq-eqb (q one.ex) (q k) (ap q e))
      ∙ ap (λ t. moved p (cond t (goes one.symbol one.args) (fate l k))) (sym (eq-eqb one.ex k e))
  | inr o ↦
      let d : one.ex ≡ k → ⊥ = λ e. elim o [ inl x ↦ omega (arith, x, e) | inr x ↦ omega (arith, x, e) ] in
      ap (λ t. cond t (goes one.symbol (map p one.args)) (fate (map (renumbered p q) l) (q k))) (apart (q one.ex) (q k) (λ e. d (sym (h one.ex w.1) ∙ ap r e ∙ h k v)))
      ∙ fate_renumbered p q r (suc one.ex) high l w.2 h k v
      ∙ ap (λ t. moved p (cond t (goes one.symbol one.args) (fate l k))) (sym (apart one.ex k d))
]

renumbered_once : (p q r : ℕ → ℕ) (low high top : ℕ) (l : List SkEntry) → Rises low high l → ((k : ℕ) → k < high → r (q k) ≡ k) → ((k : ℕ) → k < high → q k < top) → Once top (map (renumbered p q) l)
renumbered_once p q r low high top [] w h t = tt
renumbered_once p q r low high top (one ∷ l) w h t = (
  t one.ex w.1,
  fate_renumbered p q r (suc one.ex) high l w.2 h one.ex w.1 ∙ ap (moved p) (stays_below (suc one.ex) high one.ex l w.2 (omega arith)),
  renumbered_once p q r (suc one.ex) high top l w.2 h t,
)

-- ---- the law

abbrev start : Nf → Numbered
start n = numbered_from 0 0 (form_of n)

abbrev from_start : (n : Nf) → Shuffled (sorted_form n) (start n)
from_start n = sorted_shuffled (start n)

same_exs : (n r : Nf) → SameSorted n r → length (existentials (sorted_form n)) ≡ length (existentials (sorted_form r))
same_exs n r h = length_existentials (sorted_form n) ∙ ap exs h ∙ sym (length_existentials (sorted_form r))

same_alls : (n r : Nf) → SameSorted n r → length (universals (sorted_form n)) ≡ length (universals (sorted_form r))
same_alls n r h = length_universals (sorted_form n) ∙ ap alls h ∙ sym (length_universals (sorted_form r))

abbrev start_put : (n m : Nf) (entries : List SkEntry) → IsImage n entries m → (c : Numbered) × Put (fate entries) [] Var (start n) c × (bare c ≡ form_of m)
start_put n m entries h = image_put (fate entries) h (λ k a b. refl)

pub carried_leads : (n r m : Nf) (entries : List SkEntry) → SameSorted n r → IsImage n entries m
    → (c d h : Numbered) × (bare c ≡ form_of m) × Shuffled c d × Image [] Var 0 0 (form_of r) (carried n r entries) (bare h) × ((x : Numbered) × (bare d ≡ bare x) × Shuffled x h)
carried_leads n r m entries same image =
    let a = orders_universals (form_of n) (sorted_form n) (from_start n) in
    let b = orders_universals (form_of r) (sorted_form r) (from_start r) in
    let v = orders_existentials (form_of n) (sorted_form n) (from_start n) in
    let w = orders_existentials (form_of r) (sorted_form r) (from_start r) in
    let us = matched (universals (sorted_form n)) (universals (sorted_form r)) a.once b.once (same_alls n r same) in
    let es = matched (existentials (sorted_form n)) (existentials (sorted_form r)) v.once w.once (same_exs n r same) in
    let p : ℕ → ℕ = across (universals (sorted_form n)) (universals (sorted_form r)) in
    let pb : ℕ → ℕ = across (universals (sorted_form r)) (universals (sorted_form n)) in
    let q : ℕ → ℕ = across (existentials (sorted_form n)) (existentials (sorted_form r)) in
    let qb : ℕ → ℕ = across (existentials (sorted_form r)) (existentials (sorted_form n)) in
    let f : ℕ → Fate = fate (carried n r entries) in
    let rises : Rises 0 (exs (form_of n)) entries = rises_at 0 0 (exs (form_of n) + 0) (exs (form_of n)) entries refl (omega arith) (image_rises image) in
    let comes : ((k : ℕ) → k < exs (form_of n) → qb (q k) ≡ k) = λ k l. es.back k (v.there k l) in
    let lands : ((k : ℕ) → k < exs (form_of n) → q k < exs (form_of r)) = λ k l. w.below (q k) (es.lands k (v.there k l)) in
    let fates : ((k : ℕ) → has_number (existentials (sorted_form n)) k ≡ true → f (q k) ≡ moved p (fate entries k)) =
    λ k l. fate_by_number (map (renumbered p q) entries) (q k) ∙ fate_renumbered p q qb 0 (exs (form_of n)) entries rises comes k (v.below k l) in
    let order : Rises 0 (exs (form_of r)) (carried n r entries) =
    by_number_rises (exs (form_of r)) (map (renumbered p q) entries) (renumbered_once p q qb 0 (exs (form_of n)) (exs (form_of r)) entries rises comes lands) in
    let put = start_put n m entries image in
    let x = put_shuffled (fate entries) (back (from_start n)) [] Var put.0 put.1 in
    let moves : Put f [] Var (relabelled p q (sorted_form n)) (relabelled p q x.0) =
    put_relabelled (fate entries) f p q pb x.1 (λ y k g. not_bound k g)
    (every_of (λ k. pb (p k) ≡ k) (λ k. f (q k) ≡ moved p (fate entries k)) (sorted_form n) (λ k l. us.back k l) fates) in
    let arrives : Put f [] Var (sorted_form r) (relabelled p q x.0) =
    subst (λ t. Put f [] Var t (relabelled p q x.0)) (relabels p q (sorted_form n) (sorted_form r) same us.to es.to) moves in
    let y = put_shuffled f (from_start r) [] Var (relabelled p q x.0) arrives in
    let leads : Image [] Var 0 0 (form_of r) (entries_of f 0 (exs (form_of r))) (bare y.0) = put_image f (form_of r) 0 0 [] Var y.0 y.1 in
    let is : entries_of f 0 (exs (form_of r)) ≡ carried n r entries =
    entries_all (carried n r entries) 0 (exs (form_of r)) (rises_at 0 0 (exs (form_of r)) (exs (form_of r) + 0) (carried n r entries) refl (omega arith) order) in
    (put.0, x.0, y.0, put.2, x.2, subst (λ l. Image [] Var 0 0 (form_of r) l (bare y.0)) is leads, (relabelled p q x.0, sym (bare_relabelled p q x.0), y.2))
  where
    not_bound : {B : Type 0} (k : ℕ) → outside ≡ universal k → B
    not_bound k g = cc

-- a carried map is a map of an image, and the form that it leads to has the sorted form of the first image
pub carried_image : SortingIsCanonical → (n r m : Nf) (entries : List SkEntry) → SameSorted n r → IsImage n entries m
    → (s : Nf) × IsImage r (carried n r entries) s × SameSorted m s
carried_image canonical n r m entries same image =
    let x = carried_leads n r m entries same image in
    let h : Numbered = x.2 in (
      nf_of (bare h),
      subst (λ t. Image [] Var 0 0 (form_of r) (carried n r entries) t) (sym (tree_is_form (bare h))) x.5,
      canonical.0 (start m) x.0 (bare_numbered 0 0 (form_of m) ∙ sym x.3)
          ∙ canonical.1 x.0 x.1 x.4
          ∙ canonical.0 x.1 x.6.0 x.6.1
          ∙ canonical.1 x.6.0 h x.6.2
          ∙ canonical.0 h (start (nf_of (bare h))) (sym (bare_numbered 0 0 (form_of (nf_of (bare h))) ∙ tree_is_form (bare h))),
    )

pub carried_is_image : CarriedIsImage
carried_is_image n r m entries same image = carried_image canonical n r m entries same image
