-- Two images one after the other are one image.
use Rattle.std.proofs.Common.{◌≡◌, ◌<◌, ◌≤◌, ℕ, zero, suc, ◌+◌, nat_eq, nat_lt, Bool, true, false, List, [], ◌∷◌, ◌++◌, map, cond, refl, sym, ap, ap₂, ◌∙◌, subst, arith, inl, inr, eq-eqb}
use Rattle.std.proofs.lemmas.Bool.{eqb-true, or_cases, or_left, or_right}
use Rattle.dk_syntax.proofs.SubstitutionLaws.{comes, substituted-Var}
use Rattle.dk_syntax.specs.Terms.{has_variable, substituted}
use Rattle.dk_syntax.specs.declared.SymKey.{SymKey}
use Rattle.dk_syntax.specs.declared.Term.{Term}
use Rattle.dk_syntax.specs.declared.Term.TheVariants.{Var}
use Rattle.normal_form.specs.ClauseLists.{has_number}
use Rattle.normal_form.specs.Forms.{alls, exs, Form, form_of, free, lit}
use Rattle.step_skolem.proofs.OneMap.{image_free}
use Rattle.step_skolem.proofs.SubstitutionLaws.{after_with, applied_moved, instance_after, shifted_from, shifted_has, up_up, variable_same, with_after}
use Rattle.step_skolem.specs.Chaining.{joined_at, joined_from, raised}
use Rattle.step_skolem.specs.Images.{binder, entry, existential, FitsEntry, i_all, i_and, i_keep, i_lit, i_no, i_or, i_put, i_yes, Image, is_outside, Kept, outside, universal}
use Rattle.step_skolem.specs.Laws.{ChainIsImage}
use Rattle.step_skolem.specs.Substitutions.{applied, shifted, up, with_term}
use Rattle.step_skolem.specs.declared.map.SkEntry.{SkEntry}

-- ---- both maps, existential by existential

-- Chain e i first next both d j: from the first form's existential e and the image's existential i up to d and j, the map
-- `both` has the entries of `first`, and those of `next` with the numbers of the first form.
pub data Chain : ℕ → ℕ → List SkEntry → List SkEntry → List SkEntry → ℕ → ℕ → Type 0 where
  c_end : (e i : ℕ) → Chain e i [] [] [] e i
  c_first : (e i : ℕ) (f : SymKey) (args : List ℕ) (m n r : List SkEntry) (d j : ℕ) → Chain (suc e) i m n r d j → Chain e i (entry e f args ∷ m) n (entry e f args ∷ r) d j
  c_next : (e i : ℕ) (f : SymKey) (args : List ℕ) (m n r : List SkEntry) (d j : ℕ) → Chain (suc e) (suc i) m n r d j → Chain e i m (entry i f args ∷ n) (entry e f args ∷ r) d j
  c_neither : (e i : ℕ) (m n r : List SkEntry) (d j : ℕ) → Chain (suc e) (suc i) m n r d j → Chain e i m n r d j

chain_append : {e i d j d' j' : ℕ} {m n r m' n' r' : List SkEntry} → Chain e i m n r d j → Chain d j m' n' r' d' j' → Chain e i (m ++ m') (n ++ n') (r ++ r') d' j'
chain_append (c_end e i) k = k
chain_append {d' = d'} {j' = j'} {m' = m'} {n' = n'} {r' = r'} (c_first e i f args m n r d j h) k = c_first e i f args (m ++ m') (n ++ n') (r ++ r') d' j' (chain_append h k)
chain_append {d' = d'} {j' = j'} {m' = m'} {n' = n'} {r' = r'} (c_next e i f args m n r d j h) k = c_next e i f args (m ++ m') (n ++ n') (r ++ r') d' j' (chain_append h k)
chain_append {d' = d'} {j' = j'} {m' = m'} {n' = n'} {r' = r'} (c_neither e i m n r d j h) k = c_neither e i (m ++ m') (n ++ n') (r ++ r') d' j' (chain_append h k)

ends : (e i : ℕ) (m n r : List SkEntry) (d j d' j' : ℕ) → d ≡ d' → j ≡ j' → Chain e i m n r d j → Chain e i m n r d' j'
ends e i m n r d j d' j' p q h = subst (λ x. Chain e i m n r x j') p (subst (λ y. Chain e i m n r d y) q h)

next_end : (a e : ℕ) → a + suc e ≡ suc a + e
next_end a e = omega arith

zero_end : (e : ℕ) → e ≡ 0 + e
zero_end e = omega arith

both_ends : (a b e : ℕ) → b + (a + e) ≡ a + b + e
both_ends a b e = omega arith

-- ---- universals stay

alls_image : {g : List Kept} {s : ℕ → Term} {u e : ℕ} {n : Form} {m : List SkEntry} {n' : Form} → Image g s u e n m n' → alls n' ≡ alls n
alls_image (i_yes g s u e) = refl
alls_image (i_no g s u e) = refl
alls_image (i_lit g s u e l) = refl
alls_image (i_and g s u e a b m n c d p q) = ap₂ (λ x y. x + y) (alls_image p) (alls_image q)
alls_image (i_or g s u e a b m n c d p q) = ap₂ (λ x y. x + y) (alls_image p) (alls_image q)
alls_image (i_all g s u e b m d p) = ap suc (alls_image p)
alls_image (i_keep g s u e b m d p) = alls_image p
alls_image (i_put g s u e b m d symbol args ys fits p) = alls_image p

-- each universal of the first stack is the same universal of the second, and what is outside stays outside
abbrev pub Goes : List Kept → List Kept → (ℕ → Term) → Type 0
Goes g h s = ((k n : ℕ) → binder g k ≡ universal n → (j : ℕ) × (s k ≡ Var j) × (binder h j ≡ universal n))
    × ((k i : ℕ) → is_outside (binder g k) ≡ true → has_variable i (s k) ≡ true → is_outside (binder h i) ≡ true)

goes_up_universals : (x : Kept) (g h : List Kept) (s : ℕ → Term) → Goes g h s → (k n : ℕ) → binder (x ∷ g) k ≡ universal n → (j : ℕ) × (up s k ≡ Var j) × (binder (x ∷ h) j ≡ universal n)
goes_up_universals x g h s w zero n q = (0, refl, q)
goes_up_universals x g h s w (suc k) n q = let p = w.0 k n q in (suc p.0, ap shifted p.1 ∙ shifted_variable p.0, p.2)
  where
    shifted_variable : (j : ℕ) → shifted (Var j) ≡ Var (suc j)
    shifted_variable j = substituted-Var (λ k. Var (suc k)) j

goes_up_outside : (x : Kept) (g h : List Kept) (s : ℕ → Term) → Goes g h s → (k i : ℕ) → is_outside (binder (x ∷ g) k) ≡ true → has_variable i (up s k) ≡ true → is_outside (binder (x ∷ h) i) ≡ true
goes_up_outside x g h s w zero i o q = let e : 0 ≡ i = variable_same 0 i q in subst (λ j. is_outside (binder (x ∷ h) j) ≡ true) e o
goes_up_outside x g h s w (suc k) i o q =
    let r = shifted_from (s k) i q in
    subst (λ j. is_outside (binder (x ∷ h) j) ≡ true) r.1 (w.1 k r.0 o r.2)

goes_up : (x : Kept) (g h : List Kept) (s : ℕ → Term) → Goes g h s → Goes (x ∷ g) (x ∷ h) (up s)
goes_up x g h s w = (goes_up_universals x g h s w, goes_up_outside x g h s w)

goes_with_universals : (g h : List Kept) (s : ℕ → Term) (t : Term) → Goes g h s → (k n : ℕ) → binder (existential ∷ g) k ≡ universal n → (j : ℕ) × (with_term t s k ≡ Var j) × (binder h j ≡ universal n)
goes_with_universals g h s t w zero n q = cc
goes_with_universals g h s t w (suc k) n q = w.0 k n q

goes_with_outside : (g h : List Kept) (s : ℕ → Term) (t : Term) → Goes g h s → (k i : ℕ) → is_outside (binder (existential ∷ g) k) ≡ true → has_variable i (with_term t s k) ≡ true → is_outside (binder h i) ≡ true
goes_with_outside g h s t w zero i o q = cc
goes_with_outside g h s t w (suc k) i o q = w.1 k i o q

goes_with : (g h : List Kept) (s : ℕ → Term) (t : Term) → Goes g h s → Goes (existential ∷ g) h (with_term t s)
goes_with g h s t w = (goes_with_universals g h s t w, goes_with_outside g h s t w)

goes_start : Goes [] [] Var
goes_start = ((λ k n q. absurd (none n q)), λ k i o q. refl)
  where
    none : (n : ℕ) → outside ≡ universal n → ⊥
    none n q = cc

-- ---- the conditions on an entry

-- where the variables of an entry go
pub record Moved (h : List Kept) (s : ℕ → Term) (ys args zs : List ℕ) : Type 0 where
  pub named : map (binder h) zs ≡ map universal args
  pub values : map s ys ≡ map Var zs
  pub inside : (i j : ℕ) → has_number ys j ≡ true → has_variable i (s j) ≡ true → has_number zs i ≡ true

moved : (g h : List Kept) (s : ℕ → Term) → Goes g h s → (ys args : List ℕ) → map (binder g) ys ≡ map universal args → (zs : List ℕ) × Moved h s ys args zs
moved g h s w [] [] q = ([], record { named = refl; values = refl; inside = λ i j x y. absurd (off x) })
  where
    off : false ≡ true → ⊥
    off x = cc
moved g h s w [] (n ∷ args) q = cc
moved g h s w (y ∷ ys) [] q = cc
moved g h s w (y ∷ ys) (n ∷ args) q =
    let first : binder g y ≡ universal n = cc in
    let rest : map (binder g) ys ≡ map universal args = cc in
    let p = w.0 y n first in
    let r = moved g h s w ys args rest in (
      p.0 ∷ r.0,
      record {
        named = ap₂ (λ a b. a ∷ b) p.2 r.1.named;
        values = ap₂ (λ a b. a ∷ b) p.1 r.1.values;
        inside = λ i j x z. elim (or_cases (nat_eq y j) (has_number ys j) x) [
          | inl l ↦ or_left (nat_eq p.0 i) (has_number r.0 i) (eq-eqb p.0 i (variable_same p.0 i (subst (λ v. has_variable i v ≡ true) (ap s (sym (eqb-true y j l)) ∙ p.1) z)))
          | inr m ↦ or_right (nat_eq p.0 i) (has_number r.0 i) (r.1.inside i j m z)
        ];
      },
    )

-- where the second image replaces what the first one kept
fits_next : (h : List Kept) (s q : ℕ → Term) (b d : Form) (args ys : List ℕ)
    → ((k j : ℕ) → free (suc k) b ≡ true → has_variable j (s k) ≡ true → free (suc j) d ≡ true)
    → FitsEntry h q args ys d → FitsEntry h (λ x. substituted q (s x)) args ys b
fits_next h s q b d args ys stays fits = record {
  universals = fits.universals;
  once = fits.once;
  covered = λ k i f x o. let r = comes q i (s k) x in fits.covered r.0 i (stays k r.0 f r.1) r.2 o;
}

not_outside : (a b : Bool) → (a ≡ true → b ≡ true) → b ≡ false → a ≡ false
not_outside true true w o = o
not_outside true false w o = sym (w refl)
not_outside false b w o = refl

-- where the first image replaced it
fits_first : (g h : List Kept) (s q : ℕ → Term) (b : Form) (args ys zs : List ℕ) → Goes g h q → Moved h q ys args zs
    → FitsEntry g s args ys b → FitsEntry h (λ x. substituted q (s x)) args zs b
fits_first g h s q b args ys zs v w fits = record {
  universals = w.named;
  once = fits.once;
  covered = λ k i f x o.
      let r = comes q i (s k) x in
      w.inside i r.0 (fits.covered k r.0 f r.1 (not_outside (is_outside (binder g r.0)) (is_outside (binder h i)) (λ y. v.1 r.0 i y r.2) o)) r.2;
}

-- ---- the one image

pub record Both (h : List Kept) (q s : ℕ → Term) (u e i : ℕ) (n : Form) (m k : List SkEntry) (n' n'' : Form) : Type 0 where
  pub entries : List SkEntry
  pub image : Image h (λ x. substituted q (s x)) u e n entries n''
  pub chain : Chain e i m k entries (exs n + e) (exs n' + i)

both : {g : List Kept} {s : ℕ → Term} {u e : ℕ} {n : Form} {m : List SkEntry} {n' : Form} → Image g s u e n m n'
    → (h : List Kept) (q : ℕ → Term) (i : ℕ) (k : List SkEntry) (n'' : Form) → Goes g h q → Image h q u i n' k n'' → Both h q s u e i n m k n' n''
both (i_yes g s u e) h q i k n'' w (i_yes _ _ _ _) =
    record { entries = []; image = i_yes h (λ x. substituted q (s x)) u e; chain = ends e i [] [] [] e i (0 + e) (0 + i) (zero_end e) (zero_end i) (c_end e i) }
both (i_no g s u e) h q i k n'' w (i_no _ _ _ _) =
    record { entries = []; image = i_no h (λ x. substituted q (s x)) u e; chain = ends e i [] [] [] e i (0 + e) (0 + i) (zero_end e) (zero_end i) (c_end e i) }
both (i_lit g s u e l) h q i k n'' w (i_lit _ _ _ _ _) = record {
  entries = [];
  image = subst (λ v. Image h (λ x. substituted q (s x)) u e (lit l) [] (lit v)) (sym (instance_after q s l)) (i_lit h (λ x. substituted q (s x)) u e l);
  chain = ends e i [] [] [] e i (0 + e) (0 + i) (zero_end e) (zero_end i) (c_end e i);
}
both (i_and g s u e a b m n c d p r) h q i k n'' w (i_and _ _ _ _ _ _ k1 k2 c2 d2 p2 r2) =
    let x = both p h q i k1 c2 w p2 in
    let y = both r h q (exs c + i) k2 d2 w (subst (λ v. Image h q v (exs c + i) d k2 d2) (ap (λ v. v + u) (alls_image p)) r2) in
    record {
      entries = x.entries ++ y.entries;
      image = i_and h (λ v. substituted q (s v)) u e a b x.entries y.entries c2 d2 x.image y.image;
      chain = ends e i (m ++ n) (k1 ++ k2) (x.entries ++ y.entries) (exs b + (exs a + e)) (exs d + (exs c + i)) (exs a + exs b + e) (exs c + exs d + i)
          (both_ends (exs a) (exs b) e) (both_ends (exs c) (exs d) i) (chain_append x.chain y.chain);
    }
both (i_or g s u e a b m n c d p r) h q i k n'' w (i_or _ _ _ _ _ _ k1 k2 c2 d2 p2 r2) =
    let x = both p h q i k1 c2 w p2 in
    let y = both r h q (exs c + i) k2 d2 w (subst (λ v. Image h q v (exs c + i) d k2 d2) (ap (λ v. v + u) (alls_image p)) r2) in
    record {
      entries = x.entries ++ y.entries;
      image = i_or h (λ v. substituted q (s v)) u e a b x.entries y.entries c2 d2 x.image y.image;
      chain = ends e i (m ++ n) (k1 ++ k2) (x.entries ++ y.entries) (exs b + (exs a + e)) (exs d + (exs c + i)) (exs a + exs b + e) (exs c + exs d + i)
          (both_ends (exs a) (exs b) e) (both_ends (exs c) (exs d) i) (chain_append x.chain y.chain);
    }
both (i_all g s u e b m d p) h q i k n'' w (i_all _ _ _ _ _ _ d2 p2) =
    let x = both p (universal u ∷ h) (up q) i k d2 (goes_up (universal u) g h q w) p2 in
    record {
      entries = x.entries;
      image = i_all h (λ v. substituted q (s v)) u e b x.entries d2 (subst (λ r. Image (universal u ∷ h) r (suc u) e b x.entries d2) (up_up q s) x.image);
      chain = x.chain;
    }
both (i_keep g s u e b m d p) h q i k n'' w (i_keep _ _ _ _ _ _ d2 p2) =
    let x = both p (existential ∷ h) (up q) (suc i) k d2 (goes_up existential g h q w) p2 in
    record {
      entries = x.entries;
      image = i_keep h (λ v. substituted q (s v)) u e b x.entries d2 (subst (λ r. Image (existential ∷ h) r u (suc e) b x.entries d2) (up_up q s) x.image);
      chain = ends e i m k x.entries (exs b + suc e) (exs d + suc i) (suc (exs b) + e) (suc (exs d) + i) (next_end (exs b) e) (next_end (exs d) i)
          (c_neither e i m k x.entries (exs b + suc e) (exs d + suc i) x.chain);
    }
both (i_keep g s u e b m d p) h q i k n'' w (i_put _ _ _ _ _ k2 _ f args ys fits p2) =
    let t = applied f ys in
    let x = both p h (with_term t q) (suc i) k2 n'' (goes_with g h q t w) p2 in
    record {
      entries = entry e f args ∷ x.entries;
      image = i_put h (λ v. substituted q (s v)) u e b x.entries n'' f args ys
          (fits_next h s q b d args ys (λ v j y z. image_free p (suc v) (suc j) y (shifted_has (s v) j z)) fits)
          (subst (λ r. Image h r u (suc e) b x.entries n'') (after_with q s t) x.image);
      chain = ends e i m (entry i f args ∷ k2) (entry e f args ∷ x.entries) (exs b + suc e) (exs d + suc i) (suc (exs b) + e) (suc (exs d) + i) (next_end (exs b) e) (next_end (exs d) i)
          (c_next e i f args m k2 x.entries (exs b + suc e) (exs d + suc i) x.chain);
    }
both (i_put g s u e b m d f args ys fits p) h q i k n'' w r =
    let z = moved g h q w ys args fits.universals in
    let t = applied f z.0 in
    let x = both p h q i k n'' w r in
    record {
      entries = entry e f args ∷ x.entries;
      image = i_put h (λ v. substituted q (s v)) u e b x.entries n'' f args z.0
          (fits_first g h s q b args ys z.0 w z.1 fits)
          (subst (λ v. Image h v u (suc e) b x.entries n'') (with_after q s (applied f ys) t (applied_moved q f ys z.0 z.1.values)) x.image);
      chain = ends e i (entry e f args ∷ m) k (entry e f args ∷ x.entries) (exs b + suc e) (exs d + i) (suc (exs b) + e) (exs d + i) (next_end (exs b) e) refl
          (c_first e i f args m k x.entries (exs b + suc e) (exs d + i) x.chain);
    }

-- ---- the chain by its numbers

-- the first entry's number is e or greater
abbrev From : ℕ → List SkEntry → Type 0
From e [] = Unit {0}
From e (one ∷ rest) = e ≤ one.ex

from_down : (e : ℕ) (m : List SkEntry) → From (suc e) m → From e m
from_down e [] w = tt
from_down e (one ∷ rest) w = omega (arith, w)

first_from : {e i d j : ℕ} {m n r : List SkEntry} → Chain e i m n r d j → From e m
first_from (c_end e i) = tt
first_from (c_first e i f args m n r d j h) = omega arith
first_from (c_next e i f args m n r d j h) = from_down e m (first_from h)
first_from (c_neither e i m n r d j h) = from_down e m (first_from h)

next_from : {e i d j : ℕ} {m n r : List SkEntry} → Chain e i m n r d j → From i n
next_from (c_end e i) = tt
next_from (c_first e i f args m n r d j h) = next_from h
next_from (c_next e i f args m n r d j h) = omega arith
next_from (c_neither e i m n r d j h) = from_down i n (next_from h)

before_true : (a b : ℕ) → a < b → nat_lt a b ≡ true
before_true a b h = grind (arith, h)

before_false : (a b : ℕ) → b ≤ a → nat_lt a b ≡ false
before_false a b h = grind (arith, h)

-- an entry of the first map whose turn it is
joined_first : (a e i : ℕ) (f : SymKey) (args : List ℕ) (m n r : List SkEntry) → e ≡ i + a → From i n → joined_from (suc a) m n ≡ r
    → joined_from a (entry e f args ∷ m) n ≡ entry e f args ∷ r
joined_first a e i f args m [] r h w k = ap (λ l. entry e f args ∷ l) k
joined_first a e i f args m (x ∷ n) r h w k =
    ap (λ b. cond b (raised a x ∷ joined_at a (entry e f args) (joined_from (suc a) m) n) (entry e f args ∷ joined_from (suc a) m (x ∷ n))) (before_false (x.ex + a) e (omega (arith, h, w)))
    ∙ ap (λ l. entry e f args ∷ l) k

-- an entry of the second map whose turn it is
joined_next : (a e i : ℕ) (f : SymKey) (args : List ℕ) (m n r : List SkEntry) → i + a ≡ e → From (suc e) m → joined_from a m n ≡ r
    → joined_from a m (entry i f args ∷ n) ≡ entry e f args ∷ r
joined_next a e i f args [] n r h w k = ap₂ (λ x l. entry x f args ∷ l) h k
joined_next a e i f args (y ∷ m) n r h w k =
    ap (λ b. cond b (entry (i + a) f args ∷ joined_at a y (joined_from (suc a) m) n) (y ∷ joined_from (suc a) m (entry i f args ∷ n))) (before_true (i + a) y.ex (omega (arith, h, w)))
    ∙ ap₂ (λ x l. entry x f args ∷ l) h k

joined : {e i d j : ℕ} {m n r : List SkEntry} → Chain e i m n r d j → (a : ℕ) → e ≡ i + a → joined_from a m n ≡ r
joined (c_end e i) a h = refl
joined (c_first e i f args m n r d j p) a h = joined_first a e i f args m n r h (next_from p) (joined p (suc a) (omega (arith, h)))
joined (c_next e i f args m n r d j p) a h = joined_next a e i f args m n r (sym h) (first_from p) (joined p a (omega (arith, h)))
joined (c_neither e i m n r d j p) a h = joined p a (omega (arith, h))

var_after : (λ x. substituted Var (Var x)) ≡ Var
var_after = λ i n. substituted-Var Var n i

pub chain_is_image : ChainIsImage
chain_is_image n n' n'' first next p q =
    let x = both p [] Var 0 next (form_of n'') goes_start q in
    let is : joined_from 0 first next ≡ x.entries = joined x.chain 0 refl in
    subst (λ l. Image [] Var 0 0 (form_of n) l (form_of n'')) (sym is) (subst (λ r. Image [] r 0 0 (form_of n) x.entries (form_of n'')) var_after x.image)
