-- Images of numbered forms, where what becomes of an existential is a function of its number.
use Rattle.std.proofs.Common.{◌≡◌, ℕ, zero, suc, true, not, List, [], ◌∷◌, map, refl, sym, ap, ap₂, ◌∙◌, subst}
use Rattle.std.proofs.lemmas.Bool.{and_from, and_parts}
use Rattle.dk_syntax.specs.Terms.{instance}
use Rattle.dk_syntax.specs.declared.Literal.{Literal}
use Rattle.dk_syntax.specs.declared.SymKey.{SymKey}
use Rattle.dk_syntax.specs.declared.Term.{Term}
use Rattle.normal_form.specs.ClauseLists.{has_number}
use Rattle.normal_form.specs.Forms.{Form, free}
use Rattle.step_skolem.specs.Images.{Kept, universal, existential, outside, binder, is_outside, are_distinct, FitsEntry}
use Rattle.normal_form.specs.Sorting.{Numbered, yes, no, lit, and, or, all, ex, bare}
use Rattle.step_skolem.specs.Substitutions.{applied, up, with_term}
use Rattle.step_skolem.proofs.Numbers.{has_map, not_both, not_by}
use Rattle.normal_form.proofs.Shuffles.{Shuffled, stay, chain, swap_and, turn_and, in_and, swap_or, turn_or, in_or, in_all, in_ex, free_shuffled}

pub data Fate : Type 0 where
  stays : Fate
  goes : SymKey → List ℕ → Fate

module _ (f : ℕ → Fate) where
  pub data Put : List Kept → (ℕ → Term) → Numbered → Numbered → Type 0 where
    p_yes : (g : List Kept) (s : ℕ → Term) → Put g s yes yes
    p_no : (g : List Kept) (s : ℕ → Term) → Put g s no no
    p_lit : (g : List Kept) (s : ℕ → Term) (l : Literal) → Put g s (lit l) (lit (instance s l))
    p_and : (g : List Kept) (s : ℕ → Term) (a b c d : Numbered) → Put g s a c → Put g s b d → Put g s (and a b) (and c d)
    p_or : (g : List Kept) (s : ℕ → Term) (a b c d : Numbered) → Put g s a c → Put g s b d → Put g s (or a b) (or c d)
    p_all : (g : List Kept) (s : ℕ → Term) (u : ℕ) (a c : Numbered) → Put (universal u ∷ g) (up s) a c → Put g s (all u a) (all u c)
    p_keep : (g : List Kept) (s : ℕ → Term) (e : ℕ) (a c : Numbered) → f e ≡ stays → Put (existential ∷ g) (up s) a c → Put g s (ex e a) (ex e c)
    p_put : (g : List Kept) (s : ℕ → Term) (e : ℕ) (a c : Numbered) (symbol : SymKey) (args variables : List ℕ) → f e ≡ goes symbol args
        → FitsEntry g s args variables (bare a) → Put g (with_term (applied symbol variables) s) a c → Put g s (ex e a) c

pub fits_body : {g : List Kept} {s : ℕ → Term} {args variables : List ℕ} {a : Form} (b : Form) → ((k : ℕ) → free k a ≡ free k b) → FitsEntry g s args variables a → FitsEntry g s args variables b
fits_body b same fits = record {
  universals = fits.universals;
  once = fits.once;
  covered = λ k i h t o. fits.covered k i (same (suc k) ∙ h) t o;
}

-- a shuffled form has a shuffled image
pub put_shuffled : (f : ℕ → Fate) {a b : Numbered} → Shuffled a b → (g : List Kept) (s : ℕ → Term) (c : Numbered) → Put f g s a c
    → (d : Numbered) × Put f g s b d × Shuffled c d
put_shuffled f (stay a) g s c p = (c, p, stay c)
put_shuffled f (chain a b e p q) g s c h =
    let x = put_shuffled f p g s c h in
    let y = put_shuffled f q g s x.0 x.1 in
    (y.0, y.1, chain c x.0 y.0 x.2 y.2)
put_shuffled f (swap_and a b) g s _ (p_and _ _ _ _ c d p q) = (and d c, p_and g s b a d c q p, swap_and c d)
put_shuffled f (turn_and a b e) g s _ (p_and _ _ _ _ _ z (p_and _ _ _ _ x y p q) r) = (and x (and y z), p_and g s a (and b e) x (and y z) p (p_and g s b e y z q r), turn_and x y z)
put_shuffled f (in_and a b c d h k) g s _ (p_and _ _ _ _ x y p q) =
    let v = put_shuffled f h g s x p in
    let w = put_shuffled f k g s y q in
    (and v.0 w.0, p_and g s c d v.0 w.0 v.1 w.1, in_and x y v.0 w.0 v.2 w.2)
put_shuffled f (swap_or a b) g s _ (p_or _ _ _ _ c d p q) = (or d c, p_or g s b a d c q p, swap_or c d)
put_shuffled f (turn_or a b e) g s _ (p_or _ _ _ _ _ z (p_or _ _ _ _ x y p q) r) = (or x (or y z), p_or g s a (or b e) x (or y z) p (p_or g s b e y z q r), turn_or x y z)
put_shuffled f (in_or a b c d h k) g s _ (p_or _ _ _ _ x y p q) =
    let v = put_shuffled f h g s x p in
    let w = put_shuffled f k g s y q in
    (or v.0 w.0, p_or g s c d v.0 w.0 v.1 w.1, in_or x y v.0 w.0 v.2 w.2)
put_shuffled f (in_all u a b h) g s _ (p_all _ _ _ _ c p) =
    let v = put_shuffled f h (universal u ∷ g) (up s) c p in
    (all u v.0, p_all g s u b v.0 v.1, in_all u c v.0 v.2)
put_shuffled f (in_ex e a b h) g s _ (p_keep _ _ _ _ c k p) =
    let v = put_shuffled f h (existential ∷ g) (up s) c p in
    (ex e v.0, p_keep g s e b v.0 k v.1, in_ex e c v.0 v.2)
put_shuffled f (in_ex e a b h) g s c (p_put _ _ _ _ _ symbol args ys k fits p) =
    let v = put_shuffled f h g (with_term (applied symbol ys) s) c p in
    (v.0, p_put g s e b v.0 symbol args ys k (fits_body (bare b) (free_shuffled h) fits) v.1, v.2)

-- ---- other numbers

abbrev pub relabelled : (ℕ → ℕ) → (ℕ → ℕ) → Numbered → Numbered
relabelled p q yes = yes
relabelled p q no = no
relabelled p q (lit l) = lit l
relabelled p q (and a b) = and (relabelled p q a) (relabelled p q b)
relabelled p q (or a b) = or (relabelled p q a) (relabelled p q b)
relabelled p q (all u a) = all (p u) (relabelled p q a)
relabelled p q (ex e a) = ex (q e) (relabelled p q a)

abbrev pub kept_as : (ℕ → ℕ) → Kept → Kept
kept_as p (universal n) = universal (p n)
kept_as p existential = existential
kept_as p outside = outside

abbrev pub moved : (ℕ → ℕ) → Fate → Fate
moved p stays = stays
moved p (goes symbol args) = goes symbol (map p args)

-- the numbers of universals have the one property, and those of existentials the other
abbrev pub HasNumbers : (ℕ → Type 0) → (ℕ → Type 0) → Numbered → Type 0
HasNumbers P Q yes = Unit {0}
HasNumbers P Q no = Unit {0}
HasNumbers P Q (lit l) = Unit {0}
HasNumbers P Q (and a b) = HasNumbers P Q a × HasNumbers P Q b
HasNumbers P Q (or a b) = HasNumbers P Q a × HasNumbers P Q b
HasNumbers P Q (all u a) = P u × HasNumbers P Q a
HasNumbers P Q (ex e a) = Q e × HasNumbers P Q a

pub bare_relabelled : (p q : ℕ → ℕ) (a : Numbered) → bare (relabelled p q a) ≡ bare a
bare_relabelled p q yes = refl
bare_relabelled p q no = refl
bare_relabelled p q (lit l) = refl
bare_relabelled p q (and a b) = cc (bare_relabelled p q a, bare_relabelled p q b)
bare_relabelled p q (or a b) = cc (bare_relabelled p q a, bare_relabelled p q b)
bare_relabelled p q (all u a) = cc (bare_relabelled p q a)
bare_relabelled p q (ex e a) = cc (bare_relabelled p q a)

binder_as : (p : ℕ → ℕ) (g : List Kept) (y : ℕ) → binder (map (kept_as p) g) y ≡ kept_as p (binder g y)
binder_as p [] y = refl
binder_as p (x ∷ g) zero = refl
binder_as p (x ∷ g) (suc y) = binder_as p g y

binders_as : (p : ℕ → ℕ) (g : List Kept) (ys args : List ℕ) → map (binder g) ys ≡ map universal args → map (binder (map (kept_as p) g)) ys ≡ map universal (map p args)
binders_as p g [] [] h = refl
binders_as p g [] (n ∷ args) h = cc
binders_as p g (y ∷ ys) [] h = cc
binders_as p g (y ∷ ys) (n ∷ args) h =
    let e : binder g y ≡ universal n = cc in
    let r : map (binder g) ys ≡ map universal args = cc in
    ap₂ (λ a b. a ∷ b) (binder_as p g y ∙ ap (kept_as p) e) (binders_as p g ys args r)

outside_as : (p : ℕ → ℕ) (x : Kept) → is_outside (kept_as p x) ≡ is_outside x
outside_as p (universal n) = refl
outside_as p existential = refl
outside_as p outside = refl

distinct_map : (h : ℕ → ℕ) (l : List ℕ) → are_distinct (map h l) ≡ true → are_distinct l ≡ true
distinct_map h [] w = refl
distinct_map h (n ∷ l) w =
    let parts = and_parts (not (has_number (map h l) (h n))) (are_distinct (map h l)) w in
    and_from (not (has_number l n)) (are_distinct l) (not_by (has_number l n) (λ v. not_both (has_number (map h l) (h n)) parts.0 (has_map h l n v))) (distinct_map h l parts.1)

-- the numbers around come back
abbrev pub Back : (ℕ → ℕ) → (ℕ → ℕ) → List Kept → Type 0
Back p r g = (y n : ℕ) → binder g y ≡ universal n → r (p n) ≡ n

come_back : (p r : ℕ → ℕ) (g : List Kept) → Back p r g → (ys args : List ℕ) → map (binder g) ys ≡ map universal args → map r (map p args) ≡ args
come_back p r g b [] [] h = refl
come_back p r g b [] (n ∷ args) h = cc
come_back p r g b (y ∷ ys) [] h = cc
come_back p r g b (y ∷ ys) (n ∷ args) h =
    let e : binder g y ≡ universal n = cc in
    let t : map (binder g) ys ≡ map universal args = cc in
    ap₂ (λ a l. a ∷ l) (b y n e) (come_back p r g b ys args t)

back_universal : (p r : ℕ → ℕ) (g : List Kept) (u : ℕ) → r (p u) ≡ u → Back p r g → Back p r (universal u ∷ g)
back_universal p r g u h b zero n w = let e : u ≡ n = cc in subst (λ x. r (p x) ≡ x) e h
back_universal p r g u h b (suc y) n w = b y n w

back_existential : (p r : ℕ → ℕ) (g : List Kept) → Back p r g → Back p r (existential ∷ g)
back_existential p r g b zero n w = cc
back_existential p r g b (suc y) n w = b y n w

fits_as : (p r : ℕ → ℕ) (g : List Kept) (s : ℕ → Term) (args ys : List ℕ) (a b : Form) → Back p r g → b ≡ a → FitsEntry g s args ys a → FitsEntry (map (kept_as p) g) s (map p args) ys b
fits_as p r g s args ys a b back same fits = record {
  universals = binders_as p g ys args fits.universals;
  once = distinct_map r (map p args) (ap are_distinct (come_back p r g back ys args fits.universals) ∙ fits.once);
  covered = λ k i h t o. fits.covered k i (ap (free (suc k)) (sym same) ∙ h) t (sym (ap is_outside (binder_as p g i) ∙ outside_as p (binder g i)) ∙ o);
}

-- a form with other numbers has the image with other numbers, where these come back and the fates agree
pub put_relabelled : (f f' : ℕ → Fate) (p q r : ℕ → ℕ) {g : List Kept} {s : ℕ → Term} {a c : Numbered} → Put f g s a c → Back p r g
    → HasNumbers (λ n. r (p n) ≡ n) (λ e. f' (q e) ≡ moved p (f e)) a → Put f' (map (kept_as p) g) s (relabelled p q a) (relabelled p q c)
put_relabelled f f' p q r (p_yes g s) b w = p_yes (map (kept_as p) g) s
put_relabelled f f' p q r (p_no g s) b w = p_no (map (kept_as p) g) s
put_relabelled f f' p q r (p_lit g s l) b w = p_lit (map (kept_as p) g) s l
put_relabelled f f' p q r (p_and g s a c x y h k) b w = p_and _ s _ _ _ _ (put_relabelled f f' p q r h b w.0) (put_relabelled f f' p q r k b w.1)
put_relabelled f f' p q r (p_or g s a c x y h k) b w = p_or _ s _ _ _ _ (put_relabelled f f' p q r h b w.0) (put_relabelled f f' p q r k b w.1)
put_relabelled f f' p q r (p_all g s u a c h) b w = p_all _ s (p u) _ _ (put_relabelled f f' p q r h (back_universal p r g u w.0 b) w.1)
put_relabelled f f' p q r (p_keep g s e a c t h) b w = p_keep _ s (q e) _ _ (w.0 ∙ ap (moved p) t) (put_relabelled f f' p q r h (back_existential p r g b) w.1)
put_relabelled f f' p q r (p_put g s e a c symbol args ys t fits h) b w =
    p_put _ s (q e) _ _ symbol (map p args) ys (w.0 ∙ ap (moved p) t) (fits_as p r g s args ys (bare a) (bare (relabelled p q a)) b (bare_relabelled p q a) fits) (put_relabelled f f' p q r h b w.1)
