-- Maps of images as fates of numbers.
use Rattle.std.proofs.Common.{◌≡◌, ◌<◌, ◌≤◌, ℕ, zero, suc, ◌+◌, nat_eq, Bool, true, false, List, [], ◌∷◌, ◌++◌, cond, refl, sym, ap, ap₂, ◌∙◌, subst, arith, eq-eqb}
use Rattle.dk_syntax.specs.declared.Term.{Term}
use Rattle.normal_form.specs.Forms.{Form, alls, exs, free}
use Rattle.normal_form.specs.Forms as form
use Rattle.step_skolem.specs.Images.{Kept, entry, Image, i_yes, i_no, i_lit, i_and, i_or, i_all, i_keep, i_put, universal, existential}
use Rattle.normal_form.specs.Sorting.{Numbered, yes, no, lit, and, or, all, ex, bare, numbered_from}
use Rattle.step_skolem.specs.declared.map.SkEntry.{SkEntry}
use Rattle.step_skolem.specs.Substitutions.{applied, up, with_term}
use Rattle.step_skolem.proofs.Numbers.{apart}
use Rattle.normal_form.proofs.FormLaws.{bare_numbered}
use Rattle.step_skolem.proofs.Puts.{Fate, stays, goes, Put, p_yes, p_no, p_lit, p_and, p_or, p_all, p_keep, p_put, fits_body}

abbrev pub fate : List SkEntry → ℕ → Fate
fate [] e = stays
fate (one ∷ rest) e = cond (nat_eq one.ex e) (goes one.symbol one.args) (fate rest e)

abbrev pub or_fate : Fate → Fate → Fate
or_fate stays y = y
or_fate (goes symbol args) y = goes symbol args

or_stays : (x : Fate) → or_fate x stays ≡ x
or_stays stays = refl
or_stays (goes symbol args) = refl

fate_append : (m n : List SkEntry) (k : ℕ) → fate (m ++ n) k ≡ or_fate (fate m k) (fate n k)
fate_append [] n k = refl
fate_append (one ∷ m) n k = by_test (nat_eq one.ex k) (fate_append m n k)
  where
    by_test : (t : Bool) → fate (m ++ n) k ≡ or_fate (fate m k) (fate n k) → cond t (goes one.symbol one.args) (fate (m ++ n) k) ≡ or_fate (cond t (goes one.symbol one.args) (fate m k)) (fate n k)
    by_test true h = refl
    by_test false h = h

-- a map says nothing of numbers beyond the form's
pub fate_beyond : {g : List Kept} {s : ℕ → Term} {u e : ℕ} {n : Form} {m : List SkEntry} {n' : Form} → Image g s u e n m n'
    → (k : ℕ) → (e ≤ k → exs n + e ≤ k) → fate m k ≡ stays
fate_beyond (i_yes g s u e) k h = refl
fate_beyond (i_no g s u e) k h = refl
fate_beyond (i_lit g s u e l) k h = refl
fate_beyond (i_and g s u e a b m n c d p q) k h =
    fate_append m n k ∙ ap₂ or_fate (fate_beyond p k (λ w. let v = h w in omega arith)) (fate_beyond q k (λ w. let v = h (omega arith) in omega arith))
fate_beyond (i_or g s u e a b m n c d p q) k h =
    fate_append m n k ∙ ap₂ or_fate (fate_beyond p k (λ w. let v = h w in omega arith)) (fate_beyond q k (λ w. let v = h (omega arith) in omega arith))
fate_beyond (i_all g s u e b m d p) k h = fate_beyond p k h
fate_beyond (i_keep g s u e b m d p) k h = fate_beyond p k (λ w. let v = h (omega arith) in omega arith)
fate_beyond (i_put g s u e b m d symbol args ys fits p) k h =
    ap (λ t. cond t (goes symbol args) (fate m k)) (apart e k (λ w. let v = h (omega arith) in omega arith))
    ∙ fate_beyond p k (λ w. let v = h (omega arith) in omega arith)

-- a map puts the numbered form where its fates say
pub image_put : (f : ℕ → Fate) {g : List Kept} {s : ℕ → Term} {u e : ℕ} {n : Form} {m : List SkEntry} {n' : Form} → Image g s u e n m n'
    → ((k : ℕ) → e ≤ k → k < exs n + e → f k ≡ fate m k) → (c : Numbered) × Put f g s (numbered_from u e n) c × (bare c ≡ n')
image_put f (i_yes g s u e) w = (yes, p_yes g s, refl)
image_put f (i_no g s u e) w = (no, p_no g s, refl)
image_put f (i_lit g s u e l) w = (lit _, p_lit g s l, refl)
image_put f (i_and g s u e a b m n c d p q) w =
    let x = image_put f p (λ k l h. w k l (omega arith) ∙ fate_append m n k ∙ ap (or_fate (fate m k)) (fate_beyond q k (λ v. omega arith)) ∙ or_stays (fate m k)) in
    let y = image_put f q (λ k l h. w k (omega arith) (omega arith) ∙ fate_append m n k ∙ ap (λ z. or_fate z (fate n k)) (fate_beyond p k (λ v. omega arith))) in
    (and x.0 y.0, p_and g s _ _ x.0 y.0 x.1 y.1, ap₂ form.and x.2 y.2)
image_put f (i_or g s u e a b m n c d p q) w =
    let x = image_put f p (λ k l h. w k l (omega arith) ∙ fate_append m n k ∙ ap (or_fate (fate m k)) (fate_beyond q k (λ v. omega arith)) ∙ or_stays (fate m k)) in
    let y = image_put f q (λ k l h. w k (omega arith) (omega arith) ∙ fate_append m n k ∙ ap (λ z. or_fate z (fate n k)) (fate_beyond p k (λ v. omega arith))) in
    (or x.0 y.0, p_or g s _ _ x.0 y.0 x.1 y.1, ap₂ form.or x.2 y.2)
image_put f (i_all g s u e b m d p) w = let x = image_put f p w in (all u x.0, p_all g s u _ x.0 x.1, ap form.all x.2)
image_put f (i_keep g s u e b m d p) w =
    let x = image_put f p (λ k l h. w k (omega arith) (omega arith)) in
    (ex e x.0, p_keep g s e _ x.0 (w e (omega arith) (omega arith) ∙ fate_beyond p e (λ v. omega arith)) x.1, ap form.ex x.2)
image_put f (i_put g s u e b m d symbol args ys fits p) w =
    let x = image_put f p (λ k l h. w k (omega arith) (omega arith) ∙ ap (λ t. cond t (goes symbol args) (fate m k)) (apart e k (λ v. omega arith))) in (
      x.0,
      p_put g s e _ x.0 symbol args ys (w e (omega arith) (omega arith) ∙ ap (λ t. cond t (goes symbol args) (fate m e)) (eq-eqb e e refl))
          (fits_body (bare (numbered_from u (suc e) b)) (λ k. ap (free k) (sym (bare_numbered u (suc e) b))) fits) x.1,
      x.2,
    )

-- ---- the other way

abbrev pub with_fate : ℕ → Fate → List SkEntry → List SkEntry
with_fate e stays l = l
with_fate e (goes symbol args) l = entry e symbol args ∷ l

-- the entries of n existentials from e on
abbrev pub entries_of : (ℕ → Fate) → ℕ → ℕ → List SkEntry
entries_of f e zero = []
entries_of f e (suc n) = with_fate e (f e) (entries_of f (suc e) n)

with_append : (e : ℕ) (x : Fate) (l m : List SkEntry) → with_fate e x (l ++ m) ≡ with_fate e x l ++ m
with_append e stays l m = refl
with_append e (goes symbol args) l m = refl

entries_append : (f : ℕ → Fate) (e n a b d : ℕ) → n ≡ a + b → d ≡ a + e → entries_of f e n ≡ entries_of f e a ++ entries_of f d b
entries_append f e n zero b d h k = let x : n ≡ b = omega arith in let y : e ≡ d = omega arith in ap₂ (entries_of f) y x
entries_append f e zero (suc a) b d h k = absurd (omega arith)
entries_append f e (suc n) (suc a) b d h k =
    ap (with_fate e (f e)) (entries_append f (suc e) n a b d (omega arith) (omega arith)) ∙ with_append e (f e) (entries_of f (suc e) a) (entries_of f d b)

same_map : {g : List Kept} {s : ℕ → Term} {u e : ℕ} {n : Form} {m : List SkEntry} {n' : Form} (k : List SkEntry) → m ≡ k → Image g s u e n m n' → Image g s u e n k n'
same_map {g} {s} {u} {e} {n} {m} {n'} k h p = subst (λ l. Image g s u e n l n') h p

-- what a form is put to, its map leads to
pub put_image : (f : ℕ → Fate) (n : Form) (u e : ℕ) (g : List Kept) (s : ℕ → Term) (c : Numbered) → Put f g s (numbered_from u e n) c
    → Image g s u e n (entries_of f e (exs n)) (bare c)
put_image f form.yes u e g s _ (p_yes _ _) = i_yes g s u e
put_image f form.no u e g s _ (p_no _ _) = i_no g s u e
put_image f (form.lit l) u e g s _ (p_lit _ _ _) = i_lit g s u e l
put_image f (form.and a b) u e g s _ (p_and _ _ _ _ c d p q) =
    same_map (entries_of f e (exs a + exs b)) (sym (entries_append f e (exs a + exs b) (exs a) (exs b) (exs a + e) refl refl))
    (i_and g s u e a b _ _ (bare c) (bare d) (put_image f a u e g s c p) (put_image f b (alls a + u) (exs a + e) g s d q))
put_image f (form.or a b) u e g s _ (p_or _ _ _ _ c d p q) =
    same_map (entries_of f e (exs a + exs b)) (sym (entries_append f e (exs a + exs b) (exs a) (exs b) (exs a + e) refl refl))
    (i_or g s u e a b _ _ (bare c) (bare d) (put_image f a u e g s c p) (put_image f b (alls a + u) (exs a + e) g s d q))
put_image f (form.all a) u e g s _ (p_all _ _ _ _ c p) = i_all g s u e a _ (bare c) (put_image f a (suc u) e (universal u ∷ g) (up s) c p)
put_image f (form.ex a) u e g s _ (p_keep _ _ _ _ c t p) =
    same_map (entries_of f e (suc (exs a))) (ap (λ x. with_fate e x (entries_of f (suc e) (exs a))) (sym t))
    (i_keep g s u e a _ (bare c) (put_image f a u (suc e) (existential ∷ g) (up s) c p))
put_image f (form.ex a) u e g s c (p_put _ _ _ _ _ symbol args ys t fits p) =
    same_map (entries_of f e (suc (exs a))) (ap (λ x. with_fate e x (entries_of f (suc e) (exs a))) (sym t))
    (i_put g s u e a _ (bare c) symbol args ys (fits_body a (λ k. ap (free k) (bare_numbered u (suc e) a)) fits)
    (put_image f a u (suc e) g (with_term (applied symbol ys) s) c p))
