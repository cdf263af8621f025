-- The walk by levels finds the image.
use Rattle.std.proofs.Common.{◌≡◌, ◌<◌, ℕ, zero, suc, ◌+◌, List, [], ◌∷◌, ◌++◌, cond, length, map, refl, sym, ap, ap₂, ◌∙◌, subst, arith, append_assoc, append-nil, eq-eqb}
use Rattle.dk_syntax.specs.Terms.{instance}
use Rattle.dk_syntax.specs.declared.Term.{Term}
use Rattle.normal_form.proofs.FormLaws.{form_is_tree}
use Rattle.normal_form.specs.Forms.{all, alls, and, ex, exs, Form, form_of, lit, nf_of, or}
use Rattle.normal_form.specs.declared.form.Nf.{Nf}
use Rattle.step_skolem.proofs.Levels.{AreBelow, HasLevels, start, steady_under, under, with_replaced}
use Rattle.step_skolem.proofs.OneImage.{differs, first_same, From, from_at, image_from, named_up, Named, not_at, rest_same, universal_eq}
use Rattle.step_skolem.specs.Images.{after_first, binder, entry, existential, i_all, i_and, i_keep, i_lit, i_no, i_or, i_put, i_yes, Image, IsImage, starts_at, universal, with_left}
use Rattle.step_skolem.specs.Images as image
use Rattle.step_skolem.specs.Levels.{denoted, first_replacement, index, kept_of, level_in, ran}
use Rattle.step_skolem.specs.Substitutions.{applied, up, with_term}
use Rattle.step_skolem.specs.declared.map.SkEntry.{SkEntry}
use Rattle.step_skolem.specs.declared.walk.Quantifier.{Quantifier}
use Rattle.step_skolem.specs.declared.walk.Quantifier.TheVariants.{Existential, Universal}
use Rattle.step_skolem.specs.declared.walk.Replacement.{Replacement}
use Rattle.step_skolem.specs.declared.walk.Value.{Value}
use Rattle.step_skolem.specs.declared.walk.Value.TheVariants.{Kept, Replaced}

-- the level of the universal that a variable belongs to
level_found : (kept : List Quantifier) (u : ℕ) → Named u (map kept_of kept) → (y n : ℕ) → binder (map kept_of kept) y ≡ universal n
    → (n < u) × (level_in kept n < length kept) × (index (length kept) (level_in kept n) ≡ y)
level_found [] u w y n h = cc
level_found (Universal k ∷ kept) u w zero n h =
    let q = universal_eq k n h in
    let e : level_in (Universal k ∷ kept) n ≡ length kept = ap (λ b. cond b (length kept) (level_in kept n)) (eq-eqb k n q) in (
      subst (λ x. x < u) q w.0,
      omega (arith, e),
      omega (arith, e),
    )
level_found (Universal k ∷ kept) u w (suc y) n h =
    let p = level_found kept k w.1 y n h in
    let e : level_in (Universal k ∷ kept) n ≡ level_in kept n = ap (λ b. cond b (length kept) (level_in kept n)) (differs k n p.0) in
    (omega (arith, w.0, p.0), omega (arith, e, p.1), omega (arith, e, p.1, p.2))
level_found (Existential ∷ kept) u w zero n h = cc
level_found (Existential ∷ kept) u w (suc y) n h = let p = level_found kept u w y n h in (p.0, omega (arith, p.1), omega (arith, p.1, p.2))

-- the levels of an entry's universals
levels_found : (kept : List Quantifier) (u : ℕ) → Named u (map kept_of kept) → (ys args : List ℕ) → map (binder (map kept_of kept)) ys ≡ map universal args
    → AreBelow (length kept) (map (level_in kept) args) × (map (index (length kept)) (map (level_in kept) args) ≡ ys)
levels_found kept u w [] [] h = (tt, refl)
levels_found kept u w [] (n ∷ args) h = cc
levels_found kept u w (y ∷ ys) [] h = cc
levels_found kept u w (y ∷ ys) (n ∷ args) h =
    let p = level_found kept u w y n (first_same (binder (map kept_of kept) y) (universal n) (map (binder (map kept_of kept)) ys) (map universal args) h) in
    let q = levels_found kept u w ys args (rest_same (binder (map kept_of kept) y) (universal n) (map (binder (map kept_of kept)) ys) (map universal args) h) in
    ((p.1, q.0), ap₂ (λ a b. a ∷ b) p.2 q.1)

-- the walk's image and the entries that are left, where a map begins the entries
runs : {g : List image.Kept} {s : ℕ → Term} {u e : ℕ} {n : Form} {m : List SkEntry} {n' : Form} → Image g s u e n m n'
    → (kept : List Quantifier) (values : List Value) → g ≡ map kept_of kept → s ≡ denoted (length kept) values → HasLevels (length kept) values
    → Named u (map kept_of kept) → (k : List SkEntry) → From (exs n + e) k → ran kept values u e n (m ++ k) ≡ (n', k)
runs (i_yes g s u e) kept values o v l w k h = refl
runs (i_no g s u e) kept values o v l w k h = refl
runs (i_lit g s u e literal) kept values o v l w k h = ap (λ (f : ℕ → Term). (lit (instance f literal), k)) (sym v)
runs (i_and g s u e a b m n c d p q) kept values o v l w k h =
    let far = from_at (exs a + exs b + e) (exs b + (exs a + e)) k (omega arith) h in
    ap (λ x. ran kept values u e (and a b) x) (append_assoc m n k)
    ∙ ap (λ x. with_left (and x.0) (ran kept values (alls a + u) (exs a + e) b x.1)) (runs p kept values o v l w (n ++ k) (image_from q k far))
    ∙ ap (with_left (and c)) (runs q kept values o v l (named_up u (alls a + u) (map kept_of kept) (omega arith) w) k far)
runs (i_or g s u e a b m n c d p q) kept values o v l w k h =
    let far = from_at (exs a + exs b + e) (exs b + (exs a + e)) k (omega arith) h in
    ap (λ x. ran kept values u e (or a b) x) (append_assoc m n k)
    ∙ ap (λ x. with_left (or x.0) (ran kept values (alls a + u) (exs a + e) b x.1)) (runs p kept values o v l w (n ++ k) (image_from q k far))
    ∙ ap (with_left (or c)) (runs q kept values o v l (named_up u (alls a + u) (map kept_of kept) (omega arith) w) k far)
runs (i_all g s u e b m d p) kept values o v l w k h =
    ap (with_left all) (runs p (Universal u ∷ kept) (Kept (length kept) ∷ values) (ap (λ x. universal u ∷ x) o) (ap up v ∙ under (length kept) values l)
    (steady_under (length kept) values l) (omega arith, w) k h)
runs (i_keep g s u e b m d p) kept values o v l w k h =
    let far = from_at (suc (exs b) + e) (exs b + suc e) k (omega arith) h in
    ap (λ t. cond t (ran kept (Replaced (first_replacement kept (m ++ k)) ∷ values) u (suc e) b (after_first (m ++ k)))
    (with_left ex (ran (Existential ∷ kept) (Kept (length kept) ∷ values) u (suc e) b (m ++ k)))) (not_at e (m ++ k) (image_from p k far))
    ∙ ap (with_left ex) (runs p (Existential ∷ kept) (Kept (length kept) ∷ values) (ap (λ x. existential ∷ x) o) (ap up v ∙ under (length kept) values l)
    (steady_under (length kept) values l) w k far)
runs (i_put g s u e b m d symbol args ys fits p) kept values o v l w k h =
    let far = from_at (suc (exs b) + e) (exs b + suc e) k (omega arith) h in
    let r : Replacement = record { symbol = symbol; levels = map (level_in kept) args } in
    let f = levels_found kept u w ys args (ap (λ x. map (binder x) ys) (sym o) ∙ fits.universals) in
    ap (λ t. cond t (ran kept (Replaced r ∷ values) u (suc e) b (m ++ k)) (with_left ex (ran (Existential ∷ kept) (Kept (length kept) ∷ values) u (suc e) b (entry e symbol args ∷ (m ++ k))))) (eq-eqb e e refl)
    ∙ runs p kept (Replaced r ∷ values) o (ap₂ (λ x y. with_term (applied symbol x) y) (sym f.1) v ∙ with_replaced (length kept) r values) (f.0, l) w k far

-- the form that the walk builds is the image
pub run_is_image : (n : Nf) (entries : List SkEntry) (answer image : Nf) → form_of answer ≡ (ran [] [] 0 0 (form_of n) entries).0 → IsImage n entries image → answer ≡ image
run_is_image n entries answer image is p =
    let e : ran [] [] 0 0 (form_of n) (entries ++ []) ≡ (form_of image, []) = runs p [] [] refl (sym start) tt tt [] tt in
    let f : form_of answer ≡ form_of image = is ∙ ap (λ (l : List SkEntry). (ran [] [] 0 0 (form_of n) l).0) (sym (append-nil entries)) ∙ ap (λ (x : Form × List SkEntry). x.0) e in
    sym (form_is_tree answer) ∙ ap nf_of f ∙ form_is_tree image
