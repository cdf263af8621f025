-- A map leads from a form to one form.
use Rattle.std.proofs.Common.{◌≡◌, ◌<◌, ◌≤◌, ℕ, zero, suc, ◌+◌, nat_eq, false, List, [], ◌∷◌, ◌++◌, map, cond, refl, sym, ap, ap₂, ◌∙◌, subst, arith, append_assoc, append-nil, eq-eqb}
use Rattle.dk_syntax.specs.declared.Term.{Term}
use Rattle.dk_syntax.specs.declared.Term.TheVariants.{Var}
use Rattle.normal_form.specs.Forms.{Form, form_of, nf_of, and, or, all, ex, alls, exs}
use Rattle.step_skolem.specs.Images.{Kept, universal, existential, outside, binder, entry, Image, i_yes, i_no, i_lit, i_and, i_or, i_all, i_keep, i_put, variable_in, starts_at, after_first, first_term, with_left, image_run}
use Rattle.step_skolem.specs.Laws.{ImageIsOne}
use Rattle.normal_form.proofs.FormLaws.{form_is_tree}
use Rattle.step_skolem.specs.Substitutions.{applied, up, with_term}
use Rattle.step_skolem.specs.declared.map.SkEntry.{SkEntry}

-- the universals around have numbers below u, each once
abbrev pub Named : ℕ → List Kept → Type 0
Named u [] = Unit {0}
Named u (universal n ∷ g) = (n < u) × Named n g
Named u (existential ∷ g) = Named u g
Named u (outside ∷ g) = Named u g

pub named_up : (u v : ℕ) (g : List Kept) → u ≤ v → Named u g → Named v g
named_up u v [] h w = tt
named_up u v (universal n ∷ g) h w = (omega (arith, w.0), w.1)
named_up u v (existential ∷ g) h w = named_up u v g h w
named_up u v (outside ∷ g) h w = named_up u v g h w

pub differs : (k n : ℕ) → n < k → nat_eq k n ≡ false
differs k n h = grind (arith, h)

pub universal_eq : (k n : ℕ) → universal k ≡ universal n → k ≡ n
universal_eq k n h = cc

found : (g : List Kept) (u : ℕ) → Named u g → (y n : ℕ) → binder g y ≡ universal n → (n < u) × (variable_in g n ≡ y)
found [] u w y n h = cc
found (universal k ∷ g) u w zero n h =
    let q = universal_eq k n h in
    (subst (λ x. x < u) q w.0, ap (λ b. cond b 0 (suc (variable_in g n))) (eq-eqb k n q))
found (universal k ∷ g) u w (suc y) n h =
    let p = found g k w.1 y n h in
    (omega (arith, w.0, p.0), ap (λ b. cond b 0 (suc (variable_in g n))) (differs k n p.0) ∙ ap suc p.1)
found (existential ∷ g) u w zero n h = cc
found (existential ∷ g) u w (suc y) n h = let p = found g u w y n h in (p.0, ap suc p.1)
found (outside ∷ g) u w zero n h = cc
found (outside ∷ g) u w (suc y) n h = let p = found g u w y n h in (p.0, ap suc p.1)

pub first_same : (x y : Kept) (l m : List Kept) → x ∷ l ≡ y ∷ m → x ≡ y
first_same x y l m h = cc

pub rest_same : (x y : Kept) (l m : List Kept) → x ∷ l ≡ y ∷ m → l ≡ m
rest_same x y l m h = cc

all_found : (g : List Kept) (u : ℕ) → Named u g → (ys args : List ℕ) → map (binder g) ys ≡ map universal args → map (variable_in g) args ≡ ys
all_found g u w [] [] h = refl
all_found g u w [] (n ∷ args) h = cc
all_found g u w (y ∷ ys) [] h = cc
all_found g u w (y ∷ ys) (n ∷ args) h =
    ap₂ (λ a b. a ∷ b) (found g u w y n (first_same (binder g y) (universal n) (map (binder g) ys) (map universal args) h)).1
    (all_found g u w ys args (rest_same (binder g y) (universal n) (map (binder g) ys) (map universal args) h))

-- the first entry's number is e or greater
abbrev pub From : ℕ → List SkEntry → Type 0
From e [] = Unit {0}
From e (one ∷ rest) = e ≤ one.ex

pub from_at : (a b : ℕ) (k : List SkEntry) → a ≡ b → From a k → From b k
from_at a b k h w = subst (λ x. From x k) h w

from_down : (e : ℕ) (k : List SkEntry) → From (suc e) k → From e k
from_down e [] w = tt
from_down e (one ∷ rest) w = omega (arith, w)

pub not_at : (e : ℕ) (k : List SkEntry) → From (suc e) k → starts_at e k ≡ false
not_at e [] w = refl
not_at e (one ∷ rest) w = differs one.ex e (omega (arith, w))

-- a map's numbers begin at e
pub image_from : {g : List Kept} {s : ℕ → Term} {u e : ℕ} {n : Form} {m : List SkEntry} {n' : Form} → Image g s u e n m n' → (k : List SkEntry)
    → From (exs n + e) k → From e (m ++ k)
image_from (i_yes g s u e) k h = from_at (0 + e) e k (omega arith) h
image_from (i_no g s u e) k h = from_at (0 + e) e k (omega arith) h
image_from (i_lit g s u e literal) k h = from_at (0 + e) e k (omega arith) h
image_from (i_and g s u e a b m n c d p q) k h =
    subst (λ l. From e l) (sym (append_assoc m n k)) (image_from p (n ++ k) (image_from q k (from_at (exs a + exs b + e) (exs b + (exs a + e)) k (omega arith) h)))
image_from (i_or g s u e a b m n c d p q) k h =
    subst (λ l. From e l) (sym (append_assoc m n k)) (image_from p (n ++ k) (image_from q k (from_at (exs a + exs b + e) (exs b + (exs a + e)) k (omega arith) h)))
image_from (i_all g s u e b m d p) k h = image_from p k h
image_from (i_keep g s u e b m d p) k h = from_down e (m ++ k) (image_from p k (from_at (suc (exs b) + e) (exs b + suc e) k (omega arith) h))
image_from (i_put g s u e b m d symbol args ys fits p) k h = omega arith

pub imaged : {g : List Kept} {s : ℕ → Term} {u e : ℕ} {n : Form} {m : List SkEntry} {n' : Form} → Image g s u e n m n' → Named u g
    → (k : List SkEntry) → From (exs n + e) k → image_run g s u e n (m ++ k) ≡ (n', k)
imaged (i_yes g s u e) w k h = refl
imaged (i_no g s u e) w k h = refl
imaged (i_lit g s u e literal) w k h = refl
imaged (i_and g s u e a b m n c d p q) w k h =
    let far = from_at (exs a + exs b + e) (exs b + (exs a + e)) k (omega arith) h in
    ap (λ l. image_run g s u e (and a b) l) (append_assoc m n k)
    ∙ ap (λ x. with_left (and x.0) (image_run g s (alls a + u) (exs a + e) b x.1)) (imaged p w (n ++ k) (image_from q k far))
    ∙ ap (with_left (and c)) (imaged q (named_up u (alls a + u) g (omega arith) w) k far)
imaged (i_or g s u e a b m n c d p q) w k h =
    let far = from_at (exs a + exs b + e) (exs b + (exs a + e)) k (omega arith) h in
    ap (λ l. image_run g s u e (or a b) l) (append_assoc m n k)
    ∙ ap (λ x. with_left (or x.0) (image_run g s (alls a + u) (exs a + e) b x.1)) (imaged p w (n ++ k) (image_from q k far))
    ∙ ap (with_left (or c)) (imaged q (named_up u (alls a + u) g (omega arith) w) k far)
imaged (i_all g s u e b m d p) w k h = ap (with_left all) (imaged p (omega arith, w) k h)
imaged (i_keep g s u e b m d p) w k h =
    let far = from_at (suc (exs b) + e) (exs b + suc e) k (omega arith) h in
    ap (λ t. cond t (image_run g (with_term (first_term g (m ++ k)) s) u (suc e) b (after_first (m ++ k))) (with_left ex (image_run (existential ∷ g) (up s) u (suc e) b (m ++ k))))
    (not_at e (m ++ k) (image_from p k far))
    ∙ ap (with_left ex) (imaged p w k far)
imaged (i_put g s u e b m d symbol args ys fits p) w k h =
    let far = from_at (suc (exs b) + e) (exs b + suc e) k (omega arith) h in
    ap (λ t. cond t (image_run g (with_term (applied symbol (map (variable_in g) args)) s) u (suc e) b (m ++ k)) (with_left ex (image_run (existential ∷ g) (up s) u (suc e) b (entry e symbol args ∷ (m ++ k)))))
    (eq-eqb e e refl)
    ∙ ap (λ l. image_run g (with_term (applied symbol l) s) u (suc e) b (m ++ k)) (all_found g u w ys args fits.universals)
    ∙ imaged p w k far

-- the image under a map is one form
image_is : (n n' : Form) (m : List SkEntry) → Image [] Var 0 0 n m n' → (image_run [] Var 0 0 n m).0 ≡ n'
image_is n n' m p = ap (λ l. (image_run [] Var 0 0 n l).0) (sym (append-nil m)) ∙ ap (λ x. x.0) (imaged p tt [] tt)

pub image_is_one : ImageIsOne
image_is_one n n' entries p = ap nf_of (image_is (form_of n) (form_of n') entries p) ∙ form_is_tree n'
