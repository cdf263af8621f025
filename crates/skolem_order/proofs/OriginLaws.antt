-- What a map of a Skolem image says of the existentials that it replaces.
use Rattle.std.proofs.Common.{◌≡◌, ℕ, zero, suc, ◌+◌, nat_eq, true, false, List, [], ◌∷◌, map, refl, sym, ap, ap₂, subst, ◌∙◌, ◌⊎◌, inl, inr, ⊎_elim, eq-eqb}
use Rattle.std.specs.List.{Contains}
use Rattle.std.proofs.lemmas.Bool.{eqb-true, or_cases, or_left, or_right}
use Rattle.std.proofs.lemmas.List.Elements.{Contains-append_cases, Contains-append_left, Contains-append_right}
use Rattle.dk_syntax.proofs.ListLaws.{ForEach, for_each}
use Rattle.dk_syntax.proofs.SubstitutionLaws.{has_variable-Any, has_variable-App, has_variable-Var, substituted-App, substituted-Var}
use Rattle.dk_syntax.proofs.TermLaws.{term_induction}
use Rattle.dk_syntax.specs.Terms.{any_true, has_variable, substituted}
use Rattle.dk_syntax.specs.declared.SymKey.{SymKey}
use Rattle.dk_syntax.specs.declared.Term.{App, Term, Var}
use Rattle.normal_form.specs.ClauseLists.{has_number}
use Rattle.normal_form.specs.Forms.{Form}
use Rattle.normal_form.specs.Forms as plain
use Rattle.skolem_order.proofs.DropLaws.{Drops, d_all, d_and, d_ex, d_lit, d_no, d_or, d_vacuous, d_yes, drops_alls, drops_exs, past, renaming, under}
use Rattle.skolem_order.proofs.LabelLaws.{Labelled, free_in, l_all, l_ex, l_joined, l_vacuous}
use Rattle.skolem_order.proofs.ListFacts.{contains_cases, contains_first, contains_rest, none_in_nil}
use Rattle.skolem_order.specs.Covers.{Covered, Good, IsAt}
use Rattle.skolem_order.specs.SignedForms.{SignedForm, ex, exs}
use Rattle.skolem_order.specs.Spots.{Spot, Stands, s_all, s_below, s_here, s_left, s_right, s_vacuous, spot}
use Rattle.skolem_order.specs.declared.walk.Around.{Around}
use Rattle.skolem_order.specs.declared.walk.Around.TheVariants.{Existential, Universal, Vacant}
use Rattle.step_skolem.specs.Images.{FitsEntry, Image, Kept, binder, entry, existential, i_all, i_and, i_keep, i_lit, i_no, i_or, i_put, i_yes, is_outside, universal}
use Rattle.step_skolem.specs.Substitutions.{applied, shifted, up, with_term}
use Rattle.step_skolem.specs.declared.SkEntry.{SkEntry}

-- ---- what the substitution has for a quantifier around

-- a variable of the image for a universal and for a kept existential, and for a replaced one the symbol at the variables of
-- its universals
abbrev Linked : List SkEntry → List Kept → Around → Term → Type 0
Linked m g (Universal n) t = (j : ℕ) × (t ≡ Var j) × (binder g j ≡ universal n)
Linked m g (Existential e) t =
    ((j : ℕ) × (t ≡ Var j) × (binder g j ≡ existential))
    ⊎ ((x : SymKey) × (args : List ℕ) × (ys : List ℕ) × Contains m (entry e x args) × (t ≡ applied x ys) × (map (binder g) ys ≡ map universal args))
Linked m g Vacant t = Unit {0}

abbrev Links : List SkEntry → List Kept → List Around → (ℕ → ℕ) → (ℕ → Term) → Type 0
Links m g h r s = (k : ℕ) (a : Around) → IsAt h k a → Linked m g a (s (r k))

map_binder : (x : Kept) (g : List Kept) (ys : List ℕ) → map (binder (x ∷ g)) (map (λ n. suc n) ys) ≡ map (binder g) ys
map_binder x g [] = refl
map_binder x g (y ∷ ys) = ap (λ l. binder g y ∷ l) (map_binder x g ys)

shifted_variables : (ys : List ℕ) → map (substituted (λ k. Var (suc k))) (map Var ys) ≡ map Var (map (λ n. suc n) ys)
shifted_variables [] = refl
shifted_variables (y ∷ ys) = ap₂ (λ x xs. x ∷ xs) (substituted-Var (λ k. Var (suc k)) y) (shifted_variables ys)

shifted_applied : (x : SymKey) (ys : List ℕ) → shifted (applied x ys) ≡ applied x (map (λ n. suc n) ys)
shifted_applied x ys = substituted-App (λ k. Var (suc k)) x (map Var ys) ∙ ap (App x) (shifted_variables ys)

linked_up : (m : List SkEntry) (g : List Kept) (y : Kept) (a : Around) (t : Term) → Linked m g a t → Linked m (y ∷ g) a (shifted t)
linked_up m g y (Universal n) t w = (suc w.0, ap shifted w.1 ∙ substituted-Var (λ k. Var (suc k)) w.0, w.2)
linked_up m g y (Existential e) t w =
    ⊎_elim (λ l. inl (suc l.0, ap shifted l.1 ∙ substituted-Var (λ k. Var (suc k)) l.0, l.2))
    (λ r. inr (r.0, r.1, map (λ n. suc n) r.2, r.3, ap shifted r.4 ∙ shifted_applied r.0 r.2, map_binder y g r.2 ∙ r.5)) w
linked_up m g y Vacant t w = tt

links_up : (m : List SkEntry) (g : List Kept) (h : List Around) (r : ℕ → ℕ) (s : ℕ → Term) (y : Kept) (a : Around) → Linked m (y ∷ g) a (Var 0) → Links m g h r s
    → Links m (y ∷ g) (a ∷ h) (under r) (up s)
links_up m g h r s y a here w zero b q = subst (λ x. Linked m (y ∷ g) x (Var 0)) q here
links_up m g h r s y a here w (suc k) b q = linked_up m g y b (s (r k)) (w k b q)

links_put : (m : List SkEntry) (g : List Kept) (h : List Around) (r : ℕ → ℕ) (s : ℕ → Term) (t : Term) (a : Around) → Linked m g a t → Links m g h r s
    → Links m g (a ∷ h) (under r) (with_term t s)
links_put m g h r s t a here w zero b q = subst (λ x. Linked m g x t) q here
links_put m g h r s t a here w (suc k) b q = w k b q

links_past : (m : List SkEntry) (g : List Kept) (h : List Around) (r : ℕ → ℕ) (s : ℕ → Term) → Links m g h r s → Links m g (Vacant ∷ h) (past r) s
links_past m g h r s w zero b q = subst (λ x. Linked m g x (s 0)) q tt
links_past m g h r s w (suc k) b q = w k b q

-- ---- numbers and variables

first_kept : (x y : Kept) (l m : List Kept) → x ∷ l ≡ y ∷ m → x ≡ y
first_kept x y l m h = cc

rest_kept : (x y : Kept) (l m : List Kept) → x ∷ l ≡ y ∷ m → l ≡ m
rest_kept x y l m h = cc

own_number : (n : ℕ) (rest : List ℕ) → has_number (n ∷ rest) n ≡ true
own_number n rest = or_left (nat_eq n n) (has_number rest n) (eq-eqb n n refl)

-- a variable of the list is a universal's of the arguments
number_of : (g : List Kept) (ys args : List ℕ) (j : ℕ) → map (binder g) ys ≡ map universal args → has_number ys j ≡ true → (n : ℕ) × (binder g j ≡ universal n) × (has_number args n ≡ true)
number_of g [] args j h i = cc
number_of g (y ∷ ys) [] j h i = cc
number_of g (y ∷ ys) (n ∷ args) j h i =
    ⊎_elim (λ e. (n, ap (binder g) (sym (eqb-true y j e)) ∙ first_kept (binder g y) (universal n) (map (binder g) ys) (map universal args) h, own_number n args))
    (λ e. let r = number_of g ys args j (rest_kept (binder g y) (universal n) (map (binder g) ys) (map universal args) h) e in
    (r.0, r.1, or_right (nat_eq n r.0) (has_number args r.0) r.2)) (or_cases (nat_eq y j) (has_number ys j) i)

-- a universal of the arguments has a variable of the list
variable_of : (g : List Kept) (ys args : List ℕ) (n : ℕ) → map (binder g) ys ≡ map universal args → has_number args n ≡ true → (y : ℕ) × (binder g y ≡ universal n) × (has_number ys y ≡ true)
variable_of g ys [] n h i = cc
variable_of g [] (k ∷ args) n h i = cc
variable_of g (y ∷ ys) (k ∷ args) n h i =
    ⊎_elim (λ e. (y, first_kept (binder g y) (universal k) (map (binder g) ys) (map universal args) h ∙ ap universal (eqb-true k n e), own_number y ys))
    (λ e. let r = variable_of g ys args n (rest_kept (binder g y) (universal k) (map (binder g) ys) (map universal args) h) e in
    (r.0, r.1, or_right (nat_eq y r.0) (has_number ys r.0) r.2)) (or_cases (nat_eq k n) (has_number args n) i)

own_variable : (j : ℕ) → has_variable j (Var j) ≡ true
own_variable j = has_variable-Var j j ∙ eq-eqb j j refl

in_variables : (y : ℕ) (ys : List ℕ) → has_number ys y ≡ true → any_true (map (has_variable y) (map Var ys)) ≡ true
in_variables y [] h = cc
in_variables y (z ∷ ys) h =
    ⊎_elim (λ e. or_left (has_variable y (Var z)) (any_true (map (has_variable y) (map Var ys))) (has_variable-Var y z ∙ e))
    (λ e. or_right (has_variable y (Var z)) (any_true (map (has_variable y) (map Var ys))) (in_variables y ys e)) (or_cases (nat_eq z y) (has_number ys y) h)

in_applied : (y : ℕ) (x : SymKey) (ys : List ℕ) → has_number ys y ≡ true → has_variable y (applied x ys) ≡ true
in_applied y x ys h = has_variable-App y x (map Var ys) ∙ in_variables y ys h

-- ---- a replaced existential is covered

universal_same : (k n : ℕ) → universal k ≡ universal n → k ≡ n
universal_same k n e = cc

good : (m : List SkEntry) (g : List Kept) (s : ℕ → Term) (args ys : List ℕ) (c : Form) (k : ℕ) (a : Around) → FitsEntry g s args ys c → plain.free (suc k) c ≡ true
    → Linked m g a (s k) → Good m args a
good m g s args ys c k (Universal n) fits i w =
    let in_ys = fits.covered k w.0 i (ap (has_variable w.0) w.1 ∙ own_variable w.0) (ap is_outside w.2) in
    let p = number_of g ys args w.0 fits.universals in_ys in
    subst (λ y. has_number args y ≡ true) (universal_same p.0 n (sym p.1 ∙ w.2)) p.2
good m g s args ys c k (Existential e) fits i w = ⊎_elim (λ l. absurd (kept l)) (λ r. (r.0, r.1, r.3, λ n j. replaced r n j)) w
  where
    clash : (n : ℕ) → existential ≡ universal n → ⊥
    clash n x = cc

    kept : ((j : ℕ) × (s k ≡ Var j) × (binder g j ≡ existential)) → ⊥
    kept l =
        let in_ys = fits.covered k l.0 i (ap (has_variable l.0) l.1 ∙ own_variable l.0) (ap is_outside l.2) in
        let p = number_of g ys args l.0 fits.universals in_ys in clash p.0 (sym l.2 ∙ p.1)

    replaced : (r : (x : SymKey) × (l : List ℕ) × (zs : List ℕ) × Contains m (entry e x l) × (s k ≡ applied x zs) × (map (binder g) zs ≡ map universal l))
        → (n : ℕ) → has_number r.1 n ≡ true → has_number args n ≡ true
    replaced r n j =
        let v = variable_of g r.2 r.1 n r.5 j in
        let in_ys = fits.covered k v.0 i (ap (has_variable v.0) r.4 ∙ in_applied v.0 r.0 r.2 v.2) (ap is_outside v.1) in
        let p = number_of g ys args v.0 fits.universals in_ys in
        subst (λ y. has_number args y ≡ true) (universal_same p.0 n (sym p.1 ∙ v.1)) p.2
good m g s args ys c k Vacant fits i w = tt

-- ---- what is free in the signed form is free in the normal form

abbrev Stays : (ℕ → ℕ) → ℕ → Term → Type 0
Stays r k t = has_variable k t ≡ true → has_variable (r k) (substituted (renaming r) t) ≡ true

args_stay : (r : ℕ → ℕ) (k : ℕ) (args : List Term) → ForEach (Stays r k) args → any_true (map (has_variable k) args) ≡ true
    → any_true (map (has_variable (r k)) (map (substituted (renaming r)) args)) ≡ true
args_stay r k [] h i = i
args_stay r k (t ∷ args) h i =
    ⊎_elim (λ e. or_left (has_variable (r k) (substituted (renaming r) t)) (any_true (map (has_variable (r k)) (map (substituted (renaming r)) args))) (h.0 e))
    (λ e. or_right (has_variable (r k) (substituted (renaming r) t)) (any_true (map (has_variable (r k)) (map (substituted (renaming r)) args))) (args_stay r k args h.1 e))
    (or_cases (has_variable k t) (any_true (map (has_variable k) args)) i)

term_stays : (r : ℕ → ℕ) (k : ℕ) (t : Term) → Stays r k t
term_stays r k = term_induction (Stays r k)
    (λ n i. let e : n ≡ k = eqb-true n k (sym (has_variable-Var k n) ∙ i) in
    ap (has_variable (r k)) (substituted-Var (renaming r) n) ∙ subst (λ j. has_variable (r k) (Var (r j)) ≡ true) (sym e) (own_variable (r k)))
    (λ f args h i. ap (has_variable (r k)) (substituted-App (renaming r) f args) ∙ has_variable-App (r k) f (map (substituted (renaming r)) args)
    ∙ args_stay r k args h (sym (has_variable-App k f args) ∙ i))
    (λ i. let e = sym (has_variable-Any k) ∙ i in cc)

pub drops_free : {r : ℕ → ℕ} {n : SignedForm} {m : Form} → Drops r n m → (k : ℕ) → free_in k n ≡ true → plain.free (r k) m ≡ true
drops_free (d_yes r) k i = cc
drops_free (d_no r) k i = cc
drops_free (d_lit r l) k i = args_stay r k l.args (for_each (Stays r k) (term_stays r k) l.args) i
drops_free (d_and r a b c d x y) k i =
    ⊎_elim (λ e. or_left (plain.free (r k) c) (plain.free (r k) d) (drops_free x k e)) (λ e. or_right (plain.free (r k) c) (plain.free (r k) d) (drops_free y k e)) (or_cases (free_in k a) (free_in k b) i)
drops_free (d_or r a b c d x y) k i =
    ⊎_elim (λ e. or_left (plain.free (r k) c) (plain.free (r k) d) (drops_free x k e)) (λ e. or_right (plain.free (r k) c) (plain.free (r k) d) (drops_free y k e)) (or_cases (free_in k a) (free_in k b) i)
drops_free (d_all r a c x) k i = drops_free x (suc k) i
drops_free (d_ex r sign f a c x) k i = drops_free x (suc k) i
drops_free (d_vacuous r a c x) k i = drops_free x (suc k) i

-- ---- each entry of a map stands for an existential

abbrev HasSpot : List SkEntry → SignedForm → List Around → ℕ → ℕ → SkEntry → Type 0
HasSpot m n h u e one = (o : Spot) × Stands n h u e one.ex o × Covered m one.args o

-- each entry of a map stands for an existential of the form, and each variable that occurs in its formula belongs to a
-- universal of the entry's, or to an existential that the map replaces by a term over these
pub entry_spot : {r : ℕ → ℕ} {n : SignedForm} {c : Form} → Drops r n c → Labelled n → {g : List Kept} {s : ℕ → Term} {u e : ℕ} {l : List SkEntry} {d : Form} → Image g s u e c l d
    → (m : List SkEntry) → ((one : SkEntry) → Contains l one → Contains m one) → (h : List Around) → Links m g h r s → (one : SkEntry) → Contains l one → HasSpot m n h u e one
entry_spot (d_yes r) lab (i_yes g s u e) m w h z one k = absurd (none_in_nil one k)
entry_spot (d_no r) lab (i_no g s u e) m w h z one k = absurd (none_in_nil one k)
entry_spot (d_lit r l) lab (i_lit g s u e _) m w h z one k = absurd (none_in_nil one k)
entry_spot (d_and r a b c d x y) (l_joined _ _ _ la lb) (i_and g s u e _ _ l n _ _ p q) m w h z one k =
    ⊎_elim (λ j. let t = entry_spot x la p m (λ f i. w f (Contains-append_left l n f i)) h z one j in (t.0, s_left h u e one.ex true a b t.0 t.1, t.2))
    (λ j. let t = entry_spot y lb q m (λ f i. w f (Contains-append_right l n f i)) h z one j in
    (t.0, s_right h u e one.ex true a b t.0 (subst (λ v. Stands b h (v + u) (exs a + e) one.ex t.0) (drops_alls x) (subst (λ v. Stands b h (plain.alls c + u) (v + e) one.ex t.0) (drops_exs x) t.1)), t.2))
    (Contains-append_cases l n one k)
entry_spot (d_or r a b c d x y) (l_joined _ _ _ la lb) (i_or g s u e _ _ l n _ _ p q) m w h z one k =
    ⊎_elim (λ j. let t = entry_spot x la p m (λ f i. w f (Contains-append_left l n f i)) h z one j in (t.0, s_left h u e one.ex false a b t.0 t.1, t.2))
    (λ j. let t = entry_spot y lb q m (λ f i. w f (Contains-append_right l n f i)) h z one j in
    (t.0, s_right h u e one.ex false a b t.0 (subst (λ v. Stands b h (v + u) (exs a + e) one.ex t.0) (drops_alls x) (subst (λ v. Stands b h (plain.alls c + u) (v + e) one.ex t.0) (drops_exs x) t.1)), t.2))
    (Contains-append_cases l n one k)
entry_spot (d_all r a c x) (l_all _ la) (i_all g s u e _ l d p) m w h z one k =
    let t = entry_spot x la p m w (Universal u ∷ h) (links_up m g h r s (universal u) (Universal u) (0, refl, refl) z) one k in
    (t.0, s_all h u e one.ex a t.0 t.1, t.2)
entry_spot (d_ex r sign f a c x) (l_ex _ _ _ lf la) (i_keep g s u e _ l d p) m w h z one k =
    let t = entry_spot x la p m w (Existential e ∷ h) (links_up m g h r s existential (Existential e) (inl (0, refl, refl)) z) one k in
    (t.0, s_below h u e one.ex sign f a t.0 t.1, t.2)
entry_spot (d_ex r sign f a c x) (l_ex _ _ _ lf la) (i_put g s u e _ l d symbol args ys fits p) m w h z one k =
    ⊎_elim (λ q. subst (HasSpot m (ex sign f a) h u e) q
    (spot sign f h, s_here h u e sign f a, λ j b i v. good m g s args ys c (r j) b fits (drops_free x (suc j) (lf j i)) (z j b v)))
    (λ j. let own = w (entry e symbol args) (contains_first (entry e symbol args) l) in
    let t = entry_spot x la p m (λ b i. w b (contains_rest (entry e symbol args) l b i)) (Existential e ∷ h)
    (links_put m g h r s (applied symbol ys) (Existential e) (inr (symbol, args, ys, own, refl, fits.universals)) z) one j in
    (t.0, s_below h u e one.ex sign f a t.0 t.1, t.2)) (contains_cases (entry e symbol args) l one k)
entry_spot (d_vacuous r a c x) (l_vacuous _ la) {g = g} {s = s} {u = u} {e = e} image m w h z one k =
    let t = entry_spot x la image m w (Vacant ∷ h) (links_past m g h r s z) one k in
    (t.0, s_vacuous h u e one.ex a t.0 t.1, t.2)

pub top_links : (m : List SkEntry) → Links m [] [] (λ k. k) Var
top_links m k a q = absurd q
