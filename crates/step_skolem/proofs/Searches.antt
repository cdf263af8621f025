-- The walk over both forms finds the map of each image, and what it finds is a map of the first form.
use Rattle.std.proofs.Common.{◌≡◌, ◌+◌, ◌-◌, ℕ, zero, suc, Bool, true, false, ◌&&◌, ◌||◌, List, [], ◌∷◌, ◌++◌, length, map, cond, Option, None, Some, refl, sym, ap, ◌∙◌, subst, append_assoc, append-nil, ◌⊎◌, inl, inr}
use Rattle.std.specs.Option.{option_and_then}
use Rattle.std.specs.Prelude.{nat_lt}
use Rattle.std.proofs.lemmas.Bool.{or_right}
use Rattle.dk_syntax.specs.Terms.{instance}
use Rattle.dk_syntax.specs.declared.Term.{Term}
use Rattle.dk_syntax.specs.declared.Term.TheVariants.{Var}
use Rattle.normal_form.proofs.FormLaws.{tree_is_form}
use Rattle.normal_form.specs.FormFacts.{HasNoVacuous}
use Rattle.normal_form.specs.Forms.{all, alls, and, ex, exs, Form, form_of, free, lit, nf_of, no, or, yes}
use Rattle.normal_form.specs.declared.form.Nf.{Nf}
use Rattle.step_skolem.proofs.Fits.{all_covered, and_both, and_left, and_right, covered_has, each_passes, has_covered, levels_back, numbers_found, numbers_sound, some_same}
use Rattle.step_skolem.proofs.Levels.{HasLevels, start, steady_under, under, with_replaced}
use Rattle.step_skolem.proofs.Numbers.{not_first, one_less}
use Rattle.step_skolem.proofs.OneMap.{run_le}
use Rattle.step_skolem.proofs.SeenImages.{applied_read, cond_false, cond_true, keep_test, row_within, seen_image}
use Rattle.step_skolem.specs.Images.{are_distinct, binder, entry, existential, FitsEntry, HasNoImage, i_all, i_and, i_keep, i_lit, i_no, i_or, i_put, i_yes, Image, is_outside, IsImage, universal}
use Rattle.step_skolem.specs.Images as image
use Rattle.step_skolem.specs.Levels.{denoted, kept_of}
use Rattle.step_skolem.specs.Searching.{covers, fit_if, fit_of, fitting, found, if_all, if_and, if_ex, if_or, is_covered, numbers_in, replacement_of, row_le, seen}
use Rattle.step_skolem.specs.Substitutions.{applied, up, with_term}
use Rattle.step_skolem.specs.declared.fitting.Fit.{Fit}
use Rattle.step_skolem.specs.declared.map.SkEntry.{SkEntry}
use Rattle.step_skolem.specs.declared.seeing.Applied.{Applied}
use Rattle.step_skolem.specs.declared.walk.Quantifier.{Quantifier}
use Rattle.step_skolem.specs.declared.walk.Quantifier.TheVariants.{Existential, Universal}
use Rattle.step_skolem.specs.declared.walk.Value.{Value}
use Rattle.step_skolem.specs.declared.walk.Value.TheVariants.{Kept, Replaced}

-- ---- a replaced existential

-- under the levels of a symbol's variables
pub replaced_there : (kept : List Quantifier) (values : List Value) (there : Applied) (args : List ℕ) → map (binder (map kept_of kept)) there.variables ≡ map universal args
    → (HasLevels (length kept) values → HasLevels (length kept) (Replaced (replacement_of (length kept) there) ∷ values))
    × (with_term (applied there.symbol there.variables) (denoted (length kept) values) ≡ denoted (length kept) (Replaced (replacement_of (length kept) there) ∷ values))
replaced_there kept values there args h =
    let back = levels_back kept there.variables args h in (
      (λ l. (back.0, l)),
      ap (λ ys. with_term (applied there.symbol ys) (denoted (length kept) values)) (sym back.1) ∙ with_replaced (length kept) (replacement_of (length kept) there) values,
    )

by_other : (a b : Bool) → (a || b) ≡ true → a ≡ false → b ≡ true
by_other true b h o = cc
by_other false b h o = h

covers_body : (kept : List Quantifier) (values : List Value) (args ys : List ℕ) (b : Form) → HasLevels (length kept) values
    → FitsEntry (map kept_of kept) (denoted (length kept) values) args ys b → covers (is_covered (length kept) values ys) 1 b ≡ true
covers_body kept values args ys b l fits = all_covered b (is_covered (length kept) values ys) 1 passes
  where
    passes : (k : ℕ) → free k b ≡ true → (nat_lt k 1 || is_covered (length kept) values ys (k - 1)) ≡ true
    passes zero h = refl
    passes (suc k) h =
        ap (λ x. nat_lt (suc k) 1 || is_covered (length kept) values ys x) (one_less k)
        ∙ or_right (nat_lt (suc k) 1) (is_covered (length kept) values ys k) (has_covered kept values ys k l (λ i v o. fits.covered k i h v o))

-- the entry that an image has is found to fit
fit_found : (kept : List Quantifier) (values : List Value) (there : Applied) (args : List ℕ) (b : Form) → HasLevels (length kept) values
    → FitsEntry (map kept_of kept) (denoted (length kept) values) args there.variables b → fit_of kept values b there ≡ Some (record { applied = there; args = args })
fit_found kept values there args b l fits =
    ap (option_and_then (λ (found : List ℕ). fit_if (are_distinct found && covers (is_covered (length kept) values there.variables) 1 b) there found))
    (numbers_found kept there.variables args fits.universals)
    ∙ ap (λ t. fit_if t there args) (and_both (are_distinct args) (covers (is_covered (length kept) values there.variables) 1 b) fits.once (covers_body kept values args there.variables b l fits))

-- ---- each map is found

pub complete : {g : List image.Kept} {s : ℕ → Term} {u e : ℕ} {n : Form} {m : List SkEntry} {n' : Form} → Image g s u e n m n' → HasNoVacuous n
    → (kept : List Quantifier) (values : List Value) → g ≡ map kept_of kept → s ≡ denoted (length kept) values → HasLevels (length kept) values
    → (k : List SkEntry) → found kept values u e n n' k ≡ Some (k ++ m)
complete (i_yes g s u e) w kept values o v l k = ap Some (sym (append-nil k))
complete (i_no g s u e) w kept values o v l k = ap Some (sym (append-nil k))
complete (i_lit g s u e literal) w kept values o v l k = ap Some (sym (append-nil k))
complete (i_and g s u e a b m n c d p q) w kept values o v l k =
    ap (option_and_then (found kept values (alls a + u) (exs a + e) b d)) (complete p w.0 kept values o v l k) ∙ complete q w.1 kept values o v l (k ++ m)
    ∙ ap Some (append_assoc k m n)
complete (i_or g s u e a b m n c d p q) w kept values o v l k =
    ap (option_and_then (found kept values (alls a + u) (exs a + e) b d)) (complete p w.0 kept values o v l k) ∙ complete q w.1 kept values o v l (k ++ m)
    ∙ ap Some (append_assoc k m n)
complete (i_all g s u e b m d p) w kept values o v l k =
    complete p w.1 (Universal u ∷ kept) (Kept (length kept) ∷ values) (ap (λ x. universal u ∷ x) o) (ap up v ∙ under (length kept) values l) (steady_under (length kept) values l) k
complete (i_keep g s u e b m d p) w kept values o v l k =
    cond_false _ _ (keep_test s p w.1 w.0)
    ∙ complete p w.1 (Existential ∷ kept) (Kept (length kept) ∷ values) (ap (λ x. existential ∷ x) o) (ap up v ∙ under (length kept) values l) (steady_under (length kept) values l) k
complete (i_put g s u e b m d symbol args ys fits p) w kept values o v l k =
    let there : Applied = record { symbol = symbol; variables = ys } in
    let here : FitsEntry (map kept_of kept) (denoted (length kept) values) args ys b = subst (λ x. FitsEntry x (denoted (length kept) values) args ys b) o (subst (λ x. FitsEntry g x args ys b) v fits) in
    let seen_there : seen 0 0 b d ≡ Some there = seen_image p w.1 0 0 ∙ cond_true _ _ w.0 ∙ applied_read symbol ys in
    let moved = replaced_there kept values there args here.universals in
    cond_true _ _ (row_within d b (run_le p))
    ∙ ap (option_and_then (λ (fit : Fit). found kept (Replaced (replacement_of (length kept) fit.applied) ∷ values) u (suc e) b d (k ++ entry e fit.applied.symbol fit.args ∷ [])))
    (ap (option_and_then (fit_of kept values b)) seen_there ∙ fit_found kept values there args b l here)
    ∙ complete p w.1 kept (Replaced (replacement_of (length kept) there) ∷ values) o (ap (with_term (applied symbol ys)) v ∙ moved.1) (moved.0 l) (k ++ entry e symbol args ∷ [])
    ∙ ap Some (append_assoc k (entry e symbol args ∷ []) m)

-- ---- what is found is a map

then_some : {A B : Type 0} (o : Option A) (h : A → Option B) (y : B) → option_and_then h o ≡ Some y → (x : A) × (o ≡ Some x) × (h x ≡ Some y)
then_some None h y q = cc
then_some (Some x) h y q = (x, refl, q)

cond_cases : {A : Type 0} (b : Bool) (x y z : A) → cond b x y ≡ z → (x ≡ z) ⊎ (y ≡ z)
cond_cases true x y z h = inl h
cond_cases false x y z h = inr h

and_some : {A : Type 0} (h : Form → Form → Option A) (n : Form) (y : A) → if_and h n ≡ Some y → (c : Form) × (d : Form) × (h c d ≡ Some y)
and_some h (and c d) y q = (c, d, q)
and_some h _ y q = cc

or_some : {A : Type 0} (h : Form → Form → Option A) (n : Form) (y : A) → if_or h n ≡ Some y → (c : Form) × (d : Form) × (h c d ≡ Some y)
or_some h (or c d) y q = (c, d, q)
or_some h _ y q = cc

all_some : {A : Type 0} (h : Form → Option A) (n : Form) (y : A) → if_all h n ≡ Some y → (d : Form) × (h d ≡ Some y)
all_some h (all d) y q = (d, q)
all_some h _ y q = cc

ex_some : {A : Type 0} (h : Form → Option A) (n : Form) (y : A) → if_ex h n ≡ Some y → (d : Form) × (h d ≡ Some y)
ex_some h (ex d) y q = (d, q)
ex_some h _ y q = cc

fit_some : (b : Bool) (there : Applied) (args : List ℕ) (fit : Fit) → fit_if b there args ≡ Some fit → (b ≡ true) × ((record { applied = there; args = args }) ≡ fit)
fit_some true there args fit h = (refl, some_same (record { applied = there; args = args }) fit h)
fit_some false there args fit h = cc

passes_free : (kept : List Quantifier) (values : List Value) (ys : List ℕ) (b : Form) (k : ℕ) → covers (is_covered (length kept) values ys) 1 b ≡ true → free (suc k) b ≡ true
    → is_covered (length kept) values ys k ≡ true
passes_free kept values ys b k h f =
    ap (is_covered (length kept) values ys) (sym (one_less k))
    ∙ by_other (nat_lt (suc k) 1) (is_covered (length kept) values ys (suc k - 1)) (each_passes b (is_covered (length kept) values ys) 1 h (suc k) f) (not_first k)

-- a fit has the conditions of an entry
fit_fits : (kept : List Quantifier) (values : List Value) (b n : Form) (fit : Fit) → fitting kept values b n ≡ Some fit
    → FitsEntry (map kept_of kept) (denoted (length kept) values) fit.args fit.applied.variables b
fit_fits kept values b n fit h =
    let x = then_some (seen 0 0 b n) (fit_of kept values b) fit h in
    let y = then_some (numbers_in kept x.0.variables) (λ (found : List ℕ). fit_if (are_distinct found && covers (is_covered (length kept) values x.0.variables) 1 b) x.0 found) fit x.2 in
    let z = fit_some (are_distinct y.0 && covers (is_covered (length kept) values x.0.variables) 1 b) x.0 y.0 fit y.2 in
    subst (λ (f : Fit). FitsEntry (map kept_of kept) (denoted (length kept) values) f.args f.applied.variables b) z.1 (record {
      universals = numbers_sound kept x.0.variables y.0 y.1;
      once = and_left (are_distinct y.0) (covers (is_covered (length kept) values x.0.variables) 1 b) z.0;
      covered = λ k i f v o.
          covered_has kept values x.0.variables k
          (passes_free kept values x.0.variables b k (and_right (are_distinct y.0) (covers (is_covered (length kept) values x.0.variables) 1 b) z.0) f) i v o;
    })

-- the entries after those before are a map that leads from the form
abbrev Leads : List Quantifier → List Value → ℕ → ℕ → Form → List SkEntry → List SkEntry → Type 0
Leads kept values u e n k r = (m : List SkEntry) × (d : Form) × (r ≡ k ++ m) × Image (map kept_of kept) (denoted (length kept) values) u e n m d

pub sound : (n n' : Form) (kept : List Quantifier) (values : List Value) (u e : ℕ) → HasLevels (length kept) values → (k r : List SkEntry) → found kept values u e n n' k ≡ Some r
    → Leads kept values u e n k r
sound yes n' kept values u e l k r h = ([], yes, sym (some_same k r h) ∙ sym (append-nil k), i_yes (map kept_of kept) (denoted (length kept) values) u e)
sound no n' kept values u e l k r h = ([], no, sym (some_same k r h) ∙ sym (append-nil k), i_no (map kept_of kept) (denoted (length kept) values) u e)
sound (lit literal) n' kept values u e l k r h =
    ([], lit (instance (denoted (length kept) values) literal), sym (some_same k r h) ∙ sym (append-nil k), i_lit (map kept_of kept) (denoted (length kept) values) u e literal)
sound (and a b) n' kept values u e l k r h =
    let x = and_some (λ c d. option_and_then (found kept values (alls a + u) (exs a + e) b d) (found kept values u e a c k)) n' r h in
    let y = then_some (found kept values u e a x.0 k) (found kept values (alls a + u) (exs a + e) b x.1) r x.2 in
    let p = sound a x.0 kept values u e l k y.0 y.1 in
    let q = sound b x.1 kept values (alls a + u) (exs a + e) l y.0 r y.2 in (
      p.0 ++ q.0,
      and p.1 q.1,
      q.2 ∙ ap (λ z. z ++ q.0) p.2 ∙ append_assoc k p.0 q.0,
      i_and (map kept_of kept) (denoted (length kept) values) u e a b p.0 q.0 p.1 q.1 p.3 q.3,
    )
sound (or a b) n' kept values u e l k r h =
    let x = or_some (λ c d. option_and_then (found kept values (alls a + u) (exs a + e) b d) (found kept values u e a c k)) n' r h in
    let y = then_some (found kept values u e a x.0 k) (found kept values (alls a + u) (exs a + e) b x.1) r x.2 in
    let p = sound a x.0 kept values u e l k y.0 y.1 in
    let q = sound b x.1 kept values (alls a + u) (exs a + e) l y.0 r y.2 in (
      p.0 ++ q.0,
      or p.1 q.1,
      q.2 ∙ ap (λ z. z ++ q.0) p.2 ∙ append_assoc k p.0 q.0,
      i_or (map kept_of kept) (denoted (length kept) values) u e a b p.0 q.0 p.1 q.1 p.3 q.3,
    )
sound (all b) n' kept values u e l k r h =
    let x = all_some (λ d. found (Universal u ∷ kept) (Kept (length kept) ∷ values) (suc u) e b d k) n' r h in
    let p = sound b x.0 (Universal u ∷ kept) (Kept (length kept) ∷ values) (suc u) e (steady_under (length kept) values l) k r x.1 in (
      p.0,
      all p.1,
      p.2,
      i_all (map kept_of kept) (denoted (length kept) values) u e b p.0 p.1
          (subst (λ f. Image (universal u ∷ map kept_of kept) f (suc u) e b p.0 p.1) (sym (under (length kept) values l)) p.3),
    )
sound (ex b) n' kept values u e l k r h =
    elim (cond_cases (row_le n' b) (option_and_then (λ (fit : Fit). found kept (Replaced (replacement_of (length kept) fit.applied) ∷ values) u (suc e) b n' (k ++ entry e fit.applied.symbol fit.args ∷ [])) (fitting kept values b n'))
    (if_ex (λ d. found (Existential ∷ kept) (Kept (length kept) ∷ values) u (suc e) b d k) n') (Some r) h) [
      | inl c ↦
          let x = then_some (fitting kept values b n') (λ (fit : Fit). found kept (Replaced (replacement_of (length kept) fit.applied) ∷ values) u (suc e) b n' (k ++ entry e fit.applied.symbol fit.args ∷ [])) r c in
          let fits = fit_fits kept values b n' x.0 x.1 in
          let moved = replaced_there kept values x.0.applied x.0.args fits.universals in
          let p = sound b n' kept (Replaced (replacement_of (length kept) x.0.applied) ∷ values) u (suc e) (moved.0 l) (k ++ entry e x.0.applied.symbol x.0.args ∷ []) r x.2 in (
            entry e x.0.applied.symbol x.0.args ∷ p.0,
            p.1,
            p.2 ∙ append_assoc k (entry e x.0.applied.symbol x.0.args ∷ []) p.0,
            i_put (map kept_of kept) (denoted (length kept) values) u e b p.0 p.1 x.0.applied.symbol x.0.args x.0.applied.variables fits
                (subst (λ f. Image (map kept_of kept) f u (suc e) b p.0 p.1) (sym moved.1) p.3),
          )
      | inr c ↦
          let x = ex_some (λ d. found (Existential ∷ kept) (Kept (length kept) ∷ values) u (suc e) b d k) n' r c in
          let p = sound b x.0 (Existential ∷ kept) (Kept (length kept) ∷ values) u (suc e) (steady_under (length kept) values l) k r x.1 in (
            p.0,
            ex p.1,
            p.2,
            i_keep (map kept_of kept) (denoted (length kept) values) u e b p.0 p.1
                (subst (λ f. Image (existential ∷ map kept_of kept) f u (suc e) b p.0 p.1) (sym (under (length kept) values l)) p.3),
          )
    ]

-- ---- of normal forms

-- where nothing is found there is no map
pub none_found : (n n' : Nf) → found [] [] 0 0 (form_of n) (form_of n') [] ≡ None → HasNoVacuous (form_of n) → HasNoImage n n'
none_found n n' h w m p = clash m (sym h ∙ complete p w [] [] refl (sym start) tt [])
  where
    clash : {A : Type 0} (x : A) → None ≡ Some x → ⊥
    clash x e = cc

-- what is found leads to its image
pub found_leads : (n n' answer : Nf) (m : List SkEntry) → found [] [] 0 0 (form_of n) (form_of n') [] ≡ Some m → ((i : Nf) → IsImage n m i → answer ≡ i) → IsImage n m answer
found_leads n n' answer m h one =
    let p = sound (form_of n) (form_of n') [] [] 0 0 tt [] m h in
    let q : Image [] Var 0 0 (form_of n) m p.1 = subst (λ f. Image [] f 0 0 (form_of n) m p.1) start (subst (λ x. Image [] (denoted 0 []) 0 0 (form_of n) x p.1) (sym p.2) p.3) in
    let i : IsImage n m (nf_of p.1) = subst (λ x. Image [] Var 0 0 (form_of n) m x) (sym (tree_is_form p.1)) q in
    subst (IsImage n m) (sym (one (nf_of p.1) i)) i

-- a map to another form than the image of what is found there is not
pub other_none : (n n' answer : Nf) (m : List SkEntry) → found [] [] 0 0 (form_of n) (form_of n') [] ≡ Some m → ((i : Nf) → IsImage n m i → answer ≡ i) → (answer ≡ n' → ⊥)
    → HasNoVacuous (form_of n) → HasNoImage n n'
other_none n n' answer m h one differs w k p =
    let e : m ≡ k = some_same m k (sym h ∙ complete p w [] [] refl (sym start) tt []) in
    differs (one n' (subst (λ x. IsImage n x n') (sym e) p))
