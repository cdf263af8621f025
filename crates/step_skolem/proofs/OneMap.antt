-- One map at most leads from a form to another: the row of existentials at the front tells which are kept, and what
-- stands for a variable tells the entry of one that is replaced.
use Rattle.std.proofs.Common.{◌≡◌, ◌≤◌, ◌+◌, ℕ, suc, nat_eq, true, List, [], ◌∷◌, ◌++◌, map, refl, sym, ap, ap₂, ◌∙◌, subst, arith, inl, inr}
use Rattle.std.proofs.lemmas.Bool.{eqb-true, or_cases, or_left, or_right}
use Rattle.dk_syntax.specs.Terms.{any_true, has_variable, instance}
use Rattle.dk_syntax.specs.declared.Literal.{Literal}
use Rattle.dk_syntax.specs.declared.SymKey.{SymKey}
use Rattle.dk_syntax.specs.declared.Term.{Term}
use Rattle.dk_syntax.specs.declared.Term.TheVariants.{Var}
use Rattle.normal_form.specs.ClauseLists.{has_number}
use Rattle.normal_form.specs.FormFacts.{HasNoVacuous}
use Rattle.normal_form.specs.Forms.{all, alls, and, ex, exs, Form, form_of, free, lit, no, or, yes}
use Rattle.step_skolem.proofs.SubstitutionLaws.{applied_same, instance_same, keeps_in_list, shifted_has, shifted_same, tells_in_list, up_same, variable_there}
use Rattle.step_skolem.specs.Images.{binder, entry, existential, i_all, i_and, i_keep, i_lit, i_no, i_or, i_put, i_yes, Image, is_outside, Kept, universal}
use Rattle.step_skolem.specs.Laws.{EmptyLeadsBack, ImageHasNoVacuous, MapIsOne}
use Rattle.step_skolem.specs.Rows.{run}
use Rattle.step_skolem.specs.Substitutions.{applied, up, with_term}
use Rattle.step_skolem.specs.declared.map.SkEntry.{SkEntry}

-- ---- variables that are free

-- the variables of a literal are those of its terms
free_lit : (k : ℕ) (l : Literal) → free k (lit l) ≡ any_true (map (has_variable k) l.args)
free_lit k l = refl

-- what is free stays free
pub image_free : {g : List Kept} {s : ℕ → Term} {u e : ℕ} {n : Form} {m : List SkEntry} {n' : Form} → Image g s u e n m n'
    → (k j : ℕ) → free k n ≡ true → has_variable j (s k) ≡ true → free j n' ≡ true
image_free (i_yes g s u e) k j h i = cc
image_free (i_no g s u e) k j h i = cc
image_free (i_lit g s u e l) k j h i = keeps_in_list s k j l.args h i
image_free (i_and g s u e a b m n c d p q) k j h i = elim (or_cases (free k a) (free k b) h) [
  | inl l ↦ or_left (free j c) (free j d) (image_free p k j l i)
  | inr r ↦ or_right (free j c) (free j d) (image_free q k j r i)
]
image_free (i_or g s u e a b m n c d p q) k j h i = elim (or_cases (free k a) (free k b) h) [
  | inl l ↦ or_left (free j c) (free j d) (image_free p k j l i)
  | inr r ↦ or_right (free j c) (free j d) (image_free q k j r i)
]
image_free (i_all g s u e b m d p) k j h i = image_free p (suc k) (suc j) h (shifted_has (s k) j i)
image_free (i_keep g s u e b m d p) k j h i = image_free p (suc k) (suc j) h (shifted_has (s k) j i)
image_free (i_put g s u e b m d symbol args ys fits p) k j h i = image_free p (suc k) j h i

no_vacuous : {g : List Kept} {s : ℕ → Term} {u e : ℕ} {n : Form} {m : List SkEntry} {n' : Form} → Image g s u e n m n' → HasNoVacuous n → HasNoVacuous n'
no_vacuous (i_yes g s u e) w = tt
no_vacuous (i_no g s u e) w = tt
no_vacuous (i_lit g s u e l) w = tt
no_vacuous (i_and g s u e a b m n c d p q) w = (no_vacuous p w.0, no_vacuous q w.1)
no_vacuous (i_or g s u e a b m n c d p q) w = (no_vacuous p w.0, no_vacuous q w.1)
no_vacuous (i_all g s u e b m d p) w = (image_free p 0 0 w.0 (variable_there 0 (Var 0) refl), no_vacuous p w.1)
no_vacuous (i_keep g s u e b m d p) w = (image_free p 0 0 w.0 (variable_there 0 (Var 0) refl), no_vacuous p w.1)
no_vacuous (i_put g s u e b m d symbol args ys fits p) w = no_vacuous p w.1

pub image_has_no_vacuous : ImageHasNoVacuous
image_has_no_vacuous n n' entries p w = no_vacuous p w

-- ---- which existentials are kept

-- an image has no longer row
pub run_le : {g : List Kept} {s : ℕ → Term} {u e : ℕ} {n : Form} {m : List SkEntry} {n' : Form} → Image g s u e n m n' → run n' ≤ run n
run_le (i_yes g s u e) = omega arith
run_le (i_no g s u e) = omega arith
run_le (i_lit g s u e l) = omega arith
run_le (i_and g s u e a b m n c d p q) = omega arith
run_le (i_or g s u e a b m n c d p q) = omega arith
run_le (i_all g s u e b m d p) = omega arith
run_le (i_keep g s u e b m d p) = let h = run_le p in omega arith
run_le (i_put g s u e b m d symbol args ys fits p) = let h = run_le p in omega arith

-- each of the variables belongs to a universal
pub of_universals : (g : List Kept) (ys args : List ℕ) (j : ℕ) → map (binder g) ys ≡ map universal args → has_number ys j ≡ true → (n : ℕ) × (binder g j ≡ universal n)
of_universals g [] args j h i = cc
of_universals g (y ∷ ys) [] j h i = cc
of_universals g (y ∷ ys) (n ∷ args) j h i =
    let first : binder g y ≡ universal n = cc in
    let rest : map (binder g) ys ≡ map universal args = cc in
    elim (or_cases (nat_eq y j) (has_number ys j) i) [
      | inl l ↦ (n, ap (binder g) (sym (eqb-true y j l)) ∙ first)
      | inr r ↦ of_universals g ys args j rest r
    ]

-- where the variable of a kept existential is free, the row is kept whole
pub kept_run : {g : List Kept} {s : ℕ → Term} {u e : ℕ} {n : Form} {m : List SkEntry} {n' : Form} → Image g s u e n m n' → HasNoVacuous n
    → (k j : ℕ) → free k n ≡ true → s k ≡ Var j → binder g j ≡ existential → run n' ≡ run n
kept_run (i_yes g s u e) w k j h i o = refl
kept_run (i_no g s u e) w k j h i o = refl
kept_run (i_lit g s u e l) w k j h i o = refl
kept_run (i_and g s u e a b m n c d p q) w k j h i o = refl
kept_run (i_or g s u e a b m n c d p q) w k j h i o = refl
kept_run (i_all g s u e b m d p) w k j h i o = refl
kept_run (i_keep g s u e b m d p) w k j h i o = ap suc (kept_run p w.1 0 0 w.0 refl refl)
kept_run (i_put g s u e b m d symbol args ys fits p) w k j h i o =
    let found = of_universals g ys args j fits.universals (fits.covered k j h (variable_there j (s k) i) (ap is_outside o)) in
    absurd (clash found.0 (sym o ∙ found.1))
  where
    clash : (n : ℕ) → existential ≡ universal n → ⊥
    clash n h = cc

-- a kept existential at the front of the image leaves no room for a replaced one
kept_or_replaced : {g h : List Kept} (s : ℕ → Term) {r : ℕ → Term} {u e v i : ℕ} {b : Form} {m k : List SkEntry} {d c : Form}
    → Image (existential ∷ g) (up s) u e b m d → HasNoVacuous b → free 0 b ≡ true → Image h r v i b k c → ex d ≡ c → ⊥
kept_or_replaced s {b = b} {d = d} {c = c} p w x q same =
    let kept : run d ≡ run b = kept_run p w 0 0 x refl refl in
    let row = run_le q in
    let longer : suc (run d) ≡ run c = ap run same in
    omega (arith, kept, row, longer)

-- ---- what stands for a variable

-- two images of a form that are one have the same terms for its variables
pub values_same : {g h : List Kept} {s r : ℕ → Term} {u e v i : ℕ} {n : Form} {m k : List SkEntry} {n' n'' : Form} → Image g s u e n m n' → HasNoVacuous n
    → Image h r v i n k n'' → n' ≡ n'' → (x : ℕ) → free x n ≡ true → s x ≡ r x
values_same (i_yes g s u e) w (i_yes _ _ _ _) same x f = cc
values_same (i_no g s u e) w (i_no _ _ _ _) same x f = cc
values_same {r = r} (i_lit g s u e l) w (i_lit _ _ _ _ _) same x f = tells_in_list s r x l.args f (args_same (instance s l) (instance r l) same)
  where
    args_same : (a b : Literal) → lit a ≡ lit b → a.args ≡ b.args
    args_same a b h = let e : a ≡ b = cc in ap (λ (l : Literal). l.args) e
values_same (i_and g s u e a b m n c d p q) w (i_and _ _ _ _ _ _ _ _ c2 d2 p2 q2) same x f =
    let left : c ≡ c2 = cc in
    let right : d ≡ d2 = cc in
    elim (or_cases (free x a) (free x b) f) [ inl l ↦ values_same p w.0 p2 left x l | inr l ↦ values_same q w.1 q2 right x l ]
values_same (i_or g s u e a b m n c d p q) w (i_or _ _ _ _ _ _ _ _ c2 d2 p2 q2) same x f =
    let left : c ≡ c2 = cc in
    let right : d ≡ d2 = cc in
    elim (or_cases (free x a) (free x b) f) [ inl l ↦ values_same p w.0 p2 left x l | inr l ↦ values_same q w.1 q2 right x l ]
values_same {r = r} (i_all g s u e b m d p) w (i_all _ _ _ _ _ _ d2 p2) same x f =
    let body : d ≡ d2 = cc in shifted_same (s x) (r x) (values_same p w.1 p2 body (suc x) f)
values_same {r = r} (i_keep g s u e b m d p) w (i_keep _ _ _ _ _ _ d2 p2) same x f =
    let body : d ≡ d2 = cc in shifted_same (s x) (r x) (values_same p w.1 p2 body (suc x) f)
values_same (i_put g s u e b m d symbol args ys fits p) w (i_put _ _ _ _ _ _ _ _ _ _ _ p2) same x f = values_same p w.1 p2 same (suc x) f
values_same (i_keep g s u e b m d p) w (i_put _ _ _ _ _ _ _ _ _ _ _ p2) same x f = absurd (kept_or_replaced s p w.1 w.0 p2 same)
values_same (i_put g s u e b m d symbol args ys fits p) w (i_keep _ _ _ _ _ _ _ p2) same x f = absurd (kept_or_replaced _ p2 w.1 w.0 p (sym same))

-- ---- one map

universals_same : (k l : List ℕ) → map universal k ≡ map universal l → k ≡ l
universals_same [] [] e = refl
universals_same [] (n ∷ l) e = cc
universals_same (m ∷ k) [] e = cc
universals_same (m ∷ k) (n ∷ l) e =
    let first : m ≡ n = cc in
    let rest : map universal k ≡ map universal l = cc in
    ap₂ (λ x y. x ∷ y) first (universals_same k l rest)

entries_same : (e : ℕ) (f g : SymKey) (k l : List ℕ) (m n : List SkEntry) → f ≡ g → k ≡ l → m ≡ n → entry e f k ∷ m ≡ entry e g l ∷ n
entries_same e f g k l m n a b c = ap (λ x. entry e x k ∷ m) a ∙ ap (λ x. entry e g x ∷ m) b ∙ ap (λ x. entry e g l ∷ x) c

unique : {g : List Kept} {s r : ℕ → Term} {u e : ℕ} {n : Form} {m k : List SkEntry} {n' n'' : Form} → Image g s u e n m n' → HasNoVacuous n
    → s ≡ r → Image g r u e n k n'' → n' ≡ n'' → m ≡ k
unique (i_yes g s u e) w alike (i_yes _ _ _ _) same = refl
unique (i_no g s u e) w alike (i_no _ _ _ _) same = refl
unique (i_lit g s u e l) w alike (i_lit _ _ _ _ _) same = refl
unique (i_and g s u e a b m n c d p q) w alike (i_and _ _ _ _ _ _ _ _ c2 d2 p2 q2) same =
    let left : c ≡ c2 = cc in
    let right : d ≡ d2 = cc in
    ap₂ (λ x y. x ++ y) (unique p w.0 alike p2 left) (unique q w.1 alike q2 right)
unique (i_or g s u e a b m n c d p q) w alike (i_or _ _ _ _ _ _ _ _ c2 d2 p2 q2) same =
    let left : c ≡ c2 = cc in
    let right : d ≡ d2 = cc in
    ap₂ (λ x y. x ++ y) (unique p w.0 alike p2 left) (unique q w.1 alike q2 right)
unique (i_all g s u e b m d p) w alike (i_all _ _ _ _ _ _ d2 p2) same = let body : d ≡ d2 = cc in unique p w.1 (ap up alike) p2 body
unique (i_keep g s u e b m d p) w alike (i_keep _ _ _ _ _ _ d2 p2) same = let body : d ≡ d2 = cc in unique p w.1 (ap up alike) p2 body
unique (i_put g s u e b m d symbol args ys fits p) w alike (i_put _ _ _ _ _ m2 _ symbol2 args2 ys2 fits2 p2) same =
    let terms = applied_same symbol symbol2 ys ys2 (values_same p w.1 p2 same 0 w.0) in
    entries_same e symbol symbol2 args args2 m m2 terms.0
    (universals_same args args2 (sym fits.universals ∙ ap (map (binder g)) terms.1 ∙ fits2.universals))
    (unique p w.1 (ap₂ with_term (ap₂ applied terms.0 terms.1) alike) p2 same)
unique (i_keep g s u e b m d p) w alike (i_put _ _ _ _ _ _ _ _ _ _ _ p2) same = absurd (kept_or_replaced s p w.1 w.0 p2 same)
unique (i_put g s u e b m d symbol args ys fits p) w alike (i_keep _ _ _ _ _ _ _ p2) same = absurd (kept_or_replaced _ p2 w.1 w.0 p (sym same))

pub map_is_one : MapIsOne
map_is_one n n' one other w p q = unique p w refl q refl

-- ---- the empty map

itself : (n : Form) (g : List Kept) (u e : ℕ) → Image g Var u e n [] n
itself yes g u e = i_yes g Var u e
itself no g u e = i_no g Var u e
itself (lit l) g u e = subst (λ x. Image g Var u e (lit l) [] (lit x)) (instance_same l) (i_lit g Var u e l)
itself (and a b) g u e = i_and g Var u e a b [] [] a b (itself a g u e) (itself b g (alls a + u) (exs a + e))
itself (or a b) g u e = i_or g Var u e a b [] [] a b (itself a g u e) (itself b g (alls a + u) (exs a + e))
itself (all b) g u e = i_all g Var u e b [] b (subst (λ r. Image (universal u ∷ g) r (suc u) e b [] b) (sym up_same) (itself b (universal u ∷ g) (suc u) e))
itself (ex b) g u e = i_keep g Var u e b [] b (subst (λ r. Image (existential ∷ g) r u (suc e) b [] b) (sym up_same) (itself b (existential ∷ g) u (suc e)))

pub empty_leads_back : EmptyLeadsBack
empty_leads_back n = itself (form_of n) [] 0 0
