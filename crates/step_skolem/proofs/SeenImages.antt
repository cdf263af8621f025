-- What is seen in an image at the first place of a variable is what stands for the variable.
use Rattle.std.proofs.Common.{◌≡◌, ◌<◌, ◌≤◌, ℕ, suc, nat_eq, Bool, true, false, ◌||◌, List, [], ◌∷◌, map, cond, Option, None, Some, refl, sym, ap, ap₂, ◌∙◌, arith}
use Rattle.std.specs.Option.{option_and_then}
use Rattle.std.proofs.lemmas.Bool.{eqb-true}
use Rattle.dk_syntax.proofs.ListLaws.{for_each, ForEach}
use Rattle.dk_syntax.proofs.SubstitutionLaws.{has_variable-Any, has_variable-App, has_variable-Var, substituted-Any, substituted-App, substituted-Var}
use Rattle.dk_syntax.proofs.TermLaws.{term_induction}
use Rattle.dk_syntax.specs.Terms.{any_true, has_variable, substituted}
use Rattle.dk_syntax.specs.declared.SymKey.{SymKey}
use Rattle.dk_syntax.specs.declared.Term.{Term}
use Rattle.dk_syntax.specs.declared.Term.TheVariants.{Any, App, Var}
use Rattle.normal_form.specs.FormFacts.{HasNoVacuous}
use Rattle.normal_form.specs.Forms.{all, and, ex, Form, free, lit, no, or, yes}
use Rattle.step_skolem.proofs.Numbers.{le_up, less_up, less_zero, zero_le}
use Rattle.step_skolem.proofs.OneMap.{kept_run, run_le}
use Rattle.step_skolem.proofs.SeenTerms.{applied-Any, applied-App, applied-Var, args-App, seen-Any, seen-App, seen-Var, variable-Any, variable-App, variable-Var}
use Rattle.step_skolem.specs.Images.{existential, i_all, i_and, i_keep, i_lit, i_no, i_or, i_put, i_yes, Image, Kept}
use Rattle.step_skolem.specs.Rows.{run}
use Rattle.step_skolem.specs.Searching.{applied_in, args_of, first_of, number_before, row_le, seen, seen_first, seen_term, seen_terms, some_if, variable_of, variables_of, applied_if}
use Rattle.step_skolem.specs.Substitutions.{applied, shifted, up}
use Rattle.step_skolem.specs.declared.map.SkEntry.{SkEntry}
use Rattle.step_skolem.specs.declared.seeing.Applied.{Applied}

-- ---- terms

same_if : (b : Bool) (x y : Term) → (b ≡ true → x ≡ y) → some_if b x ≡ some_if b y
same_if true x y h = ap Some (h refl)
same_if false x y h = refl

first_where : (p q : Bool) (v : Term) → first_of (some_if p v) (some_if q v) ≡ some_if (p || q) v
first_where true q v = refl
first_where false q v = refl

abbrev Sees : (ℕ → Term) → ℕ → Term → Type 0
Sees s k t = seen_term k t (substituted s t) ≡ some_if (has_variable k t) (s k)

sees_all : (s : ℕ → Term) (k : ℕ) (args : List Term) → ForEach (Sees s k) args
    → seen_first (map (seen_term k) args) (map (substituted s) args) ≡ some_if (any_true (map (has_variable k) args)) (s k)
sees_all s k [] known = refl
sees_all s k (x ∷ xs) known = ap₂ first_of known.0 (sees_all s k xs known.1) ∙ first_where (has_variable k x) (any_true (map (has_variable k) xs)) (s k)

sees : (s : ℕ → Term) (k : ℕ) (t : Term) → Sees s k t
sees s k = term_induction (Sees s k)
    (λ n. seen-Var k n (substituted s (Var n)) ∙ ap (some_if (nat_eq n k)) (substituted-Var s n) ∙ same_if (nat_eq n k) (s n) (s k) (λ h. ap s (eqb-true n k h))
    ∙ ap (λ b. some_if b (s k)) (sym (has_variable-Var k n)))
    (λ f args known. seen-App k f args (substituted s (App f args)) ∙ ap (seen_terms k args) (ap args_of (substituted-App s f args) ∙ args-App f (map (substituted s) args))
    ∙ sees_all s k args known ∙ ap (λ b. some_if b (s k)) (sym (has_variable-App k f args)))
    (seen-Any k (substituted s Any) ∙ ap (λ b. some_if b (s k)) (sym (has_variable-Any k)))

-- ---- a symbol applied to variables

variable_shifted : (between : ℕ) (t : Term) → variable_of (suc between) (shifted t) ≡ variable_of between t
variable_shifted between = term_induction (λ t. variable_of (suc between) (shifted t) ≡ variable_of between t)
    (λ n. ap (variable_of (suc between)) (substituted-Var (λ k. Var (suc k)) n) ∙ variable-Var (suc between) (suc n) ∙ ap₂ some_if (le_up between n) (less_up n between)
    ∙ sym (variable-Var between n))
    (λ f args known. ap (variable_of (suc between)) (substituted-App (λ k. Var (suc k)) f args) ∙ variable-App (suc between) f (map (substituted (λ k. Var (suc k))) args)
    ∙ sym (variable-App between f args))
    (ap (variable_of (suc between)) (substituted-Any (λ k. Var (suc k))) ∙ variable-Any (suc between) ∙ sym (variable-Any between))

variables_shifted : (between : ℕ) (terms : List Term) → variables_of (suc between) (map (substituted (λ k. Var (suc k))) terms) ≡ variables_of between terms
variables_shifted between [] = refl
variables_shifted between (t ∷ terms) = ap₂ number_before (variable_shifted between t) (variables_shifted between terms)

applied_shifted : (between : ℕ) (t : Term) → applied_in (suc between) (shifted t) ≡ applied_in between t
applied_shifted between = term_induction (λ t. applied_in (suc between) (shifted t) ≡ applied_in between t)
    (λ n. ap (applied_in (suc between)) (substituted-Var (λ k. Var (suc k)) n) ∙ applied-Var (suc between) (suc n) ∙ sym (applied-Var between n))
    (λ f args known. ap (applied_in (suc between)) (substituted-App (λ k. Var (suc k)) f args) ∙ applied-App (suc between) f (map (substituted (λ k. Var (suc k))) args)
    ∙ ap (applied_if f) (variables_shifted between args) ∙ sym (applied-App between f args))
    (ap (applied_in (suc between)) (substituted-Any (λ k. Var (suc k))) ∙ applied-Any (suc between) ∙ sym (applied-Any between))

variables_read : (ys : List ℕ) → variables_of 0 (map Var ys) ≡ Some ys
variables_read [] = refl
variables_read (y ∷ ys) = ap₂ number_before (variable-Var 0 y ∙ ap₂ some_if (zero_le y) (less_zero y)) (variables_read ys)

pub applied_read : (f : SymKey) (ys : List ℕ) → applied_in 0 (applied f ys) ≡ Some (record { symbol = f; variables = ys })
applied_read f ys = applied-App 0 f (map Var ys) ∙ ap (applied_if f) (variables_read ys)

-- ---- rows

pub row_within : (n b : Form) → run n ≤ run b → row_le n b ≡ true
row_within yes b h = refl
row_within no b h = refl
row_within (lit l) b h = refl
row_within (and n m) b h = refl
row_within (or n m) b h = refl
row_within (all n) b h = refl
row_within (ex n) (ex b) h = row_within n b (omega (arith, h))
row_within (ex n) yes h = absurd (omega (arith, h))
row_within (ex n) no h = absurd (omega (arith, h))
row_within (ex n) (lit l) h = absurd (omega (arith, h))
row_within (ex n) (and a b) h = absurd (omega (arith, h))
row_within (ex n) (or a b) h = absurd (omega (arith, h))
row_within (ex n) (all b) h = absurd (omega (arith, h))

row_beyond : (n b : Form) → run b < run n → row_le n b ≡ false
row_beyond yes b h = absurd (omega (arith, h))
row_beyond no b h = absurd (omega (arith, h))
row_beyond (lit l) b h = absurd (omega (arith, h))
row_beyond (and n m) b h = absurd (omega (arith, h))
row_beyond (or n m) b h = absurd (omega (arith, h))
row_beyond (all n) b h = absurd (omega (arith, h))
row_beyond (ex n) (ex b) h = row_beyond n b (omega (arith, h))
row_beyond (ex n) yes h = refl
row_beyond (ex n) no h = refl
row_beyond (ex n) (lit l) h = refl
row_beyond (ex n) (and a b) h = refl
row_beyond (ex n) (or a b) h = refl
row_beyond (ex n) (all b) h = refl

-- the row tells that the first existential is kept
pub keep_test : {g : List Kept} (s : ℕ → Term) {u e : ℕ} {b : Form} {m : List SkEntry} {d : Form} → Image (existential ∷ g) (up s) u e b m d → HasNoVacuous b
    → free 0 b ≡ true → row_le (ex d) b ≡ false
keep_test s {b = b} {d = d} p w x =
    let kept : run d ≡ run b = kept_run p w 0 0 x refl refl in
    row_beyond (ex d) b (omega (arith, kept))

-- ---- forms

pub cond_true : {A : Type 0} {b : Bool} (x y : A) → b ≡ true → cond b x y ≡ x
cond_true x y h = ap (λ b. cond b x y) h

pub cond_false : {A : Type 0} {b : Bool} (x y : A) → b ≡ false → cond b x y ≡ y
cond_false x y h = ap (λ b. cond b x y) h

then_if : (b : Bool) (h : Term → Option Applied) (t : Term) → option_and_then h (some_if b t) ≡ cond b (h t) None
then_if true h t = refl
then_if false h t = refl

same_either : (q : Bool) (o : Option Applied) → cond q o o ≡ o
same_either true o = refl
same_either false o = refl

first_by : (p q : Bool) (v : Option Applied) → first_of (cond p v None) (cond q v None) ≡ cond (p || q) v None
first_by true q None = same_either q None
first_by true q (Some x) = refl
first_by false q v = refl

pub seen_image : {g : List Kept} {s : ℕ → Term} {u e : ℕ} {n : Form} {m : List SkEntry} {n' : Form} → Image g s u e n m n' → HasNoVacuous n
    → (between k : ℕ) → seen between k n n' ≡ cond (free k n) (applied_in between (s k)) None
seen_image (i_yes g s u e) w between k = refl
seen_image (i_no g s u e) w between k = refl
seen_image (i_lit g s u e l) w between k =
    ap (option_and_then (applied_in between)) (sees_all s k l.args (for_each (Sees s k) (sees s k) l.args)) ∙ then_if (any_true (map (has_variable k) l.args)) (applied_in between) (s k)
seen_image (i_and g s u e a b m n c d p q) w between k =
    ap₂ first_of (seen_image p w.0 between k) (seen_image q w.1 between k) ∙ first_by (free k a) (free k b) (applied_in between (s k))
seen_image (i_or g s u e a b m n c d p q) w between k =
    ap₂ first_of (seen_image p w.0 between k) (seen_image q w.1 between k) ∙ first_by (free k a) (free k b) (applied_in between (s k))
seen_image (i_all g s u e b m d p) w between k =
    seen_image p w.1 (suc between) (suc k) ∙ ap (λ r. cond (free (suc k) b) r None) (applied_shifted between (s k))
seen_image (i_keep g s u e b m d p) w between k =
    cond_false _ _ (keep_test s p w.1 w.0) ∙ seen_image p w.1 (suc between) (suc k) ∙ ap (λ r. cond (free (suc k) b) r None) (applied_shifted between (s k))
seen_image (i_put g s u e b m d symbol args ys fits p) w between k = cond_true _ _ (row_within d b (run_le p)) ∙ seen_image p w.1 between (suc k)
