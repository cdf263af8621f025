-- A signed form without its vacuous quantifiers is the normal form.
use Rattle.std.proofs.Common.{◌≡◌, ℕ, zero, suc, ◌+◌, ◌-◌, Bool, true, false, not, nat_lt, List, [], ◌∷◌, cond, map, refl, sym, ap, ap₂, subst, ◌∙◌, ◌<◌, ◌≤◌, inl, inr, arith}
use mathlib.Core.Path.{fun_ext}
use Rattle.std.proofs.lemmas.Bool.{cases_Bool}
use Rattle.std.proofs.lemmas.Bool.Decides.{nat_tests}
use Rattle.dk_syntax.proofs.FormulaLaws.{formula_induction}
use Rattle.dk_syntax.proofs.ListLaws.{ForEach, for_each}
use Rattle.dk_syntax.proofs.SubstitutionLaws.{same, substituted-Any, substituted-App, substituted-Var}
use Rattle.dk_syntax.proofs.TermLaws.{term_induction}
use Rattle.dk_syntax.specs.Terms.{instance, substituted}
use Rattle.dk_syntax.specs.declared.Formula.{Formula}
use Rattle.dk_syntax.specs.declared.Formula.TheVariants as formula
use Rattle.dk_syntax.specs.declared.Literal.{Literal}
use Rattle.dk_syntax.specs.declared.Term.{App, Term, Var}
use Rattle.normal_form.proofs.Counting.{in-normal}
use Rattle.normal_form.proofs.FormEquations.{lowered-All, lowered-And, lowered-Any, lowered-App, lowered-Ex, lowered-False, lowered-Lit, lowered-Or, lowered-True, lowered-Var}
use Rattle.normal_form.proofs.FormInduction.{form_induction}
use Rattle.normal_form.proofs.FormLaws.{form-All, form-And, form-Ex, form-False, form-Lit, form-Or, form-True}
use Rattle.normal_form.proofs.FormulaEquations.{normal-All-false, normal-All-true, normal-And-false, normal-And-true, normal-Atom, normal-Ex-false, normal-Ex-true, normal-False-false, normal-False-true, normal-Iff-false, normal-Iff-true, normal-Imp-false, normal-Imp-true, normal-Not, normal-Or-false, normal-Or-true, normal-True-false, normal-True-true}
use Rattle.normal_form.specs.Forms.{Form, form_of}
use Rattle.normal_form.specs.Forms as plain
use Rattle.normal_form.specs.Lowered.{lowered, lowered_literal, lowered_term}
use Rattle.normal_form.specs.Normal.{all_of, ex_of, literal_of, normal_of}
use Rattle.normal_form.specs.Occurrence.{in_form, in_formula}
use Rattle.normal_form.specs.declared.Nf.{Nf}
use Rattle.normal_form.specs.declared.Nf.TheVariants as nf
use Rattle.skolem_order.proofs.SignedLaws.{form-All as signed-All, form-And as signed-And, form-Atom as signed-Atom, form-Ex as signed-Ex, form-False as signed-False, form-Iff as signed-Iff, form-Imp as signed-Imp, form-Not as signed-Not, form-Or as signed-Or, form-True as signed-True}
use Rattle.skolem_order.specs.SignedForms.{SignedForm, all, alls, constant, ex, exs, joined, lit, signed_form, vacuous}

-- new numbers below a quantifier that stays, and below one that goes
abbrev pub under : (ℕ → ℕ) → ℕ → ℕ
under r zero = zero
under r (suc k) = suc (r k)

abbrev pub past : (ℕ → ℕ) → ℕ → ℕ
past r zero = zero
past r (suc k) = r k

-- the variables renamed
abbrev pub renaming : (ℕ → ℕ) → ℕ → Term
renaming r k = Var (r k)

-- Drops r n m: m is n without its vacuous quantifiers, where r gives the variables' numbers in m
pub data Drops : (ℕ → ℕ) → SignedForm → Form → Type 0 where
  d_yes : (r : ℕ → ℕ) → Drops r (constant true) plain.yes
  d_no : (r : ℕ → ℕ) → Drops r (constant false) plain.no
  d_lit : (r : ℕ → ℕ) (l : Literal) → Drops r (lit l) (plain.lit (instance (renaming r) l))
  d_and : (r : ℕ → ℕ) (a b : SignedForm) (c d : Form) → Drops r a c → Drops r b d → Drops r (joined true a b) (plain.and c d)
  d_or : (r : ℕ → ℕ) (a b : SignedForm) (c d : Form) → Drops r a c → Drops r b d → Drops r (joined false a b) (plain.or c d)
  d_all : (r : ℕ → ℕ) (a : SignedForm) (c : Form) → Drops (under r) a c → Drops r (all a) (plain.all c)
  d_ex : (r : ℕ → ℕ) (sign : Bool) (f : Formula) (a : SignedForm) (c : Form) → Drops (under r) a c → Drops r (ex sign f a) (plain.ex c)
  d_vacuous : (r : ℕ → ℕ) (a : SignedForm) (c : Form) → Drops (past r) a c → Drops r (vacuous a) c

-- ---- quantifiers are counted alike

pub drops_alls : {r : ℕ → ℕ} {n : SignedForm} {m : Form} → Drops r n m → plain.alls m ≡ alls n
drops_alls (d_yes r) = refl
drops_alls (d_no r) = refl
drops_alls (d_lit r l) = refl
drops_alls (d_and r a b c d x y) = ap₂ (λ i j. i + j) (drops_alls x) (drops_alls y)
drops_alls (d_or r a b c d x y) = ap₂ (λ i j. i + j) (drops_alls x) (drops_alls y)
drops_alls (d_all r a c x) = ap suc (drops_alls x)
drops_alls (d_ex r sign f a c x) = drops_alls x
drops_alls (d_vacuous r a c x) = drops_alls x

pub drops_exs : {r : ℕ → ℕ} {n : SignedForm} {m : Form} → Drops r n m → plain.exs m ≡ exs n
drops_exs (d_yes r) = refl
drops_exs (d_no r) = refl
drops_exs (d_lit r l) = refl
drops_exs (d_and r a b c d x y) = ap₂ (λ i j. i + j) (drops_exs x) (drops_exs y)
drops_exs (d_or r a b c d x y) = ap₂ (λ i j. i + j) (drops_exs x) (drops_exs y)
drops_exs (d_all r a c x) = drops_exs x
drops_exs (d_ex r sign f a c x) = ap suc (drops_exs x)
drops_exs (d_vacuous r a c x) = drops_exs x

-- ---- lowered variables

abbrev low : ℕ → ℕ → ℕ
low place n = cond (nat_lt place n) (n - 1) n

abbrev lowered_form : ℕ → Form → Form
lowered_form place plain.yes = plain.yes
lowered_form place plain.no = plain.no
lowered_form place (plain.lit l) = plain.lit (lowered_literal place l)
lowered_form place (plain.and a b) = plain.and (lowered_form place a) (lowered_form place b)
lowered_form place (plain.or a b) = plain.or (lowered_form place a) (lowered_form place b)
lowered_form place (plain.all a) = plain.all (lowered_form (suc place) a)
lowered_form place (plain.ex a) = plain.ex (lowered_form (suc place) a)

form_lowered : (a : Nf) (place : ℕ) → form_of (lowered a place) ≡ lowered_form place (form_of a)
form_lowered = form_induction (λ a. (place : ℕ) → form_of (lowered a place) ≡ lowered_form place (form_of a))
    (λ p. ap form_of (lowered-True p) ∙ form-True ∙ ap (lowered_form p) (sym form-True))
    (λ p. ap form_of (lowered-False p) ∙ form-False ∙ ap (lowered_form p) (sym form-False))
    (λ l p. ap form_of (lowered-Lit p l) ∙ form-Lit (lowered_literal p l) ∙ ap (lowered_form p) (sym (form-Lit l)))
    (λ a b h k p. ap form_of (lowered-And p a b) ∙ form-And (lowered a p) (lowered b p) ∙ ap₂ plain.and (h p) (k p) ∙ ap (lowered_form p) (sym (form-And a b)))
    (λ a b h k p. ap form_of (lowered-Or p a b) ∙ form-Or (lowered a p) (lowered b p) ∙ ap₂ plain.or (h p) (k p) ∙ ap (lowered_form p) (sym (form-Or a b)))
    (λ a h p. ap form_of (lowered-All p a) ∙ form-All (lowered a (suc p)) ∙ ap plain.all (h (suc p)) ∙ ap (lowered_form p) (sym (form-All a)))
    (λ a h p. ap form_of (lowered-Ex p a) ∙ form-Ex (lowered a (suc p)) ∙ ap plain.ex (h (suc p)) ∙ ap (lowered_form p) (sym (form-Ex a)))

low_zero : (place : ℕ) → low place 0 ≡ 0
low_zero place = let h : nat_lt place 0 ≡ false = grind (arith, nat_tests) in ap (λ b. cond b (0 - 1) 0) h

low_under : (place n : ℕ) → low (suc place) (suc n) ≡ suc (low place n)
low_under place n = elim (cases_Bool (nat_lt place n)) [
  | inl p ↦
      let l : place < n = grind (arith, nat_tests) in
      let q : nat_lt (suc place) (suc n) ≡ true = grind (arith, nat_tests) in
      let e : suc n - 1 ≡ suc (n - 1) = omega arith in
      ap (λ b. cond b (suc n - 1) (suc n)) q ∙ e ∙ ap suc (sym (ap (λ b. cond b (n - 1) n) p))
  | inr p ↦
      let l : n ≤ place = grind (arith, nat_tests) in
      let q : nat_lt (suc place) (suc n) ≡ false = grind (arith, nat_tests) in
      ap (λ b. cond b (suc n - 1) (suc n)) q ∙ ap suc (sym (ap (λ b. cond b (n - 1) n) p))
]

under_low : (place : ℕ) (r : ℕ → ℕ) (k : ℕ) → under (λ j. low place (r j)) k ≡ low (suc place) (under r k)
under_low place r zero = sym (low_zero (suc place))
under_low place r (suc k) = sym (low_under place (r k))

past_low : (place : ℕ) (r : ℕ → ℕ) (k : ℕ) → past (λ j. low place (r j)) k ≡ low place (past r k)
past_low place r zero = sym (low_zero place)
past_low place r (suc k) = refl

under_same : (k : ℕ) → under (λ j. j) k ≡ k
under_same zero = refl
under_same (suc k) = refl

past_same : (k : ℕ) → past (λ j. j) k ≡ low 0 k
past_same zero = sym (low_zero 0)
past_same (suc k) =
    let q : nat_lt 0 (suc k) ≡ true = grind (arith, nat_tests) in
    let e : k ≡ suc k - 1 = omega arith in e ∙ sym (ap (λ b. cond b (suc k - 1) (suc k)) q)

-- ---- lowered literals

abbrev Lowers : ℕ → (ℕ → ℕ) → Term → Type 0
Lowers place r t = lowered_term place (substituted (renaming r) t) ≡ substituted (renaming (λ k. low place (r k))) t

args_lower : (place : ℕ) (r : ℕ → ℕ) (args : List Term) → ForEach (Lowers place r) args
    → map (lowered_term place) (map (substituted (renaming r)) args) ≡ map (substituted (renaming (λ k. low place (r k)))) args
args_lower place r [] h = refl
args_lower place r (t ∷ args) h = ap₂ (λ x xs. x ∷ xs) h.0 (args_lower place r args h.1)

term_lowers : (place : ℕ) (r : ℕ → ℕ) (t : Term) → Lowers place r t
term_lowers place r = term_induction (Lowers place r)
    (λ n. ap (lowered_term place) (substituted-Var (renaming r) n) ∙ lowered-Var place (r n) ∙ by_test (r n) (nat_lt place (r n)) ∙ sym (substituted-Var (renaming (λ k. low place (r k))) n))
    (λ f args h. ap (lowered_term place) (substituted-App (renaming r) f args) ∙ lowered-App place f (map (substituted (renaming r)) args) ∙ ap (App f) (args_lower place r args h)
    ∙ sym (substituted-App (renaming (λ k. low place (r k))) f args))
    (ap (lowered_term place) (substituted-Any (renaming r)) ∙ lowered-Any place ∙ sym (substituted-Any (renaming (λ k. low place (r k)))))
  where
    by_test : (m : ℕ) (b : Bool) → cond b (Var (m - 1)) (Var m) ≡ Var (cond b (m - 1) m)
    by_test m true = refl
    by_test m false = refl

literal_lowers : (place : ℕ) (r : ℕ → ℕ) (l : Literal) → lowered_literal place (instance (renaming r) l) ≡ instance (renaming (λ k. low place (r k))) l
literal_lowers place r l = ap with_args (args_lower place r l.args (for_each (Lowers place r) (term_lowers place r) l.args))
  where
    with_args : List Term → Literal
    with_args args = record { positive = l.positive; pred = l.pred; args = args }

drops_low : {r : ℕ → ℕ} {n : SignedForm} {m : Form} → Drops r n m → (place : ℕ) → Drops (λ k. low place (r k)) n (lowered_form place m)
drops_low (d_yes r) place = d_yes (λ k. low place (r k))
drops_low (d_no r) place = d_no (λ k. low place (r k))
drops_low (d_lit r l) place = subst (λ x. Drops (λ k. low place (r k)) (lit l) (plain.lit x)) (sym (literal_lowers place r l)) (d_lit (λ k. low place (r k)) l)
drops_low (d_and r a b c d x y) place = d_and (λ k. low place (r k)) a b (lowered_form place c) (lowered_form place d) (drops_low x place) (drops_low y place)
drops_low (d_or r a b c d x y) place = d_or (λ k. low place (r k)) a b (lowered_form place c) (lowered_form place d) (drops_low x place) (drops_low y place)
drops_low (d_all r a c x) place =
    d_all (λ k. low place (r k)) a (lowered_form (suc place) c) (subst (λ q. Drops q a (lowered_form (suc place) c)) (sym (fun_ext (under_low place r))) (drops_low x (suc place)))
drops_low (d_ex r sign f a c x) place =
    d_ex (λ k. low place (r k)) sign f a (lowered_form (suc place) c) (subst (λ q. Drops q a (lowered_form (suc place) c)) (sym (fun_ext (under_low place r))) (drops_low x (suc place)))
drops_low (d_vacuous r a c x) place =
    d_vacuous (λ k. low place (r k)) a (lowered_form place c) (subst (λ q. Drops q a (lowered_form place c)) (sym (fun_ext (past_low place r))) (drops_low x place))

-- ---- formulas

abbrev same_numbers : ℕ → ℕ
same_numbers k = k

abbrev Is : SignedForm → Nf → Type 0
Is n a = Drops same_numbers n (form_of a)

is_as : (m n : SignedForm) (a b : Nf) → m ≡ n → a ≡ b → Is n b → Is m a
is_as m n a b e h x = subst (λ z. Is z a) (sym e) (subst (Is n) (sym h) x)

below : (n : SignedForm) (a : Nf) → Is n a → Drops (under same_numbers) n (form_of a)
below n a x = subst (λ q. Drops q n (form_of a)) (sym (fun_ext under_same)) x

left_out : (n : SignedForm) (a : Nf) → Is n a → Drops (past same_numbers) n (form_of (lowered a 0))
left_out n a x = subst (λ q. Drops q n (form_of (lowered a 0))) (sym (fun_ext past_same)) (subst (Drops (λ k. low 0 k) n) (sym (form_lowered a 0)) (drops_low x 0))

all_is : (o : Bool) (n : SignedForm) (a : Nf) → in_form a 0 ≡ o → Is n a → Is (cond o (all n) (vacuous n)) (all_of a)
all_is true n a e x =
    subst (λ b. Is (all n) (cond b (nf.All a) (lowered a 0))) (sym e) (subst (Drops same_numbers (all n)) (sym (form-All a)) (d_all same_numbers n (form_of a) (below n a x)))
all_is false n a e x =
    subst (λ b. Is (vacuous n) (cond b (nf.All a) (lowered a 0))) (sym e) (d_vacuous same_numbers n (form_of (lowered a 0)) (left_out n a x))

ex_is : (o sign : Bool) (f : Formula) (n : SignedForm) (a : Nf) → in_form a 0 ≡ o → Is n a → Is (cond o (ex sign f n) (vacuous n)) (ex_of a)
ex_is true sign f n a e x =
    subst (λ b. Is (ex sign f n) (cond b (nf.Ex a) (lowered a 0))) (sym e) (subst (Drops same_numbers (ex sign f n)) (sym (form-Ex a)) (d_ex same_numbers sign f n (form_of a) (below n a x)))
ex_is false sign f n a e x =
    subst (λ b. Is (vacuous n) (cond b (nf.Ex a) (lowered a 0))) (sym e) (d_vacuous same_numbers n (form_of (lowered a 0)) (left_out n a x))

and_is : (m n : SignedForm) (a b : Nf) → Is m a → Is n b → Is (joined true m n) (nf.And a b)
and_is m n a b x y = subst (Drops same_numbers (joined true m n)) (sym (form-And a b)) (d_and same_numbers m n (form_of a) (form_of b) x y)

or_is : (m n : SignedForm) (a b : Nf) → Is m a → Is n b → Is (joined false m n) (nf.Or a b)
or_is m n a b x y = subst (Drops same_numbers (joined false m n)) (sym (form-Or a b)) (d_or same_numbers m n (form_of a) (form_of b) x y)

yes_is : Is (constant true) nf.True
yes_is = subst (Drops same_numbers (constant true)) (sym form-True) (d_yes same_numbers)

no_is : Is (constant false) nf.False
no_is = subst (Drops same_numbers (constant false)) (sym form-False) (d_no same_numbers)

lit_is : (l : Literal) → Is (lit l) (nf.Lit l)
lit_is l = subst (Drops same_numbers (lit l)) (sym (form-Lit l)) (subst (λ x. Drops same_numbers (lit l) (plain.lit x)) (same_literal l) (d_lit same_numbers l))
  where
    same_args : (args : List Term) → map (substituted Var) args ≡ args
    same_args [] = refl
    same_args (t ∷ args) = ap₂ (λ x xs. x ∷ xs) (same t) (same_args args)

    same_literal : (l : Literal) → instance (renaming same_numbers) l ≡ l
    same_literal l = ap (λ args. record { positive = l.positive; pred = l.pred; args = args }) (same_args l.args)

abbrev Drafted : Formula → Type 0
Drafted f = (sign : Bool) → Is (signed_form f sign) (normal_of f sign)

at_all : (a : Formula) → Drafted a → Drafted (formula.All a)
at_all a h true = is_as _ _ _ _ (signed-All a true) (normal-All-true a) (all_is (in_formula a 0) (signed_form a true) (normal_of a true) (in-normal a true 0) (h true))
at_all a h false = is_as _ _ _ _ (signed-All a false) (normal-All-false a) (ex_is (in_formula a 0) false (formula.All a) (signed_form a false) (normal_of a false) (in-normal a false 0) (h false))

at_ex : (a : Formula) → Drafted a → Drafted (formula.Ex a)
at_ex a h true = is_as _ _ _ _ (signed-Ex a true) (normal-Ex-true a) (ex_is (in_formula a 0) true (formula.Ex a) (signed_form a true) (normal_of a true) (in-normal a true 0) (h true))
at_ex a h false = is_as _ _ _ _ (signed-Ex a false) (normal-Ex-false a) (all_is (in_formula a 0) (signed_form a false) (normal_of a false) (in-normal a false 0) (h false))

at_iff : (a b : Formula) → Drafted a → Drafted b → Drafted (formula.Iff a b)
at_iff a b h k true = is_as _ _ _ _ (signed-Iff a b true) (normal-Iff-true a b)
    (and_is _ _ _ _ (or_is _ _ _ _ (h false) (k true)) (or_is _ _ _ _ (k false) (h true)))
at_iff a b h k false = is_as _ _ _ _ (signed-Iff a b false) (normal-Iff-false a b)
    (and_is _ _ _ _ (or_is _ _ _ _ (h true) (k true)) (or_is _ _ _ _ (h false) (k false)))

at_true : Drafted formula.True
at_true true = is_as _ _ _ _ (signed-True true) normal-True-true yes_is
at_true false = is_as _ _ _ _ (signed-True false) normal-True-false no_is

at_false : Drafted formula.False
at_false true = is_as _ _ _ _ (signed-False true) normal-False-true no_is
at_false false = is_as _ _ _ _ (signed-False false) normal-False-false yes_is

at_and : (a b : Formula) → Drafted a → Drafted b → Drafted (formula.And a b)
at_and a b h k true = is_as _ _ _ _ (signed-And a b true) (normal-And-true a b) (and_is _ _ _ _ (h true) (k true))
at_and a b h k false = is_as _ _ _ _ (signed-And a b false) (normal-And-false a b) (or_is _ _ _ _ (h false) (k false))

at_or : (a b : Formula) → Drafted a → Drafted b → Drafted (formula.Or a b)
at_or a b h k true = is_as _ _ _ _ (signed-Or a b true) (normal-Or-true a b) (or_is _ _ _ _ (h true) (k true))
at_or a b h k false = is_as _ _ _ _ (signed-Or a b false) (normal-Or-false a b) (and_is _ _ _ _ (h false) (k false))

at_imp : (a b : Formula) → Drafted a → Drafted b → Drafted (formula.Imp a b)
at_imp a b h k true = is_as _ _ _ _ (signed-Imp a b true) (normal-Imp-true a b) (or_is _ _ _ _ (h false) (k true))
at_imp a b h k false = is_as _ _ _ _ (signed-Imp a b false) (normal-Imp-false a b) (and_is _ _ _ _ (h true) (k false))

-- the signed form of a formula without its vacuous quantifiers is the formula's normal form
pub drops_formula : (f : Formula) (sign : Bool) → Drops same_numbers (signed_form f sign) (form_of (normal_of f sign))
drops_formula = formula_induction Drafted at_true at_false
    (λ p args sign. is_as _ _ _ _ (signed-Atom p args sign) (normal-Atom p args sign) (lit_is (literal_of sign p args)))
    (λ a h sign. is_as _ _ _ _ (signed-Not a sign) (normal-Not a sign) (h (not sign))) at_and at_or at_imp at_iff at_all at_ex
