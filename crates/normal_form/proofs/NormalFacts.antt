-- Normal forms are closed, without vacuous quantifiers and well-formed; and where a quantifier is dropped.
use Rattle.std.proofs.Common.{◌≡◌, ◌<◌, ◌≤◌, ℕ, zero, suc, ◌-◌, ◌+◌, inl, inr, Bool, true, false, ◌&&◌, ◌||◌, nat_eq, nat_lt, if◌then◌else◌, List, [], ◌∷◌, map, refl, sym, ap, ap₂, ◌∙◌, subst, arith}
use Rattle.std.proofs.lemmas.Bool.Decides.{nat_tests}
use Rattle.std.proofs.lemmas.List.{length-map}
use Rattle.dk_syntax.proofs.FormulaLaws.{formula_induction}
use Rattle.dk_syntax.proofs.ListLaws.{ForEach, for_each}
use Rattle.dk_syntax.proofs.TermLaws.{term_induction}
use Rattle.dk_syntax.proofs.WellFormedLaws.{closed-All, closed-And, closed-App, closed-Atom, closed-Ex, closed-Iff, closed-Imp, closed-Not, closed-Or, closed-Var, well_formed-All, well_formed-And, well_formed-App, well_formed-Atom, well_formed-Ex, well_formed-Iff, well_formed-Imp, well_formed-Not, well_formed-Or, well_formed-Var}
use Rattle.dk_syntax.specs.WellFormed.{all_true, closed_under, fits_symbol, IsWellFormed, term_closed_under, well_formed, well_formed_literal, well_formed_term}
use Rattle.dk_syntax.specs.declared.Formula.{Formula}
use Rattle.dk_syntax.specs.declared.Kind.TheVariants.{Function, Predicate}
use Rattle.dk_syntax.specs.declared.Literal.{Literal}
use Rattle.dk_syntax.specs.declared.Term.{Term, Var}
use Rattle.normal_form.proofs.BoolLaws.{and_left, and_right, test_cases}
use Rattle.normal_form.proofs.Counting.{in-normal}
use Rattle.normal_form.proofs.FormEquations.{in-All, in-And, in-Any, in-App, in-Ex, in-False, in-Lit, in-Or, in-True, in-Var, lowered-All, lowered-And, lowered-Any, lowered-App, lowered-Ex, lowered-False, lowered-Lit, lowered-Or, lowered-True, lowered-Var}
use Rattle.normal_form.proofs.FormInduction.{form_induction}
use Rattle.normal_form.proofs.FormLaws.{form-All, form-And, form-Ex, form-False, form-Lit, form-Or, form-True}
use Rattle.normal_form.proofs.FormulaEquations.{normal-All-false, normal-All-true, normal-Ex-false, normal-Ex-true, occurs-All, occurs-And, occurs-Atom, occurs-Ex, occurs-False, occurs-Iff, occurs-Imp, occurs-Not, occurs-Or, occurs-True}
use Rattle.normal_form.proofs.NormalInduction.{Joins, normal_has, Parts}
use Rattle.normal_form.specs.FormFacts.{HasNoVacuous, HasWellFormedLiterals}
use Rattle.normal_form.specs.Forms.{Form, form_of, free}
use Rattle.normal_form.specs.Forms as form
use Rattle.normal_form.specs.Laws.{ClosedStaysClosed, NoneIsVacuous, VacuousIsDropped, WellFormedStays}
use Rattle.normal_form.specs.Lowered.{lowered, lowered_literal, lowered_term}
use Rattle.normal_form.specs.Normal.{all_of, ex_of, literal_of, normal_of}
use Rattle.normal_form.specs.Occurrence.{any_true, in_form, in_formula, has_variable}
use Rattle.normal_form.specs.declared.form.Nf.{Nf}
use Rattle.normal_form.specs.declared.form.Nf.TheVariants as nf

-- ---- closed

-- a variable from the level on isn't in the term
abbrev IsWithout : ℕ → ℕ → Term → Type 0
IsWithout level k t = term_closed_under level t ≡ true → has_variable k t ≡ false

args_without : (level k : ℕ) (ts : List Term) → ForEach (IsWithout level k) ts → all_true (map (term_closed_under level) ts) ≡ true → any_true (map (has_variable k) ts) ≡ false
args_without level k [] h w = refl
args_without level k (t ∷ ts) h w =
    ap₂ (λ a b. a || b) (h.0 (and_left (term_closed_under level t) (all_true (map (term_closed_under level) ts)) w))
    (args_without level k ts h.1 (and_right (term_closed_under level t) (all_true (map (term_closed_under level) ts)) w))

term_without : (level k : ℕ) → level ≤ k → (t : Term) → IsWithout level k t
term_without level k far = term_induction (IsWithout level k)
    (λ n w. in-Var k n ∙ (let v = sym (closed-Var n level) ∙ w in let r : nat_eq n k ≡ false = grind (arith, nat_tests) in r))
    (λ s args h w. in-App k s args ∙ args_without level k args h (sym (closed-App s args level) ∙ w))
    (λ w. in-Any k)

-- a variable from the level on isn't in the formula
abbrev HasNone : Formula → Type 0
HasNone f = (level k : ℕ) → level ≤ k → closed_under f level ≡ true → in_formula f k ≡ false

none_of_two : (a b : Formula) → HasNone a → HasNone b → (level k : ℕ) → level ≤ k → closed_under a level && closed_under b level ≡ true → in_formula a k || in_formula b k ≡ false
none_of_two a b g h level k far w =
    ap₂ (λ x y. x || y) (g level k far (and_left (closed_under a level) (closed_under b level) w)) (h level k far (and_right (closed_under a level) (closed_under b level) w))

formula_without : (f : Formula) → HasNone f
formula_without = formula_induction HasNone
    (λ level k far w. occurs-True k)
    (λ level k far w. occurs-False k)
    (λ s args level k far w. occurs-Atom k s args ∙ args_without level k args (for_each (IsWithout level k) (term_without level k far) args) (sym (closed-Atom s args level) ∙ w))
    (λ a h level k far w. occurs-Not k a ∙ h level k far (sym (closed-Not a level) ∙ w))
    (λ a b g h level k far w. occurs-And k a b ∙ none_of_two a b g h level k far (sym (closed-And a b level) ∙ w))
    (λ a b g h level k far w. occurs-Or k a b ∙ none_of_two a b g h level k far (sym (closed-Or a b level) ∙ w))
    (λ a b g h level k far w. occurs-Imp k a b ∙ none_of_two a b g h level k far (sym (closed-Imp a b level) ∙ w))
    (λ a b g h level k far w. occurs-Iff k a b ∙ none_of_two a b g h level k far (sym (closed-Iff a b level) ∙ w))
    (λ a h level k far w. occurs-All k a ∙ h (level + 1) (suc k) (omega (arith, far)) (sym (closed-All a level) ∙ w))
    (λ a h level k far w. occurs-Ex k a ∙ h (level + 1) (suc k) (omega (arith, far)) (sym (closed-Ex a level) ∙ w))

pub closed_stays_closed : ClosedStaysClosed
closed_stays_closed f sign h k = in-normal f sign k ∙ formula_without f 0 k (omega arith) h

-- ---- quantifiers

pub vacuous_is_dropped : VacuousIsDropped
vacuous_is_dropped a = (
  normal-All-true a ∙ ap (λ x. if x then nf.All (normal_of a true) else lowered (normal_of a true) 0) (in-normal a true 0),
  normal-All-false a ∙ ap (λ x. if x then nf.Ex (normal_of a false) else lowered (normal_of a false) 0) (in-normal a false 0),
  normal-Ex-true a ∙ ap (λ x. if x then nf.Ex (normal_of a true) else lowered (normal_of a true) 0) (in-normal a true 0),
  normal-Ex-false a ∙ ap (λ x. if x then nf.All (normal_of a false) else lowered (normal_of a false) 0) (in-normal a false 0),
)

-- the two words for a variable that is free
pub free_is : (a : Nf) (k : ℕ) → free k (form_of a) ≡ in_form a k
free_is = form_induction (λ a. (k : ℕ) → free k (form_of a) ≡ in_form a k)
    (λ k. ap (free k) form-True ∙ sym (in-True k))
    (λ k. ap (free k) form-False ∙ sym (in-False k))
    (λ l k. ap (free k) (form-Lit l) ∙ sym (in-Lit k l))
    (λ a b g h k. ap (free k) (form-And a b) ∙ ap₂ (λ x y. x || y) (g k) (h k) ∙ sym (in-And k a b))
    (λ a b g h k. ap (free k) (form-Or a b) ∙ ap₂ (λ x y. x || y) (g k) (h k) ∙ sym (in-Or k a b))
    (λ a h k. ap (free k) (form-All a) ∙ h (suc k) ∙ sym (in-All k a))
    (λ a h k. ap (free k) (form-Ex a) ∙ h (suc k) ∙ sym (in-Ex k a))

-- a variable below the place of a lowering stays
abbrev StaysBelow : ℕ → ℕ → Term → Type 0
StaysBelow j k t = has_variable k (lowered_term j t) ≡ has_variable k t

args_below : (j k : ℕ) (ts : List Term) → ForEach (StaysBelow j k) ts → any_true (map (has_variable k) (map (lowered_term j) ts)) ≡ any_true (map (has_variable k) ts)
args_below j k [] h = refl
args_below j k (t ∷ ts) h = ap₂ (λ x y. x || y) h.0 (args_below j k ts h.1)

var_below : (j k n : ℕ) → k < j → StaysBelow j k (Var n)
var_below j k n b = elim (test_cases (nat_lt j n)) [
  | inl p ↦
      ap (has_variable k) (lowered-Var j n ∙ ap (λ x. if x then Var (n - 1) else Var n) p) ∙ in-Var k (n - 1)
      ∙ (let h : nat_eq (n - 1) k ≡ nat_eq n k = grind (arith, nat_tests) in h) ∙ sym (in-Var k n)
  | inr p ↦ ap (has_variable k) (lowered-Var j n ∙ ap (λ x. if x then Var (n - 1) else Var n) p)
]

term_below : (j k : ℕ) → k < j → (t : Term) → StaysBelow j k t
term_below j k b = term_induction (StaysBelow j k)
    (λ n. var_below j k n b)
    (λ s args h. ap (has_variable k) (lowered-App j s args) ∙ in-App k s (map (lowered_term j) args) ∙ args_below j k args h ∙ sym (in-App k s args))
    (ap (has_variable k) (lowered-Any j))

form_below : (a : Nf) (j k : ℕ) → k < j → in_form (lowered a j) k ≡ in_form a k
form_below = form_induction (λ a. (j k : ℕ) → k < j → in_form (lowered a j) k ≡ in_form a k)
    (λ j k b. ap (λ a. in_form a k) (lowered-True j))
    (λ j k b. ap (λ a. in_form a k) (lowered-False j))
    (λ l j k b. ap (λ a. in_form a k) (lowered-Lit j l) ∙ in-Lit k (lowered_literal j l) ∙ args_below j k l.args (for_each (StaysBelow j k) (term_below j k b) l.args) ∙ sym (in-Lit k l))
    (λ a c g h j k b. ap (λ x. in_form x k) (lowered-And j a c) ∙ in-And k (lowered a j) (lowered c j) ∙ ap₂ (λ x y. x || y) (g j k b) (h j k b) ∙ sym (in-And k a c))
    (λ a c g h j k b. ap (λ x. in_form x k) (lowered-Or j a c) ∙ in-Or k (lowered a j) (lowered c j) ∙ ap₂ (λ x y. x || y) (g j k b) (h j k b) ∙ sym (in-Or k a c))
    (λ a g j k b. ap (λ x. in_form x k) (lowered-All j a) ∙ in-All k (lowered a (suc j)) ∙ g (suc j) (suc k) (omega (arith, b)) ∙ sym (in-All k a))
    (λ a g j k b. ap (λ x. in_form x k) (lowered-Ex j a) ∙ in-Ex k (lowered a (suc j)) ∙ g (suc j) (suc k) (omega (arith, b)) ∙ sym (in-Ex k a))

abbrev IsTight : Nf → Type 0
IsTight a = HasNoVacuous (form_of a)

tight_at : (a : Nf) (b : Form) → form_of a ≡ b → HasNoVacuous b → IsTight a
tight_at a b e = subst HasNoVacuous (sym e)

tight_of : (a : Nf) (b : Form) → form_of a ≡ b → IsTight a → HasNoVacuous b
tight_of a b e = subst HasNoVacuous e

-- the variable of a quantifier inside stays free
inner_free : (a : Nf) (j : ℕ) → free 0 (form_of a) ≡ true → free 0 (form_of (lowered a (suc j))) ≡ true
inner_free a j h = free_is (lowered a (suc j)) 0 ∙ form_below a (suc j) 0 (omega arith) ∙ sym (free_is a 0) ∙ h

tight_lowered : (a : Nf) (j : ℕ) → IsTight a → IsTight (lowered a j)
tight_lowered = form_induction (λ a. (j : ℕ) → IsTight a → IsTight (lowered a j))
    (λ j h. tight_at (lowered nf.True j) form.yes (ap form_of (lowered-True j) ∙ form-True) tt)
    (λ j h. tight_at (lowered nf.False j) form.no (ap form_of (lowered-False j) ∙ form-False) tt)
    (λ l j h. tight_at (lowered (nf.Lit l) j) (form.lit (lowered_literal j l)) (ap form_of (lowered-Lit j l) ∙ form-Lit (lowered_literal j l)) tt)
    (λ a b g h j w.
    let v = tight_of (nf.And a b) (form.and (form_of a) (form_of b)) (form-And a b) w in
    tight_at (lowered (nf.And a b) j) (form.and (form_of (lowered a j)) (form_of (lowered b j))) (ap form_of (lowered-And j a b) ∙ form-And (lowered a j) (lowered b j)) (g j v.0, h j v.1))
    (λ a b g h j w.
    let v = tight_of (nf.Or a b) (form.or (form_of a) (form_of b)) (form-Or a b) w in
    tight_at (lowered (nf.Or a b) j) (form.or (form_of (lowered a j)) (form_of (lowered b j))) (ap form_of (lowered-Or j a b) ∙ form-Or (lowered a j) (lowered b j)) (g j v.0, h j v.1))
    (λ a g j w.
    let v = tight_of (nf.All a) (form.all (form_of a)) (form-All a) w in
    tight_at (lowered (nf.All a) j) (form.all (form_of (lowered a (suc j)))) (ap form_of (lowered-All j a) ∙ form-All (lowered a (suc j))) (inner_free a j v.0, g (suc j) v.1))
    (λ a g j w.
    let v = tight_of (nf.Ex a) (form.ex (form_of a)) (form-Ex a) w in
    tight_at (lowered (nf.Ex a) j) (form.ex (form_of (lowered a (suc j)))) (ap form_of (lowered-Ex j a) ∙ form-Ex (lowered a (suc j))) (inner_free a j v.0, g (suc j) v.1))

tight_all : (a : Nf) → IsTight a → IsTight (all_of a)
tight_all a h = elim (test_cases (in_form a zero)) [
  | inl p ↦ subst IsTight (sym (ap (λ x. if x then nf.All a else lowered a zero) p)) (tight_at (nf.All a) (form.all (form_of a)) (form-All a) (free_is a 0 ∙ p, h))
  | inr p ↦ subst IsTight (sym (ap (λ x. if x then nf.All a else lowered a zero) p)) (tight_lowered a zero h)
]

tight_ex : (a : Nf) → IsTight a → IsTight (ex_of a)
tight_ex a h = elim (test_cases (in_form a zero)) [
  | inl p ↦ subst IsTight (sym (ap (λ x. if x then nf.Ex a else lowered a zero) p)) (tight_at (nf.Ex a) (form.ex (form_of a)) (form-Ex a) (free_is a 0 ∙ p, h))
  | inr p ↦ subst IsTight (sym (ap (λ x. if x then nf.Ex a else lowered a zero) p)) (tight_lowered a zero h)
]

tight_joins : Joins IsTight
tight_joins = record {
  at_true = tight_at nf.True form.yes form-True tt;
  at_false = tight_at nf.False form.no form-False tt;
  at_and = λ a b h k. tight_at (nf.And a b) (form.and (form_of a) (form_of b)) (form-And a b) (h, k);
  at_or = λ a b h k. tight_at (nf.Or a b) (form.or (form_of a) (form_of b)) (form-Or a b) (h, k);
  at_all = tight_all;
  at_ex = tight_ex;
}

any_parts : Parts (λ f. Unit {0})
any_parts = record {
  of_not = λ a q. tt;
  of_and = λ a b q. (tt, tt);
  of_or = λ a b q. (tt, tt);
  of_imp = λ a b q. (tt, tt);
  of_iff = λ a b q. (tt, tt);
  of_all = λ a q. tt;
  of_ex = λ a q. tt;
}

pub none_is_vacuous : NoneIsVacuous
none_is_vacuous f sign =
    normal_has (λ f. Unit {0}) IsTight any_parts tight_joins
    (λ s args sign q. tight_at (nf.Lit (literal_of sign s args)) (form.lit (literal_of sign s args)) (form-Lit (literal_of sign s args)) tt) f tt sign

-- ---- well-formed

abbrev StaysFormed : ℕ → Term → Type 0
StaysFormed j t = well_formed_term (lowered_term j t) ≡ well_formed_term t

args_formed : (j : ℕ) (ts : List Term) → ForEach (StaysFormed j) ts → all_true (map well_formed_term (map (lowered_term j) ts)) ≡ all_true (map well_formed_term ts)
args_formed j [] h = refl
args_formed j (t ∷ ts) h = ap₂ (λ x y. x && y) h.0 (args_formed j ts h.1)

term_formed : (j : ℕ) (t : Term) → StaysFormed j t
term_formed j = term_induction (StaysFormed j)
    (λ n. elim (test_cases (nat_lt j n)) [
      | inl p ↦ ap well_formed_term (lowered-Var j n ∙ ap (λ x. if x then Var (n - 1) else Var n) p) ∙ well_formed-Var (n - 1) ∙ sym (well_formed-Var n)
      | inr p ↦ ap well_formed_term (lowered-Var j n ∙ ap (λ x. if x then Var (n - 1) else Var n) p)
    ])
    (λ s args h.
    ap well_formed_term (lowered-App j s args) ∙ well_formed-App s (map (lowered_term j) args)
    ∙ ap₂ (λ n b. fits_symbol Function s n && b) (length-map args (lowered_term j)) (args_formed j args h) ∙ sym (well_formed-App s args))
    (ap well_formed_term (lowered-Any j))

literal_formed : (j : ℕ) (l : Literal) → well_formed_literal (lowered_literal j l) ≡ well_formed_literal l
literal_formed j l =
    ap₂ (λ n b. fits_symbol Predicate l.pred n && b) (length-map l.args (lowered_term j)) (args_formed j l.args (for_each (StaysFormed j) (term_formed j) l.args))

abbrev IsFormed : Nf → Type 0
IsFormed a = HasWellFormedLiterals (form_of a)

formed_at : (a : Nf) (b : Form) → form_of a ≡ b → HasWellFormedLiterals b → IsFormed a
formed_at a b e = subst HasWellFormedLiterals (sym e)

formed_of : (a : Nf) (b : Form) → form_of a ≡ b → IsFormed a → HasWellFormedLiterals b
formed_of a b e = subst HasWellFormedLiterals e

formed_lowered : (a : Nf) (j : ℕ) → IsFormed a → IsFormed (lowered a j)
formed_lowered = form_induction (λ a. (j : ℕ) → IsFormed a → IsFormed (lowered a j))
    (λ j h. formed_at (lowered nf.True j) form.yes (ap form_of (lowered-True j) ∙ form-True) tt)
    (λ j h. formed_at (lowered nf.False j) form.no (ap form_of (lowered-False j) ∙ form-False) tt)
    (λ l j h.
    formed_at (lowered (nf.Lit l) j) (form.lit (lowered_literal j l)) (ap form_of (lowered-Lit j l) ∙ form-Lit (lowered_literal j l))
    (literal_formed j l ∙ formed_of (nf.Lit l) (form.lit l) (form-Lit l) h))
    (λ a b g h j w.
    let v = formed_of (nf.And a b) (form.and (form_of a) (form_of b)) (form-And a b) w in
    formed_at (lowered (nf.And a b) j) (form.and (form_of (lowered a j)) (form_of (lowered b j))) (ap form_of (lowered-And j a b) ∙ form-And (lowered a j) (lowered b j)) (g j v.0, h j v.1))
    (λ a b g h j w.
    let v = formed_of (nf.Or a b) (form.or (form_of a) (form_of b)) (form-Or a b) w in
    formed_at (lowered (nf.Or a b) j) (form.or (form_of (lowered a j)) (form_of (lowered b j))) (ap form_of (lowered-Or j a b) ∙ form-Or (lowered a j) (lowered b j)) (g j v.0, h j v.1))
    (λ a g j w.
    formed_at (lowered (nf.All a) j) (form.all (form_of (lowered a (suc j)))) (ap form_of (lowered-All j a) ∙ form-All (lowered a (suc j)))
    (g (suc j) (formed_of (nf.All a) (form.all (form_of a)) (form-All a) w)))
    (λ a g j w.
    formed_at (lowered (nf.Ex a) j) (form.ex (form_of (lowered a (suc j)))) (ap form_of (lowered-Ex j a) ∙ form-Ex (lowered a (suc j)))
    (g (suc j) (formed_of (nf.Ex a) (form.ex (form_of a)) (form-Ex a) w)))

formed_all : (a : Nf) → IsFormed a → IsFormed (all_of a)
formed_all a h = elim (test_cases (in_form a zero)) [
  | inl p ↦ subst IsFormed (sym (ap (λ x. if x then nf.All a else lowered a zero) p)) (formed_at (nf.All a) (form.all (form_of a)) (form-All a) h)
  | inr p ↦ subst IsFormed (sym (ap (λ x. if x then nf.All a else lowered a zero) p)) (formed_lowered a zero h)
]

formed_ex : (a : Nf) → IsFormed a → IsFormed (ex_of a)
formed_ex a h = elim (test_cases (in_form a zero)) [
  | inl p ↦ subst IsFormed (sym (ap (λ x. if x then nf.Ex a else lowered a zero) p)) (formed_at (nf.Ex a) (form.ex (form_of a)) (form-Ex a) h)
  | inr p ↦ subst IsFormed (sym (ap (λ x. if x then nf.Ex a else lowered a zero) p)) (formed_lowered a zero h)
]

formed_joins : Joins IsFormed
formed_joins = record {
  at_true = formed_at nf.True form.yes form-True tt;
  at_false = formed_at nf.False form.no form-False tt;
  at_and = λ a b h k. formed_at (nf.And a b) (form.and (form_of a) (form_of b)) (form-And a b) (h, k);
  at_or = λ a b h k. formed_at (nf.Or a b) (form.or (form_of a) (form_of b)) (form-Or a b) (h, k);
  at_all = formed_all;
  at_ex = formed_ex;
}

both_of : (a b : Bool) → a && b ≡ true → (a ≡ true) × (b ≡ true)
both_of a b h = (and_left a b h, and_right a b h)

formed_parts : Parts IsWellFormed
formed_parts = record {
  of_not = λ a q. sym (well_formed-Not a) ∙ q;
  of_and = λ a b q. both_of (well_formed a) (well_formed b) (sym (well_formed-And a b) ∙ q);
  of_or = λ a b q. both_of (well_formed a) (well_formed b) (sym (well_formed-Or a b) ∙ q);
  of_imp = λ a b q. both_of (well_formed a) (well_formed b) (sym (well_formed-Imp a b) ∙ q);
  of_iff = λ a b q. both_of (well_formed a) (well_formed b) (sym (well_formed-Iff a b) ∙ q);
  of_all = λ a q. sym (well_formed-All a) ∙ q;
  of_ex = λ a q. sym (well_formed-Ex a) ∙ q;
}

pub well_formed_stays : WellFormedStays
well_formed_stays f sign h =
    normal_has IsWellFormed IsFormed formed_parts formed_joins
    (λ s args sign q. formed_at (nf.Lit (literal_of sign s args)) (form.lit (literal_of sign s args)) (form-Lit (literal_of sign s args)) (sym (well_formed-Atom s args) ∙ q)) f h sign
