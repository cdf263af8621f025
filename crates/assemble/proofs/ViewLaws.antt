-- What occurs in a formula of the program occurs in the theory's, and decides its translation.
use Rattle.std.proofs.Common.{◌≡◌, ℕ, zero, suc, nat_eq, Bool, true, false, ◌||◌, List, [], ◌∷◌, map, refl, sym, ap, ap₂, ◌∙◌, eq-eqb}
use Rattle.std.proofs.lemmas.Bool.{or_left, or_right}
use Rattle.dk_syntax.proofs.FormulaLaws.{formula_induction}
use Rattle.dk_syntax.proofs.ListLaws.{ForEach, for_each}
use Rattle.dk_syntax.proofs.SubstitutionLaws.{has_variable-Any, has_variable-App, has_variable-Var}
use Rattle.dk_syntax.proofs.TermLaws.{term_induction}
use Rattle.dk_syntax.specs.Lists.{any_true}
use Rattle.dk_syntax.specs.Terms.{has_variable}
use Rattle.dk_syntax.specs.declared.Formula.{Formula}
use Rattle.dk_syntax.specs.declared.Term.{Term, Var}
use Rattle.lp_term.specs.Connectives.{all, and, ex, iff, imp, individuals, neg, or}
use Rattle.lp_term.specs.Identifiers.{identifier_of}
use Rattle.lp_term.specs.LambdaPi.{Term as TheoryTerm, app, lam, shift, under_binder}
use Rattle.nd_term.proofs.FormulaViews.{theory-All, theory-And, theory-Any, theory-App, theory-Atom, theory-Ex, theory-False, theory-Iff, theory-Imp, theory-Not, theory-Or, theory-True, theory-Var}
use Rattle.nd_term.specs.Formulas.{FormulaTerm, applied, symbol}
use Rattle.nd_term.specs.Reading.{occurs, occurs_term}
use Rattle.nd_term.specs.Translation.{translated, translated_term}
use Rattle.nd_term.specs.Views.{applied_each, theory_formula, theory_term}
use Rattle.normal_form.proofs.FormulaEquations.{occurs-All, occurs-And, occurs-Atom, occurs-Ex, occurs-False, occurs-Iff, occurs-Imp, occurs-Not, occurs-Or, occurs-True}
use Rattle.normal_form.specs.Occurrence.{in_formula}

-- ---- what occurs

or_last : (a : Bool) → a ≡ (a || false)
or_last true = refl
or_last false = refl

or_three : (a b c : Bool) → ((a || b) || c) ≡ (a || (b || c))
or_three true b c = refl
or_three false b c = refl

abbrev OccursTerm : Term → Type 0
OccursTerm t = (k : ℕ) → occurs_term k (theory_term t) ≡ has_variable k t

occurs_each : (k : ℕ) (h : FormulaTerm) (args : List Term) → ForEach OccursTerm args
    → occurs_term k (applied_each h (map theory_term args)) ≡ (occurs_term k h || any_true (map (has_variable k) args))
occurs_each k h [] w = or_last (occurs_term k h)
occurs_each k h (t ∷ rest) w =
    occurs_each k (applied h (theory_term t)) rest w.1 ∙ or_three (occurs_term k h) (occurs_term k (theory_term t)) (any_true (map (has_variable k) rest))
    ∙ ap (λ b. occurs_term k h || (b || any_true (map (has_variable k) rest))) (w.0 k)

term_occurs : (t : Term) → OccursTerm t
term_occurs = term_induction OccursTerm
    (λ n k. ap (occurs_term k) (theory-Var n) ∙ sym (has_variable-Var k n))
    (λ head args h k. ap (occurs_term k) (theory-App head args) ∙ occurs_each k (symbol (identifier_of head)) args h ∙ sym (has_variable-App k head args))
    (λ k. ap (occurs_term k) theory-Any ∙ sym (has_variable-Any k))

abbrev Occurs : Formula → Type 0
Occurs f = (k : ℕ) → occurs k (theory_formula f) ≡ in_formula f k

two_occur : (k : ℕ) (a b : Formula) → Occurs a → Occurs b → (occurs k (theory_formula a) || occurs k (theory_formula b)) ≡ (in_formula a k || in_formula b k)
two_occur k a b h j = ap₂ (λ x y. x || y) (h k) (j k)

pub formula_occurs : (f : Formula) → Occurs f
formula_occurs = formula_induction Occurs
    (λ k. ap (occurs k) theory-True ∙ sym (occurs-True k)) (λ k. ap (occurs k) theory-False ∙ sym (occurs-False k))
    (λ p args k. ap (occurs k) (theory-Atom p args) ∙ occurs_each k (symbol (identifier_of p)) args (for_each OccursTerm term_occurs args) ∙ sym (occurs-Atom k p args))
    (λ a h k. ap (occurs k) (theory-Not a) ∙ h k ∙ sym (occurs-Not k a))
    (λ a b h j k. ap (occurs k) (theory-And a b) ∙ two_occur k a b h j ∙ sym (occurs-And k a b))
    (λ a b h j k. ap (occurs k) (theory-Or a b) ∙ two_occur k a b h j ∙ sym (occurs-Or k a b))
    (λ a b h j k. ap (occurs k) (theory-Imp a b) ∙ two_occur k a b h j ∙ sym (occurs-Imp k a b))
    (λ a b h j k. ap (occurs k) (theory-Iff a b) ∙ two_occur k a b h j ∙ sym (occurs-Iff k a b))
    (λ a h k. ap (occurs k) (theory-All a) ∙ h (suc k) ∙ sym (occurs-All k a))
    (λ a h k. ap (occurs k) (theory-Ex a) ∙ h (suc k) ∙ sym (occurs-Ex k a))

-- ---- translations with the same terms for what occurs

abbrev Agree : (ℕ → Bool) → (ℕ → TheoryTerm) → (ℕ → TheoryTerm) → Type 0
Agree free v w = (k : ℕ) → free k ≡ true → v k ≡ w k

abbrev SameTerm : (ℕ → TheoryTerm) → (ℕ → TheoryTerm) → Term → Type 0
SameTerm v w t = Agree (λ k. has_variable k t) v w → translated_term v (theory_term t) ≡ translated_term w (theory_term t)

own_variable : (n : ℕ) → has_variable n (Var n) ≡ true
own_variable n = has_variable-Var n n ∙ same_number n
  where
    same_number : (n : ℕ) → nat_eq n n ≡ true
    same_number n = eq-eqb n n refl

each_same : (v w : ℕ → TheoryTerm) (h : FormulaTerm) (args : List Term) → ForEach (SameTerm v w) args → Agree (λ k. any_true (map (has_variable k) args)) v w
    → translated_term v h ≡ translated_term w h → translated_term v (applied_each h (map theory_term args)) ≡ translated_term w (applied_each h (map theory_term args))
each_same v w h [] s a e = e
each_same v w h (t ∷ rest) s a e =
    each_same v w (applied h (theory_term t)) rest s.1 (λ k i. a k (or_right (has_variable k t) (any_true (map (has_variable k) rest)) i))
    (ap₂ app e (s.0 (λ k i. a k (or_left (has_variable k t) (any_true (map (has_variable k) rest)) i))))

term_same : (v w : ℕ → TheoryTerm) (t : Term) → SameTerm v w t
term_same v w = term_induction (SameTerm v w)
    (λ n a. ap (translated_term v) (theory-Var n) ∙ a n (own_variable n) ∙ sym (ap (translated_term w) (theory-Var n)))
    (λ head args h a. ap (translated_term v) (theory-App head args)
    ∙ each_same v w (symbol (identifier_of head)) args h (λ k i. a k (has_variable-App k head args ∙ i)) refl
    ∙ sym (ap (translated_term w) (theory-App head args)))
    (λ a. ap (translated_term v) theory-Any ∙ sym (ap (translated_term w) theory-Any))

under_same : (f : Formula) (v w : ℕ → TheoryTerm) → Agree (λ k. in_formula f (suc k)) v w → Agree (in_formula f) (under_binder v) (under_binder w)
under_same f v w a zero i = refl
under_same f v w a (suc k) i = ap shift (a k i)

abbrev Same : Formula → Type 0
Same f = (v w : ℕ → TheoryTerm) → Agree (in_formula f) v w → translated v (theory_formula f) ≡ translated w (theory_formula f)

two_same : (make : TheoryTerm → TheoryTerm → TheoryTerm) (a b : Formula) → Same a → Same b → (v w : ℕ → TheoryTerm) → Agree (λ k. in_formula a k || in_formula b k) v w
    → make (translated v (theory_formula a)) (translated v (theory_formula b)) ≡ make (translated w (theory_formula a)) (translated w (theory_formula b))
two_same make a b h j v w g =
    ap₂ make (h v w (λ k i. g k (or_left (in_formula a k) (in_formula b k) i))) (j v w (λ k i. g k (or_right (in_formula a k) (in_formula b k) i)))

-- the translation is the same where the terms of the variables that occur are
pub translated_same : (f : Formula) → Same f
translated_same = formula_induction Same
    (λ v w g. ap (translated v) theory-True ∙ sym (ap (translated w) theory-True)) (λ v w g. ap (translated v) theory-False ∙ sym (ap (translated w) theory-False))
    (λ p args v w g. ap (translated v) (theory-Atom p args)
    ∙ each_same v w (symbol (identifier_of p)) args (for_each (SameTerm v w) (term_same v w) args) (λ k i. g k (occurs-Atom k p args ∙ i)) refl
    ∙ sym (ap (translated w) (theory-Atom p args)))
    (λ a h v w g. ap (translated v) (theory-Not a) ∙ ap neg (h v w (λ k i. g k (occurs-Not k a ∙ i))) ∙ sym (ap (translated w) (theory-Not a)))
    (λ a b h j v w g. ap (translated v) (theory-And a b) ∙ two_same and a b h j v w (λ k i. g k (occurs-And k a b ∙ i)) ∙ sym (ap (translated w) (theory-And a b)))
    (λ a b h j v w g. ap (translated v) (theory-Or a b) ∙ two_same or a b h j v w (λ k i. g k (occurs-Or k a b ∙ i)) ∙ sym (ap (translated w) (theory-Or a b)))
    (λ a b h j v w g. ap (translated v) (theory-Imp a b) ∙ two_same imp a b h j v w (λ k i. g k (occurs-Imp k a b ∙ i)) ∙ sym (ap (translated w) (theory-Imp a b)))
    (λ a b h j v w g. ap (translated v) (theory-Iff a b) ∙ two_same iff a b h j v w (λ k i. g k (occurs-Iff k a b ∙ i)) ∙ sym (ap (translated w) (theory-Iff a b)))
    (λ a h v w g. ap (translated v) (theory-All a)
    ∙ ap (λ b. all (lam individuals b)) (h (under_binder v) (under_binder w) (under_same a v w (λ k i. g k (occurs-All k a ∙ i))))
    ∙ sym (ap (translated w) (theory-All a)))
    (λ a h v w g. ap (translated v) (theory-Ex a)
    ∙ ap (λ b. ex (lam individuals b)) (h (under_binder v) (under_binder w) (under_same a v w (λ k i. g k (occurs-Ex k a ∙ i))))
    ∙ sym (ap (translated w) (theory-Ex a)))
