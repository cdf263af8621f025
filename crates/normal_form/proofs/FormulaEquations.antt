-- What the definitions say of each kind of formula.
use Rattle.std.proofs.Common.{◌≡◌, ℕ, suc, Bool, true, false, not, ◌&&◌, ◌||◌, List, map, rules}
use Rattle.dk_syntax.specs.declared.Formula.{Formula, the_lemmas as of_formulas}
use Rattle.dk_syntax.specs.declared.Formula.TheVariants as formula
use Rattle.dk_syntax.specs.declared.SymKey.{SymKey}
use Rattle.dk_syntax.specs.declared.Term.{Term}
use Rattle.normal_form.specs.Normal.{all_of, ex_of, literal_of, normal_of}
use Rattle.normal_form.specs.Occurrence.{any_true, in_formula, has_variable}
use Rattle.normal_form.specs.Truth.{Interpretation, truth, value, with_value}
use Rattle.normal_form.specs.declared.form.Nf.TheVariants as nf

pub meaning-True : {D : Type 0} (i : Interpretation D) (e : ℕ → D) → truth i formula.True e ≡ true
meaning-True i e = search (rules, of_formulas)

pub meaning-False : {D : Type 0} (i : Interpretation D) (e : ℕ → D) → truth i formula.False e ≡ false
meaning-False i e = search (rules, of_formulas)

pub meaning-Atom : {D : Type 0} (i : Interpretation D) (e : ℕ → D) (s : SymKey) (args : List Term) → truth i (formula.Atom s args) e ≡ i.predicate s (map (value i e) args)
meaning-Atom i e s args = search (rules, of_formulas)

pub meaning-Not : {D : Type 0} (i : Interpretation D) (e : ℕ → D) (a : Formula) → truth i (formula.Not a) e ≡ not (truth i a e)
meaning-Not i e a = search (rules, of_formulas)

pub meaning-And : {D : Type 0} (i : Interpretation D) (e : ℕ → D) (a : Formula) (b : Formula) → truth i (formula.And a b) e ≡ truth i a e && truth i b e
meaning-And i e a b = search (rules, of_formulas)

pub meaning-Or : {D : Type 0} (i : Interpretation D) (e : ℕ → D) (a : Formula) (b : Formula) → truth i (formula.Or a b) e ≡ truth i a e || truth i b e
meaning-Or i e a b = search (rules, of_formulas)

pub meaning-Imp : {D : Type 0} (i : Interpretation D) (e : ℕ → D) (a : Formula) (b : Formula) → truth i (formula.Imp a b) e ≡ not (truth i a e) || truth i b e
meaning-Imp i e a b = search (rules, of_formulas)

pub meaning-Iff : {D : Type 0} (i : Interpretation D) (e : ℕ → D) (a : Formula) (b : Formula) → truth i (formula.Iff a b) e ≡ (not (truth i a e) || truth i b e) && (not (truth i b e) || truth i a e)
meaning-Iff i e a b = search (rules, of_formulas)

pub meaning-All : {D : Type 0} (i : Interpretation D) (e : ℕ → D) (a : Formula) → truth i (formula.All a) e ≡ i.all (λ d. truth i a (with_value d e))
meaning-All i e a = search (rules, of_formulas)

pub meaning-Ex : {D : Type 0} (i : Interpretation D) (e : ℕ → D) (a : Formula) → truth i (formula.Ex a) e ≡ i.ex (λ d. truth i a (with_value d e))
meaning-Ex i e a = search (rules, of_formulas)

pub normal-True-true : normal_of formula.True true ≡ nf.True
normal-True-true = search (rules, of_formulas)

pub normal-True-false : normal_of formula.True false ≡ nf.False
normal-True-false = search (rules, of_formulas)

pub normal-False-true : normal_of formula.False true ≡ nf.False
normal-False-true = search (rules, of_formulas)

pub normal-False-false : normal_of formula.False false ≡ nf.True
normal-False-false = search (rules, of_formulas)

pub normal-Atom : (s : SymKey) (args : List Term) (sign : Bool) → normal_of (formula.Atom s args) sign ≡ nf.Lit (literal_of sign s args)
normal-Atom s args sign = search (rules, of_formulas)

pub normal-Not : (a : Formula) (sign : Bool) → normal_of (formula.Not a) sign ≡ normal_of a (not sign)
normal-Not a sign = search (rules, of_formulas)

pub normal-And-true : (a : Formula) (b : Formula) → normal_of (formula.And a b) true ≡ nf.And (normal_of a true) (normal_of b true)
normal-And-true a b = search (rules, of_formulas)

pub normal-And-false : (a : Formula) (b : Formula) → normal_of (formula.And a b) false ≡ nf.Or (normal_of a false) (normal_of b false)
normal-And-false a b = search (rules, of_formulas)

pub normal-Or-true : (a : Formula) (b : Formula) → normal_of (formula.Or a b) true ≡ nf.Or (normal_of a true) (normal_of b true)
normal-Or-true a b = search (rules, of_formulas)

pub normal-Or-false : (a : Formula) (b : Formula) → normal_of (formula.Or a b) false ≡ nf.And (normal_of a false) (normal_of b false)
normal-Or-false a b = search (rules, of_formulas)

pub normal-Imp-true : (a : Formula) (b : Formula) → normal_of (formula.Imp a b) true ≡ nf.Or (normal_of a false) (normal_of b true)
normal-Imp-true a b = search (rules, of_formulas)

pub normal-Imp-false : (a : Formula) (b : Formula) → normal_of (formula.Imp a b) false ≡ nf.And (normal_of a true) (normal_of b false)
normal-Imp-false a b = search (rules, of_formulas)

pub normal-Iff-true : (a : Formula) (b : Formula) → normal_of (formula.Iff a b) true ≡ nf.And (nf.Or (normal_of a false) (normal_of b true)) (nf.Or (normal_of b false) (normal_of a true))
normal-Iff-true a b = search (rules, of_formulas)

pub normal-Iff-false : (a : Formula) (b : Formula) → normal_of (formula.Iff a b) false ≡ nf.And (nf.Or (normal_of a true) (normal_of b true)) (nf.Or (normal_of a false) (normal_of b false))
normal-Iff-false a b = search (rules, of_formulas)

pub normal-All-true : (a : Formula) → normal_of (formula.All a) true ≡ all_of (normal_of a true)
normal-All-true a = search (rules, of_formulas)

pub normal-All-false : (a : Formula) → normal_of (formula.All a) false ≡ ex_of (normal_of a false)
normal-All-false a = search (rules, of_formulas)

pub normal-Ex-true : (a : Formula) → normal_of (formula.Ex a) true ≡ ex_of (normal_of a true)
normal-Ex-true a = search (rules, of_formulas)

pub normal-Ex-false : (a : Formula) → normal_of (formula.Ex a) false ≡ all_of (normal_of a false)
normal-Ex-false a = search (rules, of_formulas)

pub occurs-True : (k : ℕ) → in_formula formula.True k ≡ false
occurs-True k = search (rules, of_formulas)

pub occurs-False : (k : ℕ) → in_formula formula.False k ≡ false
occurs-False k = search (rules, of_formulas)

pub occurs-Atom : (k : ℕ) (s : SymKey) (args : List Term) → in_formula (formula.Atom s args) k ≡ any_true (map (has_variable k) args)
occurs-Atom k s args = search (rules, of_formulas)

pub occurs-Not : (k : ℕ) (a : Formula) → in_formula (formula.Not a) k ≡ in_formula a k
occurs-Not k a = search (rules, of_formulas)

pub occurs-And : (k : ℕ) (a : Formula) (b : Formula) → in_formula (formula.And a b) k ≡ in_formula a k || in_formula b k
occurs-And k a b = search (rules, of_formulas)

pub occurs-Or : (k : ℕ) (a : Formula) (b : Formula) → in_formula (formula.Or a b) k ≡ in_formula a k || in_formula b k
occurs-Or k a b = search (rules, of_formulas)

pub occurs-Imp : (k : ℕ) (a : Formula) (b : Formula) → in_formula (formula.Imp a b) k ≡ in_formula a k || in_formula b k
occurs-Imp k a b = search (rules, of_formulas)

pub occurs-Iff : (k : ℕ) (a : Formula) (b : Formula) → in_formula (formula.Iff a b) k ≡ in_formula a k || in_formula b k
occurs-Iff k a b = search (rules, of_formulas)

pub occurs-All : (k : ℕ) (a : Formula) → in_formula (formula.All a) k ≡ in_formula a (suc k)
occurs-All k a = search (rules, of_formulas)

pub occurs-Ex : (k : ℕ) (a : Formula) → in_formula (formula.Ex a) k ≡ in_formula a (suc k)
occurs-Ex k a = search (rules, of_formulas)
