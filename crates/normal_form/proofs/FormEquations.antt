-- What the definitions say of each kind of term and form.
use Rattle.std.proofs.Common.{◌≡◌, ℕ, suc, ◌+◌, ◌-◌, true, false, ◌&&◌, ◌||◌, nat_eq, nat_lt, if◌then◌else◌, List, map, rules}
use Rattle.dk_syntax.specs.declared.Literal.{Literal}
use Rattle.dk_syntax.specs.declared.SymKey.{SymKey}
use Rattle.dk_syntax.specs.declared.Term.{Any, App, Term, Var, the_lemmas as of_terms}
use Rattle.normal_form.specs.Lowered.{lowered, lowered_literal, lowered_term}
use Rattle.normal_form.specs.Normal.{nodes_of}
use Rattle.normal_form.specs.Occurrence.{any_true, in_form, has_variable}
use Rattle.normal_form.specs.Truth.{Interpretation, form_truth, literal_truth, value, with_value}
use Rattle.normal_form.specs.declared.form.Nf.{Nf, the_lemmas as of_forms}
use Rattle.normal_form.specs.declared.form.Nf.TheVariants as nf

-- ---- terms

pub value-Var : {D : Type 0} (i : Interpretation D) (e : ℕ → D) (n : ℕ) → value i e (Var n) ≡ e n
value-Var i e n = search (rules, of_terms)

pub value-App : {D : Type 0} (i : Interpretation D) (e : ℕ → D) (s : SymKey) (args : List Term) → value i e (App s args) ≡ i.function s (map (value i e) args)
value-App i e s args = search (rules, of_terms)

pub value-Any : {D : Type 0} (i : Interpretation D) (e : ℕ → D) → value i e Any ≡ i.any
value-Any i e = search (rules, of_terms)

pub lowered-Var : (k : ℕ) (n : ℕ) → lowered_term k (Var n) ≡ (if nat_lt k n then Var (n - 1) else Var n)
lowered-Var k n = search (rules, of_terms)

pub lowered-App : (k : ℕ) (s : SymKey) (args : List Term) → lowered_term k (App s args) ≡ App s (map (lowered_term k) args)
lowered-App k s args = search (rules, of_terms)

pub lowered-Any : (k : ℕ) → lowered_term k Any ≡ Any
lowered-Any k = search (rules, of_terms)

pub in-Var : (k : ℕ) (n : ℕ) → has_variable k (Var n) ≡ nat_eq n k
in-Var k n = search (rules, of_terms)

pub in-App : (k : ℕ) (s : SymKey) (args : List Term) → has_variable k (App s args) ≡ any_true (map (has_variable k) args)
in-App k s args = search (rules, of_terms)

pub in-Any : (k : ℕ) → has_variable k Any ≡ false
in-Any k = search (rules, of_terms)

-- ---- forms

pub truth-True : {D : Type 0} (i : Interpretation D) (e : ℕ → D) → form_truth i nf.True e ≡ true
truth-True i e = search (rules, of_forms)

pub truth-False : {D : Type 0} (i : Interpretation D) (e : ℕ → D) → form_truth i nf.False e ≡ false
truth-False i e = search (rules, of_forms)

pub truth-Lit : {D : Type 0} (i : Interpretation D) (e : ℕ → D) (l : Literal) → form_truth i (nf.Lit l) e ≡ literal_truth i e l
truth-Lit i e l = search (rules, of_forms)

pub truth-And : {D : Type 0} (i : Interpretation D) (e : ℕ → D) (a : Nf) (b : Nf) → form_truth i (nf.And a b) e ≡ form_truth i a e && form_truth i b e
truth-And i e a b = search (rules, of_forms)

pub truth-Or : {D : Type 0} (i : Interpretation D) (e : ℕ → D) (a : Nf) (b : Nf) → form_truth i (nf.Or a b) e ≡ form_truth i a e || form_truth i b e
truth-Or i e a b = search (rules, of_forms)

pub truth-All : {D : Type 0} (i : Interpretation D) (e : ℕ → D) (a : Nf) → form_truth i (nf.All a) e ≡ i.all (λ d. form_truth i a (with_value d e))
truth-All i e a = search (rules, of_forms)

pub truth-Ex : {D : Type 0} (i : Interpretation D) (e : ℕ → D) (a : Nf) → form_truth i (nf.Ex a) e ≡ i.ex (λ d. form_truth i a (with_value d e))
truth-Ex i e a = search (rules, of_forms)

pub in-True : (k : ℕ) → in_form nf.True k ≡ false
in-True k = search (rules, of_forms)

pub in-False : (k : ℕ) → in_form nf.False k ≡ false
in-False k = search (rules, of_forms)

pub in-Lit : (k : ℕ) (l : Literal) → in_form (nf.Lit l) k ≡ any_true (map (has_variable k) l.args)
in-Lit k l = search (rules, of_forms)

pub in-And : (k : ℕ) (a : Nf) (b : Nf) → in_form (nf.And a b) k ≡ in_form a k || in_form b k
in-And k a b = search (rules, of_forms)

pub in-Or : (k : ℕ) (a : Nf) (b : Nf) → in_form (nf.Or a b) k ≡ in_form a k || in_form b k
in-Or k a b = search (rules, of_forms)

pub in-All : (k : ℕ) (a : Nf) → in_form (nf.All a) k ≡ in_form a (suc k)
in-All k a = search (rules, of_forms)

pub in-Ex : (k : ℕ) (a : Nf) → in_form (nf.Ex a) k ≡ in_form a (suc k)
in-Ex k a = search (rules, of_forms)

pub lowered-True : (k : ℕ) → lowered nf.True k ≡ nf.True
lowered-True k = search (rules, of_forms)

pub lowered-False : (k : ℕ) → lowered nf.False k ≡ nf.False
lowered-False k = search (rules, of_forms)

pub lowered-Lit : (k : ℕ) (l : Literal) → lowered (nf.Lit l) k ≡ nf.Lit (lowered_literal k l)
lowered-Lit k l = search (rules, of_forms)

pub lowered-And : (k : ℕ) (a : Nf) (b : Nf) → lowered (nf.And a b) k ≡ nf.And (lowered a k) (lowered b k)
lowered-And k a b = search (rules, of_forms)

pub lowered-Or : (k : ℕ) (a : Nf) (b : Nf) → lowered (nf.Or a b) k ≡ nf.Or (lowered a k) (lowered b k)
lowered-Or k a b = search (rules, of_forms)

pub lowered-All : (k : ℕ) (a : Nf) → lowered (nf.All a) k ≡ nf.All (lowered a (suc k))
lowered-All k a = search (rules, of_forms)

pub lowered-Ex : (k : ℕ) (a : Nf) → lowered (nf.Ex a) k ≡ nf.Ex (lowered a (suc k))
lowered-Ex k a = search (rules, of_forms)

pub nodes-Lit : (l : Literal) → nodes_of (nf.Lit l) ≡ 1
nodes-Lit l = search (rules, of_forms)

pub nodes-All : (a : Nf) → nodes_of (nf.All a) ≡ 1 + nodes_of a
nodes-All a = search (rules, of_forms)

pub nodes-Ex : (a : Nf) → nodes_of (nf.Ex a) ≡ 1 + nodes_of a
nodes-Ex a = search (rules, of_forms)
