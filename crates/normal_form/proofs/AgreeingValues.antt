-- Terms, literals and clauses have the same value at values that agree on the variables that occur.
use Rattle.std.proofs.Common.{◌≡◌, ℕ, true, ◌||◌, nat_eq, List, [], ◌∷◌, ◌++◌, map, refl, sym, ap, ap₂, ◌∙◌, arith, rules}
use Rattle.std.proofs.lemmas.Bool.Decides.{nat_tests}
use Rattle.dk_syntax.proofs.ListLaws.{ForEach, for_each}
use Rattle.dk_syntax.proofs.TermLaws.{term_induction}
use Rattle.dk_syntax.specs.Symbols.{joined}
use Rattle.dk_syntax.specs.declared.Literal.{Literal}
use Rattle.dk_syntax.specs.declared.SymKey.{SymKey}
use Rattle.dk_syntax.specs.declared.Term.{Any, App, Term, Var, the_lemmas as of_terms}
use Rattle.normal_form.proofs.BoolLaws.{or_false, or_left_step, or_of_left, or_of_right}
use Rattle.normal_form.proofs.FormEquations.{in-Any, in-App, in-Var, value-Any, value-App, value-Var}
use Rattle.normal_form.specs.ClauseLists.{has_number, literal_variables, variables_of}
use Rattle.normal_form.specs.ClauseTruth.{clause_truth}
use Rattle.normal_form.specs.Occurrence.{any_true, has_variable}
use Rattle.normal_form.specs.Truth.{Interpretation, literal_truth, signed, value}

pub same_number : (n : ℕ) → nat_eq n n ≡ true
same_number n = grind (arith, nat_tests)

-- ---- the variables that are listed are those that occur

pub has-append : (xs ys : List ℕ) (k : ℕ) → has_number (xs ++ ys) k ≡ has_number xs k || has_number ys k
has-append [] ys k = refl
has-append (x ∷ xs) ys k = ap (λ z. nat_eq x k || z) (has-append xs ys k) ∙ or_left_step (nat_eq x k) (has_number xs k) (has_number ys k)

-- the term's list has the variables that occur in it
abbrev pub ListsVariables : Term → Type 0
ListsVariables t = (k : ℕ) → has_number (variables_of t) k ≡ has_variable k t

terms_list : (ts : List Term) → ForEach ListsVariables ts → (k : ℕ) → has_number (joined (map variables_of ts)) k ≡ any_true (map (has_variable k) ts)
terms_list [] h k = refl
terms_list (t ∷ ts) h k = has-append (variables_of t) (joined (map variables_of ts)) k ∙ ap₂ (λ a b. a || b) (h.0 k) (terms_list ts h.1 k)

variables-Var : (n : ℕ) → variables_of (Var n) ≡ n ∷ []
variables-Var n = search (rules, of_terms)

variables-App : (s : SymKey) (args : List Term) → variables_of (App s args) ≡ joined (map variables_of args)
variables-App s args = search (rules, of_terms)

variables-Any : variables_of Any ≡ []
variables-Any = search (rules, of_terms)

term_lists : (t : Term) → ListsVariables t
term_lists = term_induction ListsVariables
    (λ n k. ap (λ ns. has_number ns k) (variables-Var n) ∙ or_false (nat_eq n k) ∙ sym (in-Var k n))
    (λ s args h k. ap (λ ns. has_number ns k) (variables-App s args) ∙ terms_list args h k ∙ sym (in-App k s args))
    (λ k. ap (λ ns. has_number ns k) variables-Any ∙ sym (in-Any k))

pub literal_lists : (l : Literal) (k : ℕ) → has_number (literal_variables l) k ≡ any_true (map (has_variable k) l.args)
literal_lists l = terms_list l.args (for_each ListsVariables term_lists l.args)

-- ---- values that agree

module _ {D : Type 0} (i : Interpretation D) (e v : ℕ → D) where
  -- the term's value is the same at both, where they are the same for the variables that occur in it
  abbrev pub TermAgrees : Term → Type 0
  TermAgrees t = ((k : ℕ) → has_variable k t ≡ true → e k ≡ v k) → value i e t ≡ value i v t

  terms_agree : (ts : List Term) → ForEach TermAgrees ts → ((k : ℕ) → any_true (map (has_variable k) ts) ≡ true → e k ≡ v k) → map (value i e) ts ≡ map (value i v) ts
  terms_agree [] h same = refl
  terms_agree (t ∷ ts) h same =
      ap₂ (λ x xs. x ∷ xs) (h.0 (λ k o. same k (or_of_left (has_variable k t) (any_true (map (has_variable k) ts)) o)))
      (terms_agree ts h.1 (λ k o. same k (or_of_right (has_variable k t) (any_true (map (has_variable k) ts)) o)))

  term_agrees : (t : Term) → TermAgrees t
  term_agrees = term_induction TermAgrees
      (λ n same. value-Var i e n ∙ same n (in-Var n n ∙ same_number n) ∙ sym (value-Var i v n))
      (λ s args h same. value-App i e s args ∙ ap (i.function s) (terms_agree args h (λ k o. same k (in-App k s args ∙ o))) ∙ sym (value-App i v s args))
      (λ same. value-Any i e ∙ sym (value-Any i v))

  pub literal_agrees : (l : Literal) → ((k : ℕ) → any_true (map (has_variable k) l.args) ≡ true → e k ≡ v k) → literal_truth i e l ≡ literal_truth i v l
  literal_agrees l same = ap (λ vs. signed l.positive (i.predicate l.pred vs)) (terms_agree l.args (for_each TermAgrees term_agrees l.args) same)

  pub clause_agrees : (lits : List Literal) → ((k : ℕ) → has_number (joined (map literal_variables lits)) k ≡ true → e k ≡ v k) → clause_truth i e lits ≡ clause_truth i v lits
  clause_agrees [] same = refl
  clause_agrees (l ∷ rest) same =
      let others = joined (map literal_variables rest) in
      ap₂ (λ a b. a || b)
      (literal_agrees l (λ k o. same k (has-append (literal_variables l) others k ∙ or_of_left (has_number (literal_variables l) k) (has_number others k) (literal_lists l k ∙ o))))
      (clause_agrees rest (λ k o. same k (has-append (literal_variables l) others k ∙ or_of_right (has_number (literal_variables l) k) (has_number others k) o)))
