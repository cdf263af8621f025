-- In the clause list of a form all variables are below their clauses' numbers of variables.
use Rattle.std.proofs.Common.{◌≡◌, ◌<◌, ℕ, zero, suc, true, false, Bool, nat_lt, List, [], ◌∷◌, inl, inr, map, refl, sym, subst, ◌∙◌, arith}
use Rattle.std.specs.List.{All}
use Rattle.std.specs.Prelude.{IsTrue}
use Rattle.std.proofs.lemmas.Bool.{and_parts, eqb-true, or_cases}
use Rattle.std.proofs.lemmas.Bool.Decides.{nat_tests}
use Rattle.dk_syntax.proofs.ListLaws.{ForEach}
use Rattle.dk_syntax.proofs.SubstitutionLaws.{has_variable-Any, has_variable-App, has_variable-Var}
use Rattle.dk_syntax.proofs.TermLaws.{term_induction}
use Rattle.dk_syntax.proofs.WellFormedLaws.{closed-App, closed-Var}
use Rattle.dk_syntax.specs.Lists.{all_true, any_true, Every, every_cons}
use Rattle.dk_syntax.specs.Terms.{Below, EachBelow, has_variable}
use Rattle.dk_syntax.specs.WellFormed.{literal_closed_under, term_closed_under}
use Rattle.dk_syntax.specs.declared.Literal.{Literal}
use Rattle.dk_syntax.specs.declared.Term.{Term}
use Rattle.normal_form.proofs.RowLaws.{rows_are_choices}
use Rattle.normal_form.specs.ClauseLists.{clause_rows}
use Rattle.normal_form.specs.RowFacts.{IsNumberedRow, IsRowOf}
use Rattle.normal_form.specs.declared.clause_list.ClauseList.{ClauseList}
use Rattle.normal_form.specs.declared.clause_list.ClauseRow.{ClauseRow}
use Rattle.normal_form.specs.declared.form.Nf.{Nf}
use Rattle.step_clause.specs.Justifications.{IsNumbered, IsNumberedList, LiteralsBelow}

abbrev Closes : ℕ → Term → Type 0
Closes n t = term_closed_under n t ≡ true → Below n t

each_below : (n : ℕ) (args : List Term) → ForEach (Closes n) args → all_true (map (term_closed_under n) args) ≡ true → EachBelow n args
each_below n [] known h k stands = cc
each_below n (t ∷ ts) known h k stands =
    let parts = and_parts (term_closed_under n t) (all_true (map (term_closed_under n) ts)) h in
    elim (or_cases (has_variable k t) (any_true (map (has_variable k) ts)) stands) [
      | inl p ↦ known.0 parts.0 k p
      | inr p ↦ each_below n ts known.1 parts.1 k p
    ]

less_by : (k n : ℕ) → nat_lt k n ≡ true → k < n
less_by k n h = grind (arith, nat_tests)

closes : (n : ℕ) (t : Term) → Closes n t
closes n = term_induction (Closes n)
    (λ k h j stands.
    let e : k ≡ j = eqb-true k j (sym (has_variable-Var j k) ∙ stands) in
    subst (λ i. i < n) e (less_by k n (sym (closed-Var k n) ∙ h)))
    (λ f args known h j stands. each_below n args known (sym (closed-App f args n) ∙ h) j (sym (has_variable-App j f args) ∙ stands))
    (λ h j stands. let e = has_variable-Any j in cc)

all_close : (n : ℕ) (args : List Term) → ForEach (Closes n) args
all_close n [] = tt
all_close n (t ∷ ts) = (closes n t, all_close n ts)

literals_below : (n : ℕ) (lits : List Literal) → all_true (map (literal_closed_under n) lits) ≡ true → LiteralsBelow n lits
literals_below n [] h k d less = absurd (omega arith)
literals_below n (l ∷ ls) h zero d less =
    each_below n l.args (all_close n l.args) (and_parts (literal_closed_under n l) (all_true (map (literal_closed_under n) ls)) h).0
literals_below n (l ∷ ls) h (suc k) d less =
    literals_below n ls (and_parts (literal_closed_under n l) (all_true (map (literal_closed_under n) ls)) h).1 k d (omega arith)

true_is : (b : Bool) → IsTrue b → b ≡ true
true_is true h = refl
true_is false h = cc

rows_below : (n : Nf) (rows : List ClauseRow) → Every (λ row. IsRowOf n row × IsNumberedRow row) rows → All (λ row. IsNumbered row.clause) rows
rows_below n [] h k d less = absurd (omega arith)
rows_below n (row ∷ rows) (every_cons here rest) zero d less = literals_below row.clause.vars row.clause.lits (true_is _ here.1)
rows_below n (row ∷ rows) (every_cons here rest) (suc k) d less = rows_below n rows rest k d (omega arith)

-- each clause of a form's list is numbered
pub rows_numbered : (n : Nf) → All (λ row. IsNumbered row.clause) (clause_rows n)
rows_numbered n = rows_below n (clause_rows n) (rows_are_choices n)

-- a list of these rows is numbered
pub list_numbered : (list : ClauseList) (n : Nf) → list.rows ≡ clause_rows n → IsNumberedList list
list_numbered list n e = subst (λ (rows : List ClauseRow). All (λ row. IsNumbered row.clause) rows) (sym e) (rows_numbered n)
