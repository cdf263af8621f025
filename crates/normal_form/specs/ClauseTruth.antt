-- Truth of clauses in an interpretation.
use Rattle.std.specs.Prelude.{◌≡◌, ℕ, Bool, true, false, ◌||◌, List, [], ◌∷◌}
use Rattle.dk_syntax.specs.declared.Literal.{Literal}
use Rattle.normal_form.specs.Existentials.{existential_in}
use Rattle.normal_form.specs.Occurrence.{IsClosedForm}
use Rattle.normal_form.specs.Truth.{Interpretation, form_truth, literal_truth}
use Rattle.normal_form.specs.declared.clause_list.ClauseRow.{ClauseRow}
use Rattle.normal_form.specs.declared.form.Nf.{Nf}

-- one of the literals is true, at these values of the variables
abbrev pub clause_truth : {D : Type 0} (i : Interpretation D) → (ℕ → D) → List Literal → Bool
clause_truth i values [] = false
clause_truth i values (literal ∷ rest) = literal_truth i values literal || clause_truth i values rest

-- each row's clause is true at all values of its variables
abbrev pub RowsHold : {D : Type 0} (i : Interpretation D) → List ClauseRow → Type 0
RowsHold i [] = Unit {0}
RowsHold {D = D} i (row ∷ rest) = ((values : ℕ → D) → clause_truth i values row.clause.lits ≡ true) × RowsHold i rest

-- what is true of all members of the domain is true of each
abbrev pub AllIsEach : {D : Type 0} → Interpretation D → Type 0
AllIsEach {D = D} i = (p : D → Bool) → i.all p ≡ true → (d : D) → p d ≡ true

-- in every interpretation over the domain in which the form is true, whatever the values of the variables, the clauses are
abbrev pub ClausesFollow : (D : Type 0) → Nf → List ClauseRow → Type 0
ClausesFollow D a rows = (i : Interpretation D) → AllIsEach i → ((values : ℕ → D) → form_truth i a values ≡ true) → RowsHold i rows

-- what is true of each member of the domain is true of all
abbrev pub EachIsAll : {D : Type 0} → Interpretation D → Type 0
EachIsAll {D = D} i = (p : D → Bool) → ((d : D) → p d ≡ true) → i.all p ≡ true

-- in every interpretation over the domain in which the clauses are true, the form is, whatever the values of the variables,
-- where it is closed and without existentials
abbrev pub ClausesSuffice : (D : Type 0) → Nf → List ClauseRow → Type 0
ClausesSuffice D a rows =
    existential_in a ≡ false → IsClosedForm a → (i : Interpretation D) → EachIsAll i → RowsHold i rows → (values : ℕ → D) → form_truth i a values ≡ true
