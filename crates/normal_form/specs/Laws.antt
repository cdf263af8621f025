-- What holds of the definitions.
use Rattle.std.specs.Prelude.{◌≡◌, ℕ, Bool, true, false, if◌then◌else◌, List, []}
use Rattle.dk_syntax.specs.Lists.{Entry, Every}
use Rattle.dk_syntax.specs.WellFormed.{IsClosed, IsWellFormed}
use Rattle.dk_syntax.specs.declared.Formula.{Formula}
use Rattle.dk_syntax.specs.declared.Formula.TheVariants as formula
use Rattle.dk_syntax.specs.declared.Literal.{Literal}
use Rattle.normal_form.specs.ClauseLists.{clause_rows}
use Rattle.normal_form.specs.FormFacts.{HasNoVacuous, HasWellFormedLiterals}
use Rattle.normal_form.specs.Forms.{Form, form_of, nf_of}
use Rattle.normal_form.specs.Lowered.{lowered}
use Rattle.normal_form.specs.Normal.{normal_of}
use Rattle.normal_form.specs.Occurrence.{in_formula, IsClosedForm}
use Rattle.normal_form.specs.RowFacts.{HasChoice, IsNumberedRow, IsRowOf, literals_of}
use Rattle.normal_form.specs.Sorting.{bare, numbered_from, Regrouped, SameSorted, sorted_form}
use Rattle.normal_form.specs.declared.clause_list.ClauseRow.{ClauseRow}
use Rattle.normal_form.specs.declared.form.Nf.{Nf}
use Rattle.normal_form.specs.declared.form.Nf.TheVariants as nf

-- the tree of a normal form leads back to it
abbrev pub FormIsTree : Type 0
FormIsTree = (n : Nf) → nf_of (form_of n) ≡ n

-- the normal form of a tree leads back to it
abbrev pub TreeIsForm : Type 0
TreeIsForm = (a : Form) → form_of (nf_of a) ≡ a

-- two forms have one sorted form exactly where they differ by order and grouping of And and Or alone
abbrev pub SortingIsExact : Type 0
SortingIsExact = (n r : Nf) → (SameSorted n r → Regrouped (form_of n) (form_of r)) × (Regrouped (form_of n) (form_of r) → SameSorted n r)

-- a sorted form is its own sorted form
abbrev pub SortingIsDone : Type 0
SortingIsDone = (n : Nf) → bare (sorted_form (nf_of (bare (sorted_form n)))) ≡ bare (sorted_form n)

-- the normal forms of a closed formula are closed
abbrev pub ClosedStaysClosed : Type 0
ClosedStaysClosed = (f : Formula) (sign : Bool) → IsClosed f → IsClosedForm (normal_of f sign)

-- a normal form has no quantifier whose variable isn't free in its body
abbrev pub NoneIsVacuous : Type 0
NoneIsVacuous = (f : Formula) (sign : Bool) → HasNoVacuous (form_of (normal_of f sign))

-- the literals of a well-formed formula's normal forms are well-formed
abbrev pub WellFormedStays : Type 0
WellFormedStays = (f : Formula) (sign : Bool) → IsWellFormed f → HasWellFormedLiterals (form_of (normal_of f sign))

-- a quantifier is dropped exactly where its variable isn't in the formula
abbrev pub VacuousIsDropped : Type 0
VacuousIsDropped =
    (a : Formula)
    → (normal_of (formula.All a) true ≡ (if in_formula a 0 then nf.All (normal_of a true) else lowered (normal_of a true) 0))
    × (normal_of (formula.All a) false ≡ (if in_formula a 0 then nf.Ex (normal_of a false) else lowered (normal_of a false) 0))
    × (normal_of (formula.Ex a) true ≡ (if in_formula a 0 then nf.Ex (normal_of a true) else lowered (normal_of a true) 0))
    × (normal_of (formula.Ex a) false ≡ (if in_formula a 0 then nf.All (normal_of a false) else lowered (normal_of a false) 0))

-- each row of a form is the form's at the sides that it picks, and its variables are numbered
abbrev pub RowsAreChoices : Type 0
RowsAreChoices = (n : Nf) → Every (λ row. IsRowOf n row × IsNumberedRow row) (clause_rows n)

-- each choice of sides in a form has its row
abbrev pub ChoicesAreRows : Type 0
ChoicesAreRows =
    (n : Nf) (lits : List Literal) (picks : List Bool) → HasChoice [] (numbered_from 0 0 (form_of n)) lits picks
    → (place : ℕ) × (row : ClauseRow) × Entry (clause_rows n) place row × (literals_of row ≡ lits) × (row.picks ≡ picks)
