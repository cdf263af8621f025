-- What the rows of a clause list say of the form.
use Rattle.std.specs.Prelude.{ℕ, Bool, true, false, List, [], ◌∷◌, ◌++◌, map, IsTrue}
use Rattle.dk_syntax.specs.WellFormed.{closed_clause}
use Rattle.dk_syntax.specs.declared.Literal.{Literal}
use Rattle.normal_form.specs.Forms.{form_of}
use Rattle.normal_form.specs.Renaming.{owner, renamed_literal}
use Rattle.normal_form.specs.Sorting.{Numbered, all, and, lit, no, numbered_from, or}
use Rattle.normal_form.specs.declared.clause_list.ClauseRow.{ClauseRow}
use Rattle.normal_form.specs.declared.form.Nf.{Nf}

-- With these universals around, the inmost first, the form has the literals where of each conjunction that is met
-- one side is taken, in preorder, true for the right one. A variable of the literals is its universal's number.
pub data HasChoice : List ℕ → Numbered → List Literal → List Bool → Type 0 where
  none : (around : List ℕ) → HasChoice around no [] []
  one : (around : List ℕ) (literal : Literal) → HasChoice around (lit literal) (renamed_literal (owner around) literal ∷ []) []
  left : (around : List ℕ) (a b : Numbered) (lits : List Literal) (picks : List Bool) → HasChoice around a lits picks → HasChoice around (and a b) lits (false ∷ picks)
  right : (around : List ℕ) (a b : Numbered) (lits : List Literal) (picks : List Bool) → HasChoice around b lits picks → HasChoice around (and a b) lits (true ∷ picks)
  both : (around : List ℕ) (a b : Numbered) (lits more : List Literal) (picks sides : List Bool) → HasChoice around a lits picks → HasChoice around b more sides
      → HasChoice around (or a b) (lits ++ more) (picks ++ sides)
  inside : (around : List ℕ) (u : ℕ) (a : Numbered) (lits : List Literal) (picks : List Bool) → HasChoice (u ∷ around) a lits picks → HasChoice around (all u a) lits picks

-- the literals of the row, in which the universal that each variable belongs to has its preorder number
abbrev pub literals_of : ClauseRow → List Literal
literals_of row = map (renamed_literal (owner row.quants)) row.clause.lits

-- the row's literals are the form's at the sides that it picks
abbrev pub IsRowOf : Nf → ClauseRow → Type 0
IsRowOf n row = HasChoice [] (numbered_from 0 0 (form_of n)) (literals_of row) row.picks

-- each variable of the row's clause is below its number of variables
abbrev pub IsNumberedRow : ClauseRow → Type 0
IsNumberedRow row = IsTrue (closed_clause row.clause)
