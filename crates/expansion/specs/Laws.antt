-- What holds of the definitions.
use Rattle.std.specs.Prelude.{◌≡◌, Bool, List, IsTrue}
use Rattle.dk_syntax.specs.Lists.{Every}
use Rattle.dk_syntax.specs.WellFormed.{IsGround, literal_closed_under, well_formed_literal, well_formed_term}
use Rattle.dk_syntax.specs.declared.Literal.{Literal}
use Rattle.dk_syntax.specs.declared.SymKey.{SymKey}
use Rattle.dk_syntax.specs.declared.Term.{Term}
use Rattle.expansion.specs.Choices.{thin_tree}
use Rattle.expansion.specs.Rows.{EndsInRow}
use Rattle.expansion.specs.ThinTrees.{IsSkolemTerm, LeadsTo}
use Rattle.expansion.specs.declared.thin.Thin.{Thin}
use Rattle.normal_form.specs.FormFacts.{HasWellFormedLiterals}
use Rattle.normal_form.specs.Forms.{form_of}
use Rattle.normal_form.specs.declared.ClauseRow.{ClauseRow}
use Rattle.normal_form.specs.declared.Nf.{Nf}
use Rattle.step_skolem.specs.declared.SkEntry.{SkEntry}

-- the ends of a row's thin tree are the row's ground clause
abbrev pub RowsAreThin : Type 0
RowsAreThin =
    (sign : Bool) (leaf : Nf) (entries : List SkEntry) (row : ClauseRow) (terms : List Term)
    → EndsInRow leaf entries row terms (thin_tree sign leaf entries row terms)

-- the choices of a thin tree lead to one list of literals, whichever symbols are Skolem symbols
abbrev pub EndsAreOne : Type 0
EndsAreOne =
    (symbols others : List SymKey) (leaf : Nf) (thin : Thin) (ends those : List Literal)
    → LeadsTo symbols leaf thin ends → LeadsTo others leaf thin those → ends ≡ those

-- the terms at universals are ground, and those at existentials ground Skolem terms
abbrev pub ChoicesAreGround : Type 0
ChoicesAreGround =
    (symbols : List SymKey) (leaf : Nf) (thin : Thin) (ends : List Literal)
    → LeadsTo symbols leaf thin ends → Every IsGround thin.terms × Every (IsSkolemTerm symbols) thin.skolems

-- the literals at the ends are ground
abbrev pub EndsAreGround : Type 0
EndsAreGround =
    (symbols : List SymKey) (leaf : Nf) (thin : Thin) (ends : List Literal)
    → LeadsTo symbols leaf thin ends → Every (λ end. IsTrue (literal_closed_under 0 end)) ends

-- the literals at the ends are well-formed where those of the form and the chosen terms are
abbrev pub EndsAreWellFormed : Type 0
EndsAreWellFormed =
    (symbols : List SymKey) (leaf : Nf) (thin : Thin) (ends : List Literal) → HasWellFormedLiterals (form_of leaf)
    → Every (λ t. IsTrue (well_formed_term t)) thin.terms → Every (λ t. IsTrue (well_formed_term t)) thin.skolems
    → LeadsTo symbols leaf thin ends → Every (λ end. IsTrue (well_formed_literal end)) ends
