-- What holds of the definitions.
use Rattle.std.specs.Prelude.{◌≡◌, ℕ, List, length, Option}
use Rattle.dk_syntax.specs.declared.SymKey.{SymKey}
use Rattle.normal_form.specs.ClauseLists.{clause_rows, literal_count}
use Rattle.normal_form.specs.declared.clause_list.ClauseRow.{ClauseRow}
use Rattle.normal_form.specs.declared.form.Nf.{Nf}
use Rattle.step_compose.specs.Composing.{IsComposedAnswer}
use Rattle.step_compose.specs.FullImages.{full_image, full_map}
use Rattle.step_compose.specs.declared.composed.Composed.{Composed}
use Rattle.step_skolem.specs.Images.{IsImage}

-- the full map leads to the full image
abbrev pub FullIsImage : Type 0
FullIsImage = (symbols : ℕ → SymKey) (n : Nf) → IsImage n (full_map symbols n) (full_image symbols n)

-- the clause lists of all full images of a form have as many clauses and as many literals
abbrev pub CountsAreOne : Type 0
CountsAreOne =
    (symbols others : ℕ → SymKey) (n : Nf)
    → (length (clause_rows (full_image symbols n)) ≡ length (clause_rows (full_image others n)))
    × (literal_count (clause_rows (full_image symbols n)) ≡ literal_count (clause_rows (full_image others n)))

-- there is one answer
abbrev pub ComposedIsOne : Type 0
ComposedIsOne =
    (n : Nf) (aliens : List SymKey) (targets : List ClauseRow) (one other : Option Composed)
    → IsComposedAnswer n aliens targets one → IsComposedAnswer n aliens targets other → one ≡ other
