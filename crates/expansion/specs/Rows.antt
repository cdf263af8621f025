-- Rows of the clause list of an image, at ground terms for their variables.
use Rattle.std.specs.Prelude.{◌≡◌, ℕ, List, get_or, length, map}
use Rattle.dk_syntax.specs.Lists.{Entry, Every}
use Rattle.dk_syntax.specs.WellFormed.{IsGround}
use Rattle.dk_syntax.specs.declared.Literal.{Literal}
use Rattle.dk_syntax.specs.declared.SymKey.{SymKey}
use Rattle.dk_syntax.specs.declared.Term.{Term}
use Rattle.dk_syntax.specs.declared.Term.TheVariants.{Any}
use Rattle.expansion.specs.ThinTrees.{LeadsTo}
use Rattle.expansion.specs.declared.thin.Thin.{Thin}
use Rattle.normal_form.specs.ClauseLists.{clause_rows}
use Rattle.normal_form.specs.Occurrence.{IsClosedForm}
use Rattle.normal_form.specs.declared.ClauseRow.{ClauseRow}
use Rattle.normal_form.specs.declared.Nf.{Nf}
use Rattle.step_skolem.specs.Images.{IsImage}
use Rattle.dk_syntax.specs.Terms.{instance}
use Rattle.step_skolem.specs.declared.SkEntry.{SkEntry}

-- the term for the variable with that number
abbrev pub term_at : List Term → ℕ → Term
term_at terms k = get_or terms k Any

-- the row's clause with these terms for its variables
abbrev pub ground_clause : ClauseRow → List Term → List Literal
ground_clause row terms = map (instance (term_at terms)) row.clause.lits

-- the symbols that the map puts
abbrev pub symbols_in : List SkEntry → List SymKey
symbols_in entries = map (λ one. one.symbol) entries

-- The map leads from the closed form to one whose clause list has the row, and the row's variables have each a ground term.
pub record IsGrounded (leaf : Nf) (entries : List SkEntry) (row : ClauseRow) (terms : List Term) : Type 0 where
  pub closed : IsClosedForm leaf
  pub image : Nf
  pub leads : IsImage leaf entries image
  pub place : ℕ
  pub listed : Entry (clause_rows image) place row
  pub many : length terms ≡ row.clause.vars
  pub ground : Every IsGround terms

-- where the row and the terms are such, the thin tree's ends are the row's ground clause
abbrev pub EndsInRow : Nf → List SkEntry → ClauseRow → List Term → Thin → Type 0
EndsInRow leaf entries row terms thin = IsGrounded leaf entries row terms → LeadsTo (symbols_in entries) leaf thin (ground_clause row terms)
