-- What signs and symbols tell of a middle clause: which of its literals may stand in the target or be taken later.
use Rattle.std.specs.Prelude.{◌≡◌, ◌⊎◌, ◌++◌, ◌∷◌, [], Bool, not, List}
use Rattle.dk_syntax.specs.declared.Clause.{Clause}
use Rattle.dk_syntax.specs.declared.Literal.{Literal}
use Rattle.dk_syntax.specs.declared.SymKey.{SymKey}
use Rattle.normal_form.specs.declared.ClauseList.{ClauseList}
use Rattle.step_clause.specs.Candidates.{NoneWorks}
use Rattle.step_clause.specs.Symbols.{AnyOf}

-- The literal has that sign and symbol.
abbrev pub IsOf : Bool → SymKey → Literal → Type 0
IsOf sign pred literal = (literal.positive ≡ sign) × (literal.pred ≡ pred)

-- Some literal of a clause of the list has them.
abbrev pub HasOne : Bool → SymKey → ClauseList → Type 0
HasOne sign pred list = AnyOf (λ row. AnyOf (IsOf sign pred) row.clause.lits) list.rows

-- A literal of the target has the literal's sign and symbol, or one of the lists to come has its symbol with the other sign.
abbrev pub HasPartner : Clause → List ClauseList → Literal → Type 0
HasPartner target rest literal = AnyOf (IsOf literal.positive literal.pred) target.lits ⊎ AnyOf (HasOne (not literal.positive) literal.pred) rest

-- The target doesn't follow from the last list alone: so the last middle clause has a part in its justification.
abbrev pub IsNotFromLast : Clause → List ClauseList → Type 0
IsNotFromLast target rest = (front : List ClauseList) (last : ClauseList) → rest ≡ front ++ last ∷ [] → NoneWorks target (last ∷ [])
