-- The terms of justifications, at a place of the program, and when they prove falsity.
use Rattle.std.specs.Prelude.{ℕ, ◌==◌, if◌then◌else◌, true, false, List, [], ◌∷◌, ◌++◌, get_or, length}
use Rattle.dk_syntax.specs.declared.Literal.{Literal}
use Rattle.dk_syntax.specs.declared.SymKey.{SymKey}
use Rattle.dk_syntax.specs.declared.Term.{Term}
use Rattle.lp_term.specs.Connectives.{propositions}
use Rattle.lp_term.specs.LambdaPi.{Term as TheoryTerm}
use Rattle.lp_term.specs.Names.{any_name}
use Rattle.lp_term.specs.Typing.{Declaration, HasType}
use Rattle.nd_term.specs.Formulas.{GroundTerm, Literal as TheoryLiteral, ground_symbol, literal}
use Rattle.nd_term.specs.Instances.{Chosen, clause_type, resolution_proof, subsumption_proof}
use Rattle.nd_term.specs.Outputs.{output_atom, output_clause}
use Rattle.nd_term.specs.Places.{at_level, eigenvariables, last_variables}
use Rattle.nd_term.specs.Symbols.{GroundOver}
use Rattle.nd_term.specs.declared.place.Place.{Place}
use Rattle.step_clause.specs.declared.Justification.{Justification}
use Rattle.step_clause.specs.declared.Justification.TheVariants.{Resolve, Subsume}

-- the atom of the first literal whose pick is the pivot's, where a clause has so many literals
abbrev pub pivot_atom : List SymKey → List Term → ℕ → List Literal → List ℕ → GroundTerm
pivot_atom symbols order count [] picks = ground_symbol any_name
pivot_atom symbols order count (one ∷ rest) [] = ground_symbol any_name
pivot_atom symbols order count (one ∷ rest) (pick ∷ picks) =
    if pick == count then output_atom symbols order one.pred one.args else pivot_atom symbols order count rest picks

-- the variable of the instance that is needed at this number
abbrev pub needed_variable : Place → List ℕ → ℕ → TheoryTerm
needed_variable place levels number = at_level place.level (get_or levels number 0)

-- The term that a justification gives below the variables of the clause's literals. The parents have these literals, and
-- their proofs are the variables of these levels; the positive parent is the first.
abbrev pub justified_proof : Place → Justification → List Literal → List (List Literal) → List ℕ → TheoryTerm
justified_proof place (Subsume parent clause picks terms) lits parents levels =
    subsumption_proof (needed_variable place levels 0) (last_variables (length lits)) picks
justified_proof place (Resolve pos_parent pos_clause neg_parent neg_clause pos_picks neg_picks pos_terms neg_terms) lits parents levels =
    resolution_proof (eigenvariables place) (needed_variable place levels 0) (needed_variable place levels 1) (last_variables (length lits)) pos_picks neg_picks
    (pivot_atom place.symbols.now place.order.now (length lits) (get_or parents 0 []) pos_picks)

-- the ground literals as they are in proof terms
abbrev pub clause_at : Place → List Literal → List TheoryLiteral
clause_at place lits = output_clause place.symbols.now place.order.now lits

-- the parents' proofs have the types of their clauses, and the picks lead from these to the clause and the pivot
abbrev pub IsJustified : List Declaration → List TheoryTerm → Place → Justification → List Literal → List (List Literal) → List ℕ → Type 0
IsJustified sig g place (Subsume parent clause picks terms) lits parents levels =
    HasType sig g (needed_variable place levels 0) (clause_type (eigenvariables place) (clause_at place (get_or parents 0 [])))
    × Chosen (clause_at place lits) (clause_at place (get_or parents 0 [])) picks
IsJustified sig g place (Resolve pos_parent pos_clause neg_parent neg_clause pos_picks neg_picks pos_terms neg_terms) lits parents levels =
    let a = pivot_atom place.symbols.now place.order.now (length lits) (get_or parents 0 []) pos_picks in
    GroundOver sig propositions 0 a
    × HasType sig g (needed_variable place levels 0) (clause_type (eigenvariables place) (clause_at place (get_or parents 0 [])))
    × HasType sig g (needed_variable place levels 1) (clause_type (eigenvariables place) (clause_at place (get_or parents 1 [])))
    × Chosen (clause_at place lits ++ literal true a ∷ []) (clause_at place (get_or parents 0 [])) pos_picks
    × Chosen (clause_at place lits ++ literal false a ∷ []) (clause_at place (get_or parents 1 [])) neg_picks
