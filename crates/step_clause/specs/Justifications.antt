-- The justification of a clause: the least candidate that works, with its most general substitution.
use Rattle.std.specs.Prelude.{◌≡◌, ℕ, ◌<◌, nat_lt, if◌then◌else◌, List, map, Option, MatchOption}
use Rattle.std.specs.List.{range_with_len, All}
use Rattle.dk_syntax.specs.declared.Clause.{Clause}
use Rattle.dk_syntax.specs.declared.Literal.{Literal}
use Rattle.dk_syntax.specs.declared.Term.{Term}
use Rattle.dk_syntax.specs.declared.Term.TheVariants.{Any, Var}
use Rattle.normal_form.specs.declared.ClauseList.{ClauseList}
use Rattle.unifier.specs.Substitution.{Fixes}
use Rattle.dk_syntax.specs.Terms.{substituted, EachBelow}
use Rattle.step_clause.specs.declared.justification.Justification.{Justification}
use Rattle.step_clause.specs.declared.justification.Justification.TheVariants.{Subsume, Resolve}
use Rattle.step_clause.specs.Candidates.{Candidate, subsumption, resolution, IsClause, Subsumes, Resolves, NoneWorks, IsLeast}

-- Each variable of each literal is below a number.
abbrev pub LiteralsBelow : ℕ → List Literal → Type 0
LiteralsBelow vars literals = All (λ literal. EachBelow vars literal.args) literals

-- All variables of a clause are below its number of variables.
abbrev pub IsNumbered : Clause → Type 0
IsNumbered clause = LiteralsBelow clause.vars clause.lits

-- What u gives to the first variables is what r makes of what t gives.
abbrev pub IsFurther : ℕ → (ℕ → Term) → (ℕ → Term) → (ℕ → Term) → Type 0
IsFurther vars r t u = (j : ℕ) → j < vars → u j ≡ substituted r (t j)

-- A most general substitution of a clause's variables with a property: every other is a further instance of it,
-- in which the target's variables stand for themselves.
abbrev pub IsMostGeneral : ℕ → ℕ → ((ℕ → Term) → Type 0) → (ℕ → Term) → Type 0
IsMostGeneral frozen vars Holds t =
    Holds t × ((u : ℕ → Term) → Holds u → (r : ℕ → Term) × Fixes frozen r × IsFurther vars r t u)

-- The same of the substitutions of two clauses, of which every other two are one further instance.
abbrev pub AreMostGeneral : ℕ → ℕ → ℕ → ((ℕ → Term) → (ℕ → Term) → Type 0) → (ℕ → Term) → (ℕ → Term) → Type 0
AreMostGeneral frozen vars vars' Holds t t' =
    Holds t t' × ((u u' : ℕ → Term) → Holds u u' → (r : ℕ → Term) × Fixes frozen r × IsFurther vars r t u × IsFurther vars' r t' u')

-- The target's variables stand for themselves, and Any stands for each variable that is left unbound.
abbrev pub closed : ℕ → ℕ → Term
closed frozen j = if nat_lt j frozen then Var j else Any

-- The terms of a clause's variables.
abbrev pub closed_terms : ℕ → ℕ → (ℕ → Term) → List Term
closed_terms frozen vars t = map (λ j. substituted (closed frozen) (t j)) (range_with_len 0 vars)

-- The terms are those of a most general substitution.
abbrev pub AreTerms : ℕ → ℕ → ((ℕ → Term) → Type 0) → List Term → Type 0
AreTerms frozen vars Holds terms =
    (t : ℕ → Term) × IsMostGeneral frozen vars Holds t × (terms ≡ closed_terms frozen vars t)

abbrev pub ArePairedTerms : ℕ → ℕ → ℕ → ((ℕ → Term) → (ℕ → Term) → Type 0) → List Term → List Term → Type 0
ArePairedTerms frozen vars vars' Holds terms terms' =
    (t t' : ℕ → Term) × AreMostGeneral frozen vars vars' Holds t t'
    × (terms ≡ closed_terms frozen vars t) × (terms' ≡ closed_terms frozen vars' t')

-- The candidate of a justification.
abbrev pub candidate_of : Justification → Candidate
candidate_of (Subsume parent clause picks terms) = subsumption parent clause picks
candidate_of (Resolve pos_parent pos_clause neg_parent neg_clause pos_picks neg_picks pos_terms neg_terms) =
    resolution pos_parent pos_clause neg_parent neg_clause pos_picks neg_picks

-- Its terms are those of a most general substitution for its candidate.
abbrev pub HasTerms : Clause → List ClauseList → Justification → Type 0
HasTerms target parents (Subsume parent clause picks terms) =
    (it : Clause) × IsClause parents parent clause it
    × AreTerms target.vars it.vars (λ t. Subsumes t target.lits it.lits picks) terms
HasTerms target parents (Resolve pos_parent pos_clause neg_parent neg_clause pos_picks neg_picks pos_terms neg_terms) =
    (first second : Clause) × IsClause parents pos_parent pos_clause first × IsClause parents neg_parent neg_clause second
    × ArePairedTerms target.vars first.vars second.vars (λ t u. Resolves t u target.lits first.lits second.lits pos_picks neg_picks) pos_terms neg_terms

-- The answer is the least candidate that works with its terms, or none where none works.
abbrev pub IsJustification : Clause → List ClauseList → Option Justification → Type 0
IsJustification target parents answer =
    MatchOption answer (NoneWorks target parents) (λ it. IsLeast target parents (candidate_of it) × HasTerms target parents it)

-- In each clause of each list, every variable is below the clause's number of variables.
abbrev pub IsNumberedList : ClauseList → Type 0
IsNumberedList list = All (λ row. IsNumbered row.clause) list.rows

abbrev pub AreNumbered : List ClauseList → Type 0
AreNumbered parents = All IsNumberedList parents
