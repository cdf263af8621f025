-- The ways in which a clause may follow from clauses of its parents, which of them work, and their order.
use Rattle.std.specs.Prelude.{◌≡◌, ℕ, ◌<◌, ◌⊎◌, List, [], ◌∷◌, ◌++◌, Some, length, slice_get, Contains, true, false}
use Rattle.dk_syntax.specs.declared.Clause.{Clause}
use Rattle.dk_syntax.specs.declared.Literal.{Literal}
use Rattle.dk_syntax.specs.declared.SymKey.{SymKey}
use Rattle.dk_syntax.specs.declared.Term.{Term}
use Rattle.normal_form.specs.declared.ClauseList.{ClauseList}
use Rattle.normal_form.specs.declared.ClauseRow.{ClauseRow}
pub use Rattle.dk_syntax.specs.Terms.{instance}

-- The instance of each literal of a clause stands in the target at its pick.
abbrev pub Subsumes : (ℕ → Term) → List Literal → List Literal → List ℕ → Type 0
Subsumes t target [] [] = Unit {0}
Subsumes t target [] (pick ∷ picks) = ⊥
Subsumes t target (literal ∷ clause) [] = ⊥
Subsumes t target (literal ∷ clause) (pick ∷ picks) =
    (slice_get target pick ≡ Some (instance t literal)) × Subsumes t target clause picks

-- The instance of a literal stands in the target at its pick, or it is the pivot, for which the target's length stands.
abbrev pub IsPicked : (ℕ → Term) → List Literal → Literal → Literal → ℕ → Type 0
IsPicked t target pivot literal pick =
    (slice_get target pick ≡ Some (instance t literal)) ⊎ ((instance t literal ≡ pivot) × (pick ≡ length target))

-- The same for each literal of a clause.
abbrev pub ArePicked : (ℕ → Term) → List Literal → Literal → List Literal → List ℕ → Type 0
ArePicked t target pivot [] [] = Unit {0}
ArePicked t target pivot [] (pick ∷ picks) = ⊥
ArePicked t target pivot (literal ∷ clause) [] = ⊥
ArePicked t target pivot (literal ∷ clause) (pick ∷ picks) =
    IsPicked t target pivot literal pick × ArePicked t target pivot clause picks

-- The instance of each literal of a clause stands in the target or is the pivot, and one at least is the pivot.
abbrev pub Cuts : (ℕ → Term) → List Literal → Literal → List Literal → List ℕ → Type 0
Cuts t target pivot clause picks = ArePicked t target pivot clause picks × Contains picks (length target)

-- An atom, and its negation.
abbrev pub affirmed : SymKey → List Term → Literal
affirmed pred args = record { positive = true; pred = pred; args = args }

abbrev pub denied : SymKey → List Term → Literal
denied pred args = record { positive = false; pred = pred; args = args }

-- A clause with positive pivots and one with negative pivots of the same atom, each under a substitution of
-- its own: what is left of both stands in the target.
abbrev pub Resolves : (ℕ → Term) → (ℕ → Term) → List Literal → List Literal → List Literal → List ℕ → List ℕ → Type 0
Resolves t u target positive negative positive_picks negative_picks =
    (pred : SymKey) × (args : List Term)
    × Cuts t target (affirmed pred args) positive positive_picks
    × Cuts u target (denied pred args) negative negative_picks

-- A way in which the target may follow: numbers of parents, of clauses of their lists, and the picks.
pub data Candidate : Type 0 where
  subsumption : (parent number : ℕ) (picks : List ℕ) → Candidate
  resolution : (positive_parent positive_number negative_parent negative_number : ℕ) (positive_picks negative_picks : List ℕ) → Candidate

-- The clause that has a number in the list of a parent.
abbrev pub IsClause : List ClauseList → ℕ → ℕ → Clause → Type 0
IsClause parents parent number clause =
    (list : ClauseList) × (row : ClauseRow) × (slice_get parents parent ≡ Some list) × (slice_get list.rows number ≡ Some row)
    × (row.clause ≡ clause)

-- The target follows in that way under some substitution of the parents' variables. The target's variables stand
-- for themselves, and two clauses have no variable in common, also where they are one clause.
abbrev pub Works : Clause → List ClauseList → Candidate → Type 0
Works target parents (subsumption parent number picks) =
    (clause : Clause) × IsClause parents parent number clause × ((t : ℕ → Term) × Subsumes t target.lits clause.lits picks)
Works target parents (resolution parent number other other_number picks other_picks) =
    (first second : Clause) × IsClause parents parent number first × IsClause parents other other_number second
    × ((t u : ℕ → Term) × Resolves t u target.lits first.lits second.lits picks other_picks)

-- The lexicographic order of lists of one length: less at the first place where they differ.
abbrev pub IsListBefore : List ℕ → List ℕ → Type 0
IsListBefore [] others = ⊥
IsListBefore (n ∷ ns) [] = ⊥
IsListBefore (n ∷ ns) (m ∷ ms) = (n < m) ⊎ ((n ≡ m) × IsListBefore ns ms)

-- The order of candidates: subsumptions first, then part by part. The picks for one clause are of one length.
abbrev pub Before : Candidate → Candidate → Type 0
Before (subsumption parent number picks) (subsumption parent' number' picks') =
    IsListBefore (parent ∷ number ∷ picks) (parent' ∷ number' ∷ picks')
Before (subsumption parent number picks) (resolution parent' number' other' other_number' picks' other_picks') = Unit {0}
Before (resolution parent number other other_number picks other_picks) (subsumption parent' number' picks') = ⊥
Before (resolution parent number other other_number picks other_picks) (resolution parent' number' other' other_number' picks' other_picks') =
    IsListBefore (parent ∷ number ∷ other ∷ other_number ∷ (picks ++ other_picks)) (parent' ∷ number' ∷ other' ∷ other_number' ∷ (picks' ++ other_picks'))

-- None works.
abbrev pub NoneWorks : Clause → List ClauseList → Type 0
NoneWorks target parents = (candidate : Candidate) → Works target parents candidate → ⊥

-- It works, and nothing that works is before it.
abbrev pub IsLeast : Clause → List ClauseList → Candidate → Type 0
IsLeast target parents candidate =
    Works target parents candidate × ((other : Candidate) → Works target parents other → Before other candidate → ⊥)
