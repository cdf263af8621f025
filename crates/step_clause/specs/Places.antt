-- The least candidates, by keys: the numbers of a parent, of a clause and the picks in one list.
use Rattle.std.specs.Prelude.{◌≡◌, ℕ, List, [], ◌∷◌, ◌++◌, Option, Some, None, slice_get}
use Rattle.dk_syntax.specs.declared.Clause.{Clause}
use Rattle.dk_syntax.specs.declared.Term.{Term}
use Rattle.normal_form.specs.declared.ClauseList.{ClauseList}
use Rattle.step_clause.specs.Candidates.{IsListBefore, Subsumes, Resolves}
use Rattle.step_clause.specs.Justifications.{AreTerms, ArePairedTerms}
use Rattle.step_clause.specs.declared.justification.Justification.{Justification}
use Rattle.step_clause.specs.declared.justification.Justification.TheVariants.{Subsume, Resolve}
use Rattle.step_clause.specs.declared.places.Place.{Place}

-- The item at the first number has a property of the other numbers.
abbrev pub Among : {X : Type 0} → (X → List ℕ → Type 0) → List X → List ℕ → Type 0
Among Holds items [] = ⊥
Among Holds items (place ∷ key) = (x : _) × (slice_get items place ≡ Some x) × Holds x key

-- The same of a property of the place too.
abbrev pub AmongAt : {X : Type 0} → (ℕ → X → List ℕ → Type 0) → List X → List ℕ → Type 0
AmongAt Holds items [] = ⊥
AmongAt Holds items (place ∷ key) = (x : _) × (slice_get items place ≡ Some x) × Holds place x key

-- The answer is that of a key, and no key before it works, or no key works.
abbrev pub IsAnswer : (List ℕ → Type 0) → (Justification → List ℕ → Type 0) → Option Justification → Type 0
IsAnswer Holds IsOf None = (key : List ℕ) → Holds key → ⊥
IsAnswer Holds IsOf (Some it) = (key : List ℕ) × IsOf it key × ((other : List ℕ) → Holds other → IsListBefore other key → ⊥)

-- A clause subsumes the target by these picks, and the justification that says so.
abbrev pub SubsumesBy : Clause → Clause → List ℕ → Type 0
SubsumesBy target clause picks = (t : ℕ → Term) × Subsumes t target.lits clause.lits picks

abbrev pub IsSubsumption : Clause → ℕ → ℕ → Clause → Justification → List ℕ → Type 0
IsSubsumption target parent number clause it picks =
    (terms : List Term) × (it ≡ Subsume parent number picks terms)
    × AreTerms target.vars clause.vars (λ t. Subsumes t target.lits clause.lits picks) terms

-- Two clauses resolve by these picks, first those of the one and then those of the other.
pub record ResolvesBy (target first second : Clause) (key : List ℕ) : Type 0 where
  pub picks : List ℕ
  pub others : List ℕ
  pub whole : key ≡ picks ++ others
  pub t : ℕ → Term
  pub u : ℕ → Term
  pub resolves : Resolves t u target.lits first.lits second.lits picks others

pub record IsResolution (target : Clause) (parent number other other_number : ℕ) (first second : Clause) (it : Justification) (key : List ℕ) : Type 0 where
  pub picks : List ℕ
  pub others : List ℕ
  pub whole : key ≡ picks ++ others
  pub terms : List Term
  pub other_terms : List Term
  pub made : it ≡ Resolve parent number other other_number picks others terms other_terms
  pub paired : ArePairedTerms target.vars first.vars second.vars (λ t u. Resolves t u target.lits first.lits second.lits picks others) terms other_terms

-- The same of the clauses of a list, and of all lists.
abbrev pub ListSubsumesBy : Clause → ClauseList → List ℕ → Type 0
ListSubsumesBy target list = Among (λ row. SubsumesBy target row.clause) list.rows

abbrev pub IsListSubsumption : Clause → ℕ → ClauseList → Justification → List ℕ → Type 0
IsListSubsumption target parent list it = AmongAt (λ number row. IsSubsumption target parent number row.clause it) list.rows

abbrev pub ListResolvesBy : Clause → Clause → ClauseList → List ℕ → Type 0
ListResolvesBy target first list = Among (λ row. ResolvesBy target first row.clause) list.rows

abbrev pub IsListResolution : Clause → Place → Clause → ℕ → ClauseList → Justification → List ℕ → Type 0
IsListResolution target at first other list it =
    AmongAt (λ number row. IsResolution target at.parent at.number other number first row.clause it) list.rows

abbrev pub ClauseResolvesBy : Clause → List ClauseList → Clause → List ℕ → Type 0
ClauseResolvesBy target parents first = Among (ListResolvesBy target first) parents

abbrev pub IsClauseResolution : Clause → List ClauseList → Place → Clause → Justification → List ℕ → Type 0
IsClauseResolution target parents at first it = AmongAt (λ other list. IsListResolution target at first other list it) parents

abbrev pub ParentResolvesBy : Clause → List ClauseList → ClauseList → List ℕ → Type 0
ParentResolvesBy target parents list = Among (λ row. ClauseResolvesBy target parents row.clause) list.rows

abbrev pub IsParentResolution : Clause → List ClauseList → ℕ → ClauseList → Justification → List ℕ → Type 0
IsParentResolution target parents parent list it =
    AmongAt (λ number row. IsClauseResolution target parents (record { parent = parent; number = number }) row.clause it) list.rows
