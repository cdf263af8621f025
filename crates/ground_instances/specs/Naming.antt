-- Names whose terms are numbers in a table. Only private contracts cite this.
use Rattle.std.specs.Prelude.{◌≡◌, ℕ, ◌<◌, List, [], ◌∷◌, map, length, Contains, true}
use Rattle.std.specs.List.{All}
use Rattle.dk_syntax.specs.Terms.{any_true, has_variable}
use Rattle.dk_syntax.specs.declared.clause.Clause.{Clause}
use Rattle.dk_syntax.specs.declared.clause.Literal.{Literal}
use Rattle.dk_syntax.specs.declared.term.Term.{Term}
use Rattle.ground_instances.specs.Keys.{IsBase, IsClauseOf, IsLeafBase, Judged, Key, key}
use Rattle.ground_instances.specs.Needs.{Needs, of_image, of_parents, of_stage}
use Rattle.ground_instances.specs.Growing.{Grows}
use Rattle.ground_instances.specs.Rows.{AreBelow, terms_by}
use Rattle.ground_instances.specs.Weights.{IsPartOf}
use Rattle.ground_instances.specs.declared.naming.Lists.{Lists}
use Rattle.ground_instances.specs.declared.naming.Lists.TheVariants.{Image, Parents, Stage}
use Rattle.ground_instances.specs.declared.naming.Named.{Named}
use Rattle.ground_instances.specs.declared.naming.Place.{Place}

-- an instance of the clause at that place
abbrev pub key_at : Place → List Term → Key
key_at place terms = key place.step place.stage place.clause terms

-- the name with its terms written out
abbrev pub key_by : List Term → Named → Key
key_by table named = key_at named.place (terms_by table named.terms)

abbrev pub keys_by : List Term → List Named → List Key
keys_by table names = map (key_by table) names

-- the numbers are those of terms, of which there are so many
abbrev pub AreNamesBelow : ℕ → List Named → Type 0
AreNamesBelow count names = All (λ named. AreBelow count named.terms) names

-- the variable stands in the literals
abbrev pub HasVariable : List Literal → ℕ → Type 0
HasVariable lits k = (literal : Literal) × Contains lits literal × (any_true (map (has_variable k) literal.args) ≡ true)

-- each variable of the clause stands in it
abbrev pub HasEachVariable : Clause → Type 0
HasEachVariable clause = (k : ℕ) → k < clause.vars → HasVariable clause.lits k

-- the key has a clause and a term for each variable, and each of these stands in the clause
pub record IsFit (judged : Judged) (one : Key) : Type 0 where
  pub clause : Clause
  pub of : IsClauseOf judged one clause
  pub each : length one.terms ≡ clause.vars
  pub stand : HasEachVariable clause

-- the term stands in the terms of one of the keys
abbrev pub IsNamedPart : List Key → Term → Type 0
IsNamedPart keys t = (one : Key) × Contains keys one × IsPartOf one.terms t

-- the names are those of the keys, and only parts of their terms come to the table
pub record AreNamed (old : List Term) (keys : List Key) (new : List Term) (names : List Named) : Type 0 where
  pub are : keys_by new names ≡ keys
  pub below : AreNamesBelow (length new) names
  pub grows : Grows (IsNamedPart keys) old new

-- the names are those of what an instance needs
abbrev pub AreNeedsOf : Judged → List Term → Key → List Term → List Named → Type 0
AreNeedsOf judged old one new names = (keys : List Key) × Needs judged one keys × AreNamed old keys new names

-- the instances of the lists that a justification takes its clauses from, by the numbers of the list and of the clause, and
-- the terms; the place is that of the instance that is justified
abbrev pub keys_from : Judged → Place → Lists → ℕ → ℕ → List Term → Key
keys_from judged place Parents = of_parents judged place.step
keys_from judged place (Stage mids) = of_stage judged place.step place.clause mids
keys_from judged place Image = of_image judged place.step

-- what the same clause needs at the base of the step: nothing where that is a leaf
pub data AreBaseNeeds (judged : Judged) (step clause : ℕ) (terms : List Term) : List Key → Type 0 where
  at_leaf : IsLeafBase judged step → AreBaseNeeds judged step clause terms []
  at_base : (base : ℕ) → (IsLeafBase judged step → ⊥) → IsBase judged step base → AreBaseNeeds judged step clause terms (key base 0 clause terms ∷ [])

-- the instances have their clauses, whatever their terms are
abbrev pub AreNamesFit : Judged → List Named → Type 0
AreNamesFit judged names = All (λ named. (terms : List Term) → length terms ≡ length named.terms → IsFit judged (key_at named.place terms)) names
