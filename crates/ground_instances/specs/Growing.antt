-- What comes to a table of terms. Only private contracts cite this.
use Rattle.std.specs.Prelude.{◌≡◌, ℕ, ◌<◌, List, ◌++◌, map, length, Contains}
use Rattle.dk_syntax.specs.TermTables.{term_of}
use Rattle.dk_syntax.specs.Terms.{instance}
use Rattle.dk_syntax.specs.declared.clause.Literal.{Literal}
use Rattle.dk_syntax.specs.declared.term.Term.{Term}
use Rattle.ground_instances.specs.Needs.{ground, value_in}
use Rattle.ground_instances.specs.Rows.{AreBelow, AreLiteralsBelow, literals_by, terms_by}
use Rattle.ground_instances.specs.Weights.{IsInClause, IsPart, IsPartOf}
use Rattle.ground_instances.specs.declared.instance.RowLit.{RowLit}

-- the table has its old terms and then others, each of them with the property
pub record Grows (Is : Term → Type 0) (old new : List Term) : Type 0 where
  pub more : List Term
  pub grown : new ≡ old ++ more
  pub each : (t : Term) → Contains more t → Is t

-- the number is that of the term, whose parts alone come to the table
pub record IsEntered (old : List Term) (t : Term) (new : List Term) (n : ℕ) : Type 0 where
  pub grows : Grows (λ u. IsPart u t) old new
  pub below : n < length new
  pub is : term_of new n ≡ t

-- the numbers are those of the terms, whose parts alone come to the table
pub record AreEntered (old ts new : List Term) (numbers : List ℕ) : Type 0 where
  pub grows : Grows (IsPartOf ts) old new
  pub below : AreBelow (length new) numbers
  pub are : terms_by new numbers ≡ ts

-- the literals have the numbers of the literals' terms, whose parts alone come to the table
pub record AreLiteralsEntered (old : List Term) (lits : List Literal) (new : List Term) (rows : List RowLit) : Type 0 where
  pub grows : Grows (IsInClause lits) old new
  pub below : AreLiteralsBelow (length new) rows
  pub are : literals_by new rows ≡ lits

-- the terms with those of these numbers for the variables
abbrev pub grounds : List Term → List ℕ → List Term → List Term
grounds table values ts = map (ground (terms_by table values)) ts

-- the literals with the terms of these numbers for the variables
abbrev pub ground_literals : List Term → List ℕ → List Literal → List Literal
ground_literals table values lits = map (instance (value_in (terms_by table values))) lits
