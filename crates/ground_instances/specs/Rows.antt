-- Instances whose terms are numbers in a table.
use Rattle.std.specs.Prelude.{ℕ, ◌<◌, List, map, length}
use Rattle.std.specs.List.{All}
use Rattle.dk_syntax.specs.TermTables.{term_of}
use Rattle.dk_syntax.specs.declared.clause.Literal.{Literal}
use Rattle.dk_syntax.specs.declared.term.Term.{Term}
use Rattle.ground_instances.specs.declared.instance.Instance.{Instance}
use Rattle.ground_instances.specs.declared.instance.Row.{Row}
use Rattle.ground_instances.specs.declared.instance.RowLit.{RowLit}

-- the terms of the numbers
abbrev pub terms_by : List Term → List ℕ → List Term
terms_by table numbers = map (term_of table) numbers

-- the literal with its terms written out
abbrev pub literal_by : List Term → RowLit → Literal
literal_by table one = record { positive = one.positive; pred = one.pred; args = terms_by table one.args }

-- the literals with their terms written out
abbrev pub literals_by : List Term → List RowLit → List Literal
literals_by table lits = map (literal_by table) lits

-- the instance of the row, with its terms written out
abbrev pub written : List Term → Row → Instance
written table row = record {
  step = row.step;
  stage = row.stage;
  clause = row.clause;
  terms = terms_by table row.terms;
  lits = literals_by table row.lits;
  needs = row.needs;
}

-- the instances of the rows
abbrev pub instances_by : List Term → List Row → List Instance
instances_by table rows = map (written table) rows

-- the numbers are those of terms, of which there are so many
abbrev pub AreBelow : ℕ → List ℕ → Type 0
AreBelow count numbers = All (λ n. n < count) numbers

-- the numbers in the literals are
abbrev pub AreLiteralsBelow : ℕ → List RowLit → Type 0
AreLiteralsBelow count lits = All (λ one. AreBelow count one.args) lits

-- the numbers in the row are
pub record IsRowBelow (count : ℕ) (row : Row) : Type 0 where
  pub terms : AreBelow count row.terms
  pub lits : AreLiteralsBelow count row.lits

-- the numbers in the rows are those of terms of the table
abbrev pub AreRowsBelow : List Term → List Row → Type 0
AreRowsBelow table rows = All (IsRowBelow (length table)) rows
