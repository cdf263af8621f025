-- The clause list of a form.
use Rattle.std.specs.Prelude.{ℕ, ◌+◌, ◌*◌, nat_eq, Bool, true, false, ◌||◌, if◌then◌else◌, List, [], ◌∷◌, ◌++◌, length, map}
use Rattle.dk_syntax.specs.Symbols.{joined}
use Rattle.dk_syntax.specs.declared.Clause.{Clause}
use Rattle.dk_syntax.specs.declared.Literal.{Literal}
use Rattle.dk_syntax.specs.declared.Term.{Term, Term-F, fold-Term}
use Rattle.dk_syntax.specs.declared.Term.TheOpen as term
use Rattle.normal_form.specs.Renaming.{owner, place_of, renamed_literal}
use Rattle.normal_form.specs.declared.clause_list.ClauseRow.{ClauseRow}
use Rattle.normal_form.specs.declared.form.Nf.{Nf, Nf-F, fold-Nf}
use Rattle.normal_form.specs.declared.form.Nf.TheOpen as form
use Rattle.normal_form.specs.declared.raw.Raw.{Raw}

-- ---- rows whose variables are numbers of universals

-- a row of these literals and sides
abbrev pub raw : List Literal → List Bool → Raw
raw lits picks = record { lits = lits; picks = picks }

-- the row with one more side, taken before the others
abbrev pub taking : Bool → Raw → Raw
taking side row = raw row.lits (side ∷ row.picks)

-- two rows joined, the left one first
abbrev pub beside : Raw → Raw → Raw
beside left right = raw (left.lits ++ right.lits) (left.picks ++ right.picks)

-- each left row joined with each right one, in the left ones' order first
abbrev pub pairs_of : List Raw → List Raw → List Raw
pairs_of [] rights = []
pairs_of (left ∷ rest) rights = map (beside left) rights ++ pairs_of rest rights

-- How many universals stand in a form, and its rows: from the number of its first universal, as universals
-- are numbered in preorder, and from the numbers of the universals around it, the inmost first.
abbrev pub Rows : Type 0
Rows = ℕ × (ℕ → List ℕ → List Raw)

-- the rows of a form, from those of its parts
abbrev pub rows_at : Nf-F Rows → Rows
rows_at form.True = (0, λ next around. [])
rows_at form.False = (0, λ next around. raw [] [] ∷ [])
rows_at (form.Lit literal) = (0, λ next around. raw (renamed_literal (owner around) literal ∷ []) [] ∷ [])
rows_at (form.And a b) = (a.0 + b.0, λ next around. map (taking false) (a.1 next around) ++ map (taking true) (b.1 (next + a.0) around))
rows_at (form.Or a b) = (a.0 + b.0, λ next around. pairs_of (a.1 next around) (b.1 (next + a.0) around))
rows_at (form.All a) = (1 + a.0, λ next around. a.1 (next + 1) (next ∷ around))
rows_at (form.Ex a) = (a.0, λ next around. [])

-- the rows of the form
abbrev pub rows_of : Nf → Rows
rows_of = fold-Nf Rows rows_at

-- ---- clauses, whose variables are numbered by first occurrence

-- a term's occurrences of variables, from those of its arguments
abbrev pub variables_at : Term-F (List ℕ) → List ℕ
variables_at (term.Var n) = n ∷ []
variables_at (term.App symbol args) = joined args
variables_at term.Any = []

-- each occurrence of a variable in the term, from left to right
abbrev pub variables_of : Term → List ℕ
variables_of = fold-Term (List ℕ) variables_at

-- each occurrence of a variable in the literal, from left to right
abbrev pub literal_variables : Literal → List ℕ
literal_variables literal = joined (map variables_of literal.args)

-- the number stands in the list
abbrev pub has_number : List ℕ → ℕ → Bool
has_number [] n = false
has_number (m ∷ rest) n = nat_eq m n || has_number rest n

-- the list with the number at its end, unless the number is there
abbrev pub with_number : List ℕ → ℕ → List ℕ
with_number seen n = if has_number seen n then seen else seen ++ n ∷ []

-- the list with each of the numbers, one by one
abbrev pub with_numbers : List ℕ → List ℕ → List ℕ
with_numbers seen [] = seen
with_numbers seen (n ∷ rest) = with_numbers (with_number seen n) rest

-- the universals that occur in the literals, by first occurrence
abbrev pub quants_of : List Literal → List ℕ
quants_of lits = with_numbers [] (joined (map literal_variables lits))

-- the clause of these literals, where a universal's variable has its place in the list as its number
abbrev pub clause_over : List ℕ → List Literal → Clause
clause_over quants lits = record { vars = length quants; lits = map (renamed_literal (place_of quants)) lits }

-- the row with its clause's own variables
abbrev pub row_of : Raw → ClauseRow
row_of row = record { clause = clause_over (quants_of row.lits) row.lits; quants = quants_of row.lits; picks = row.picks }

-- the clause list of the form
abbrev pub clause_rows : Nf → List ClauseRow
clause_rows a = map row_of ((rows_of a).1 0 [])

-- how many literals the rows' clauses have together
abbrev pub literal_count : List ClauseRow → ℕ
literal_count [] = 0
literal_count (row ∷ rest) = length row.clause.lits + literal_count rest

-- ---- counts

-- the numbers of clauses and of their literals, from those of a form's parts
abbrev pub totals_at : Nf-F (ℕ × ℕ) → ℕ × ℕ
totals_at form.True = (0, 0)
totals_at form.False = (1, 0)
totals_at (form.Lit literal) = (1, 1)
totals_at (form.And a b) = (a.0 + b.0, a.1 + b.1)
totals_at (form.Or a b) = (a.0 * b.0, a.1 * b.0 + a.0 * b.1)
totals_at (form.All a) = a
totals_at (form.Ex a) = (0, 0)

-- the numbers of clauses and of their literals, without the list
abbrev pub totals : Nf → ℕ × ℕ
totals = fold-Nf (ℕ × ℕ) totals_at
