-- Justifications and clause lists over a list of symbols.
use Rattle.std.specs.Prelude.{List}
use Rattle.dk_syntax.specs.Lists.{Every}
use Rattle.dk_syntax.specs.declared.clause.Clause.{Clause}
use Rattle.dk_syntax.specs.declared.symbol.SymKey.{SymKey}
use Rattle.normal_form.specs.declared.clause_list.ClauseList.{ClauseList}
use Rattle.normal_form.specs.declared.clause_list.ClauseRow.{ClauseRow}
use Rattle.plan_symbols.specs.Over.{IsLiteralOver, IsTermOver}
use Rattle.step_clause.specs.declared.justification.Justification.{Justification}
use Rattle.step_clause.specs.declared.justification.Justification.TheVariants.{Resolve, Subsume}

-- the terms of the justification are over the symbols
abbrev pub JustificationOver : List SymKey → Justification → Type 0
JustificationOver symbols (Subsume parent clause picks terms) = Every (IsTermOver symbols) terms
JustificationOver symbols (Resolve pos_parent pos_clause neg_parent neg_clause pos_picks neg_picks pos_terms neg_terms) =
    Every (IsTermOver symbols) pos_terms × Every (IsTermOver symbols) neg_terms

-- the literals of the clause are
abbrev pub IsClauseOver : List SymKey → Clause → Type 0
IsClauseOver symbols clause = Every (IsLiteralOver symbols) clause.lits

-- so they are of each clause of the rows
abbrev pub AreRowsOver : List SymKey → List ClauseRow → Type 0
AreRowsOver symbols rows = Every (λ row. IsClauseOver symbols row.clause) rows

-- and of each list
abbrev pub AreListsOver : List SymKey → List ClauseList → Type 0
AreListsOver symbols lists = Every (λ list. AreRowsOver symbols list.rows) lists
