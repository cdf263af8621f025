-- In the clause list of a form all variables are below their clauses' numbers of variables.
use Rattle.std.proofs.Common.{◌≡◌, ℕ, zero, suc, List, [], ◌∷◌, map, sym, subst, arith}
use Rattle.std.specs.List.{All}
use Rattle.normal_form.specs.ClauseLists.{clause_rows, row_of, rows_of}
use Rattle.normal_form.specs.declared.clause_list.ClauseList.{ClauseList}
use Rattle.normal_form.specs.declared.clause_list.ClauseRow.{ClauseRow}
use Rattle.normal_form.specs.declared.form.Nf.{Nf}
use Rattle.normal_form.specs.declared.raw.Raw.{Raw}
use Rattle.step_chain.proofs.Numbered.{over_numbered}
use Rattle.step_clause.specs.Justifications.{IsNumbered, IsNumberedList}

rows_numbered : (raws : List Raw) → All (λ row. IsNumbered row.clause) (map row_of raws)
rows_numbered [] k d less = absurd (omega arith)
rows_numbered (raw ∷ raws) zero d less = over_numbered raw.lits
rows_numbered (raw ∷ raws) (suc k) d less = rows_numbered raws k d (omega arith)

pub list_numbered : (list : ClauseList) (n : Nf) → list.rows ≡ clause_rows n → IsNumberedList list
list_numbered list n e = subst (λ (rows : List ClauseRow). All (λ row. IsNumbered row.clause) rows) (sym e) (rows_numbered ((rows_of n).1 0 []))
