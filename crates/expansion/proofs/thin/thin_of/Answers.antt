use Rattle.std.proofs.Common.{subst, sym}
use Rattle.std.specs.Prelude.{Err, IfOk, Ok, Result}
use Rattle.expansion.proofs.RowEnds.{rows_are_thin}
use Rattle.expansion.specs.Rows.{EndsInRow}
use Rattle.expansion.proofs.thin.thin_of.Goals as goal

-- a fact of an answer carried over
ok_map : {T E : Type 0} {P Q : T → Type 0} (r : Result T E) → ((t : T) → P t → Q t) → IfOk r P → IfOk r Q
ok_map (Ok t) f h = f t h
ok_map (Err e) f h = h

pub returns : goal.returns
returns c =
    let leaf = c.args.leaf.now in
    let entries = c.args.map.now.entries in
    let row = c.args.row.now in
    let terms = c.args.terms.now in
    record {
      choices = c.tree_of.ensures;
      ends = ok_map c.tree_of.result (λ thin e. subst (EndsInRow leaf entries row terms) (sym e) (rows_are_thin c.args.sign leaf entries row terms)) c.tree_of.ensures;
    }
