use Rattle.std.proofs.Common.{length, refl, sym, ap, ◌∙◌, subst, arith}
use Rattle.std.proofs.lemmas.Option.{slice_get_read}
use Rattle.dk_syntax.specs.Depth.{capped}
use Rattle.ground_instances.specs.Rows.{AreLiteralsBelow, IsRowBelow, literals_by}
use Rattle.ground_instances.specs.Weights.{tree_weight}
use Rattle.ground_instances.proofs.WeightLaws.{first_is_wide, narrow_from, none_more, none_wide, wide_from}
use Rattle.ground_instances.proofs.reading.first_wide.Goals as goal

pub tree_weight_of-requires : goal.tree_weight_of-requires
tree_weight_of-requires c =
    let row = c.row-item.result in
    let below = subst (IsRowBelow (length c.args.table.now)) (sym c.row-item.is) (c.requires c.loop-row.row-index row c.loop-row-test.true) in
    subst (AreLiteralsBelow (length c.args.table.now)) (sym c.as_slice.ensures) below.lits

pub returns-then-tree_weight_of-gt1000000 : goal.returns-then-tree_weight_of-gt1000000
returns-then-tree_weight_of-gt1000000 c =
    let table = c.args.table.now in let rows = c.args.rows.now in let row = c.row-item.result in
    let at = slice_get_read rows (length rows) c.loop-row.row-index row refl c.loop-row-test.true c.row-item.is in
    let counted = c.tree_weight_of.ensures ∙ ap (λ ls. capped (tree_weight (literals_by table ls))) c.as_slice.ensures in
    first_is_wide table rows c.loop-row.row-index row at (wide_from (tree_weight (literals_by table row.lits)) c.tree_weight_of.result counted c.if-tree_weight_of-gt1000000.true)
    c.loop-row.invariant

pub loop-row-preserved : goal.loop-row-preserved
loop-row-preserved c =
    let table = c.args.table.now in let rows = c.args.rows.now in let row = c.row-item.result in
    let at = slice_get_read rows (length rows) c.loop-row.row-index row refl c.loop-row-test.true c.row-item.is in
    let counted = c.tree_weight_of.ensures ∙ ap (λ ls. capped (tree_weight (literals_by table ls))) c.as_slice.ensures in
    none_more table rows c.loop-row.row-index row at (narrow_from (tree_weight (literals_by table row.lits)) c.tree_weight_of.result counted c.if-tree_weight_of-gt1000000.false)
    c.loop-row.invariant

pub returns : goal.returns
returns c = none_wide c.args.table.now c.args.rows.now (λ k row less at. let end = c.loop-row-test.false in c.loop-row.invariant k row (omega arith) at)
