use Rattle.std.proofs.Common.{get_or, length, refl, sym, ap, ◌∙◌, subst}
use Rattle.std.proofs.lemmas.Option.{slice_get_read}
use Rattle.ground_instances.specs.Rows.{IsRowBelow}
use Rattle.ground_instances.proofs.WeightLaws.{instance_there}
use Rattle.ground_instances.proofs.reading.instance_at.Goals as goal

pub written_row-requires : goal.written_row-requires
written_row-requires c =
    let row = c.index-rows-j.result in
    subst (IsRowBelow (length c.args.list.now.table)) (sym (c.index-rows-j.is ∙ ap (λ xs. get_or xs c.args.j row) c.as_slice-rows.ensures))
    (c.args.list.now.below c.args.j row c.requires)

pub returns : goal.returns
returns c =
    let row = c.index-rows-j.result in
    let rows = c.args.list.now.rows in
    instance_there c.args.list.now.table rows c.args.j row c.in_ok-it.it
    (slice_get_read rows (length rows) c.args.j row refl c.requires (c.index-rows-j.is ∙ ap (λ xs. get_or xs c.args.j row) c.as_slice-rows.ensures)) c.in_ok-it.ensures
