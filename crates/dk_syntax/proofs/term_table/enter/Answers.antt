use Rattle.std.proofs.Common.{sym, ◌∙◌}
use Rattle.indexmap.proofs.CallerLemmas.{insert_entry-new}
use Rattle.dk_syntax.proofs.EntryLaws.{absent_entered, absent_lookup, found_entered}
use Rattle.dk_syntax.proofs.ShapeEquality.{shapes_decided}
use Rattle.dk_syntax.proofs.term_table.enter.Goals as goal

pub returns-in-Some-clause-ok : goal.returns-in-Some-clause-ok
returns-in-Some-clause-ok c =
    found_entered _ c.args.entries.now.entries c.args.shape c.args.size c.in-Some.place (λ b e. sym ((shapes_decided c.args.shape b).0 e))
    (sym c.get_index_of.ensures.index ∙ c.in-Some.is)

pub returns-clause-ok : goal.returns-clause-ok
returns-clause-ok c =
    let none = absent_lookup _ _ c.in_default.not-Some c.get_index_of.ensures.found in
    absent_entered _ c.args.entries.now.entries c.insert.new.self.entries c.args.shape c.args.size c.len-place.result (λ b e. (shapes_decided c.args.shape b).1 (sym e)) none
    (c.in_ok-insert.ensures.entries ∙ insert_entry-new _ c.args.entries.now c.args.shape c.args.size none) c.len-place.ensures.len
