use Rattle.ground_instances.specs.Notes.{judged_given}
use Rattle.ground_instances.specs.Rows.{terms_by}
use Rattle.ground_instances.proofs.NeedLaws.{thin_needs}
use Rattle.ground_instances.proofs.needing.image_needs.Goals as goal

pub returns-in_ok-names-in-Some : goal.returns-in_ok-names-in-Some
returns-in_ok-names-in-Some c =
    let table = c.args.table.now in let named = c.args.named.now in let h = c.in_ok-names-in-Some.ensures in
    thin_needs (judged_given c.args.given.now) table table named.place (terms_by table named.terms) c.in_ok-names-in-Some.names c.requires.here.0 c.in-Some.parent h.0
    c.requires.here.1 c.in-Some.ensures c.requires.stage h.1 h.2
