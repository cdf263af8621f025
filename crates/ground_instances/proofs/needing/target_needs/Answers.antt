use Rattle.std.proofs.Common.{◌≡◌, length, Some, slice_get, arith}
use Rattle.ground_instances.specs.Notes.{judged_given}
use Rattle.ground_instances.specs.Rows.{terms_by}
use Rattle.ground_instances.proofs.NeedLaws.{target_needs}
use Rattle.ground_instances.proofs.needing.target_needs.Goals as goal

pub returns : goal.returns
returns c =
    let named = c.args.named.now in let h = c.in_ok-names.ensures in
    let at : slice_get c.args.chains.now named.place.clause ≡ Some c.in-Some.chain.now = c.in-Some.ensures in
    let all : c.in-Ok.mids ≡ length c.in-Some.chain.now.mids = let e = c.in-Ok.ensures.1 in let l = c.len.ensures in omega arith in
    target_needs (judged_given c.args.given.now) c.args.table.now c.chain_needs.new.table named.place (terms_by c.args.table.now named.terms) c.in_ok-names.names
    c.args.chains.now c.in-Some.chain.now h.0 c.in-Ok.mids c.requires.here c.requires.stage at all h.1 h.2
