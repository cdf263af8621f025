use Rattle.std.proofs.Common.{[], ◌∷◌, sym, subst}
use Rattle.ground_instances.specs.Growing.{grounds}
use Rattle.ground_instances.specs.Naming.{AreNamed, key_at}
use Rattle.ground_instances.proofs.Growth.{two_named}
use Rattle.ground_instances.proofs.needing.two_needs.Goals as goal

pub returns : goal.returns
returns c =
    let old = c.args.table.now in let values = c.args.values.now in
    let one = key_at c.args.place (grounds old values c.args.terms.now) in let other = key_at c.args.other (grounds old values c.args.other_terms.now) in
    subst (AreNamed old (one ∷ other ∷ []) c.enter_terms.new.table) (sym c.in_ok-push.ensures.ok)
    (two_named old c.one_need.new.table c.enter_terms.new.table one c.in_ok-names.names c.args.other values c.args.other_terms.now c.in_ok-terms.terms c.requires
    c.in_ok-names.ensures c.in_ok-terms.ensures)
