use Rattle.std.proofs.Common.{◌≡◌, Some, slice_get, sym, ◌∙◌, subst}
use Rattle.ground_instances.proofs.NameEquality.{at_position}
use Rattle.ground_instances.proofs.state.number_of.Goals as goal

pub returns-in-Ok : goal.returns-in-Ok
returns-in-Ok c =
    subst (λ n. slice_get c.args.names.now.keys n ≡ Some c.args.named.now) (sym c.in-Ok.ensures.1)
    (at_position c.args.named.now c.args.names.now.keys c.in-Some.number (sym c.get_index_of.ensures.index ∙ c.in-Some.is))
