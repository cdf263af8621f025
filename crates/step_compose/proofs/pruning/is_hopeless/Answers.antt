use Rattle.std.proofs.Common.{◌∙◌}
use Rattle.step_compose.proofs.Branches.{hopeless}
use Rattle.step_compose.proofs.Justified.{unjustified_from}
use Rattle.step_compose.proofs.pruning.is_hopeless.Goals as goal

pub returns : goal.returns
returns c = λ yes.
    hopeless c.args.from.now c.args.aliens.now c.args.targets.now.rows c.args.places.now c.as_slice.result.now c.in_ok-image.image
    (c.requires.closed c.if-not-closed.false) (c.as_slice.ensures ∙ c.in_ok-symbols.ensures) c.in_ok-image.ensures.rows
    (unjustified_from c.args.targets.now.rows c.in_ok-image.image c.in_ok-found.found c.in_ok-found.ensures c.in-None.is)
