use Rattle.std.proofs.Common.{sym, ◌∙◌}
use Rattle.ground_instances.proofs.NameEquality.{any_contains, contains_any}
use Rattle.ground_instances.proofs.state.is_listed.Goals as goal

pub returns : goal.returns
returns c = (λ h. any_contains c.args.named.now c.args.names.now.keys (sym c.contains.ensures ∙ h), λ h. c.contains.ensures ∙ contains_any c.args.named.now c.args.names.now.keys h)
