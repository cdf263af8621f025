use Rattle.std.proofs.Common.{rules}
use Rattle.step_compose.proofs.Justified.{alone_numbered}
use Rattle.step_compose.proofs.targets.justify_from.Goals as goal

pub justify_all-requires-clause-lists : goal.justify_all-requires-clause-lists
justify_all-requires-clause-lists c = alone_numbered c.push.new.self c.args.image (search rules) c.requires.image
