use Rattle.std.proofs.Common.{◌∙◌}
use Rattle.dedukti_text.proofs.Names.{inserted}
use Rattle.dedukti_text.proofs.patterns.add_name.Goals as goal

pub returns : goal.returns
returns c = inserted c.args.seen.now.keys c.insert.new.self.keys c.in_ok-name.name c.args.name.now (c.in_ok-name.ensures.items ∙ c.as_bytes.ensures) c.in_ok-insert.ensures.keys
