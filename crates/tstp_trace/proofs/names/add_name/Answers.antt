use Rattle.std.proofs.Common.{◌∙◌}
use Rattle.tstp_trace.proofs.NameLaws.{key_is_new, keys_with_name}
use Rattle.tstp_trace.proofs.names.add_name.Goals as goal

pub returns-clause-fresh : goal.returns-clause-fresh
returns-clause-fresh c =
    key_is_new c.args.names.now.keys c.in_ok-bytes.bytes c.args.name.now c.in_ok-fresh.fresh (c.in_ok-bytes.ensures.items ∙ c.as_bytes.ensures) c.in_ok-fresh.ensures.added

pub returns-clause-names : goal.returns-clause-names
returns-clause-names c =
    keys_with_name c.args.names.now.keys c.insert.new.self.keys c.in_ok-bytes.bytes c.args.name.now (c.in_ok-bytes.ensures.items ∙ c.as_bytes.ensures) c.in_ok-fresh.ensures.keys
