use Rattle.std.proofs.Common.{None, Some, sym, ◌∙◌}
use Rattle.derivation_graph.proofs.NameLaws.{number_by_place}
use Rattle.derivation_graph.proofs.names.number_in.Goals as goal

pub returns-in-None : goal.returns-in-None
returns-in-None c = sym (number_by_place c.args.set.now.keys c.as_bytes.result.now c.args.name.now None c.as_bytes.ensures c.in-None.ensures.index)

pub returns-in_ok-number-in-Some : goal.returns-in_ok-number-in-Some
returns-in_ok-number-in-Some c =
    c.in_ok-number-in-Some.ensures ∙ sym (number_by_place c.args.set.now.keys c.as_bytes.result.now c.args.name.now (Some c.in-Some.place) c.as_bytes.ensures c.in-Some.ensures.index)
