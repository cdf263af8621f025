use Rattle.std.proofs.Common.{◌≡◌, Some, slice_get, ap, ◌∙◌, sym, length, refl}
use Rattle.std.proofs.lemmas.Option.{slice_get-map, slice_get_read}
use Rattle.std.specs.Prelude.{option_map}
use Rattle.derivation_graph.specs.Graphs.{names_of}
use Rattle.derivation_graph.specs.declared.graph.Node.{Node}
use Rattle.derivation_graph.proofs.NameLaws.{next_key}
use Rattle.derivation_graph.proofs.names.name_set.Goals as goal

pub loop-node-preserved : goal.loop-node-preserved
loop-node-preserved c =
    let nodes = c.args.nodes.now in
    let i = c.loop-node.node-index in
    let here : slice_get (names_of nodes) i ≡ Some c.in_ok-name.name.items =
    slice_get-map (λ (node : Node). node.name) nodes i ∙ (ap (option_map (λ (node : Node). node.name)) (slice_get_read nodes (length nodes) i c.node-item.result refl c.loop-node-test.true c.node-item.is) ∙ ap Some (sym (c.in_ok-name.ensures.items ∙ c.as_bytes.ensures))) in
    next_key (names_of nodes) c.loop-node.set.keys c.insert.new.self.keys c.in_ok-name.name i c.requires c.loop-node.invariant here c.in_ok-insert.ensures.keys
