use Rattle.std.proofs.Common.{◌∙◌, ap, length, refl}
use Rattle.std.proofs.lemmas.Option.{slice_get_read}
use Rattle.derivation_graph.specs.Graphs.{names_of, numbers_of}
use Rattle.derivation_graph.specs.Names.{bytes_of}
use Rattle.derivation_graph.proofs.NameLaws.{first_fault, numbers_grow, sound_so_far}
use Rattle.derivation_graph.proofs.names.all_numbers.Goals as goal

pub returns-in-Err : goal.returns-in-Err
returns-in-Err c =
    let nodes = c.args.nodes.now in
    first_fault nodes (bytes_of c.args.set.now.keys) c.loop-place.place c.in_ok-step.step c.index-nodes-place.result c.in-Err.fault c.requires c.in_ok-step.ensures
    (slice_get_read nodes (length nodes) c.loop-place.place c.index-nodes-place.result refl c.loop-place-test.true c.index-nodes-place.is) c.loop-place.invariant.sound c.in-Err.ensures

pub loop-place-preserved : goal.loop-place-preserved
loop-place-preserved c =
    let nodes = c.args.nodes.now in
    let here = slice_get_read nodes (length nodes) c.loop-place.place c.index-nodes-place.result refl c.loop-place-test.true c.index-nodes-place.is in
    record {
      numbers = numbers_grow (numbers_of (names_of nodes)) nodes c.loop-place.place c.index-nodes-place.result c.loop-place.rows.items c.push.new.self.items c.in-Ok.row c.loop-place-test.true c.index-nodes-place.is c.loop-place.invariant.numbers
          (c.in-Ok.ensures.0 ∙ ap (λ l. numbers_of l c.index-nodes-place.result) c.requires) c.in_ok-push-in-Ok.ensures.items;
      sound = sound_so_far nodes (bytes_of c.args.set.now.keys) c.loop-place.place c.index-nodes-place.result c.requires here c.loop-place.invariant.sound c.in-Ok.ensures.1;
    }
