use Rattle.std.proofs.Common.{◌≤◌, ◌+◌, ◌∙◌, length, map, refl, sym, ap, arith}
use Rattle.std.proofs.lemmas.Iterator.Adapters.{YieldsList-from_vec}
use Rattle.std.proofs.lemmas.Iterator.Consumers.{YieldsList-end, YieldsList-turn}
use Rattle.std.proofs.lemmas.List.{length_push, take_all}
use Rattle.std.proofs.lemmas.Option.{slice_get_read}
use Rattle.tstp_trace.specs.Names.{bytes_of}
use Rattle.tstp_trace.specs.Traces.{part_of_item, part_of_step, step_fault}
use Rattle.tstp_trace.proofs.TraceLaws.{first_step_fault, names_so_far, not_duplicate, sound_so_far, step_judged, steps_so_far}
use Rattle.tstp_trace.proofs.traces.all_steps.Goals as goal

pub returns-in-Err : goal.returns-in-Err
returns-in-Err c =
    let items = c.args.items.items in
    let place = length c.loop-item.yielded in
    let item = c.in-Some.item in
    let turn = YieldsList-turn (YieldsList-from_vec {s = c.into_iter-item-iterator.result} items c.into_iter-item-iterator.ensures.into_iter_gives.0 (c.into_iter-item-iterator.ensures.into_iter_gives.1 ∙ c.args.items.ok.0)) c.loop-item.yielded c.loop-item.item-iterator c.loop-item.yielded_by c.next.result c.next.new.self item c.in-Some.is c.next.ensures.steps in
    let here = slice_get_read items (length items) place item refl turn.0 turn.1 in
    let counted = c.in_ok-number.ensures ∙ ap (λ n. n + 1) c.loop-item.invariant.last in
    first_step_fault items place c.in_ok-number.number (bytes_of c.loop-item.names.keys) item c.in-Err.fault c.loop-item.invariant.names counted turn.0 here c.loop-item.invariant.sound c.in-Err.ensures.answer

pub loop-item-preserved : goal.loop-item-preserved
loop-item-preserved c =
    let items = c.args.items.items in
    let place = length c.loop-item.yielded in
    let item = c.in-Some.item in
    let names = bytes_of c.loop-item.names.keys in
    let turn = YieldsList-turn (YieldsList-from_vec {s = c.into_iter-item-iterator.result} items c.into_iter-item-iterator.ensures.into_iter_gives.0 (c.into_iter-item-iterator.ensures.into_iter_gives.1 ∙ c.args.items.ok.0)) c.loop-item.yielded c.loop-item.item-iterator c.loop-item.yielded_by c.next.result c.next.new.self item c.in-Some.is c.next.ensures.steps in
    let here = slice_get_read items (length items) place item refl turn.0 turn.1 in
    let counted = c.in_ok-number.ensures ∙ ap (λ n. n + 1) c.loop-item.invariant.last in
    let judged = step_judged items place c.in_ok-number.number names item c.loop-item.invariant.names counted turn.0 in
    let none = c.in-Ok.ensures.answer.0 in
    rw (length_push c.loop-item.yielded item) (record {
      last = counted;
      names = names_so_far items place item names (bytes_of c.step_of.new.names.keys) turn.0 turn.1 c.loop-item.invariant.names (not_duplicate names c.in_ok-number.number item none) c.in-Ok.ensures.names;
      steps = steps_so_far items place item c.loop-item.steps.items c.push.new.self.items c.in-Ok.step turn.0 turn.1 c.loop-item.invariant.steps c.in-Ok.ensures.answer.1 c.in_ok-push-in-Ok.ensures.items;
      sound = sound_so_far step_fault items place item here c.loop-item.invariant.sound (sym judged ∙ none);
    })

pub returns : goal.returns
returns c =
    let items = c.args.items.items in
    let place = length c.loop-item.yielded in
    let before = c.loop-item.invariant in
    let ended = YieldsList-end (YieldsList-from_vec {s = c.into_iter-item-iterator.result} items c.into_iter-item-iterator.ensures.into_iter_gives.0 (c.into_iter-item-iterator.ensures.into_iter_gives.1 ∙ c.args.items.ok.0)) c.loop-item.yielded c.loop-item.item-iterator c.loop-item.yielded_by c.next.result c.next.new.self c.in-None.is c.next.ensures.steps in
    let past : length items ≤ place = omega (arith, ended.1) in
    record {
      sound = λ earlier item below there. before.sound earlier item (omega (arith, ended.1)) there;
      steps = ap (map part_of_step) c.from_vec.ensures ∙ (before.steps ∙ ap (map part_of_item) (take_all place items past));
    }
