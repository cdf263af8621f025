use Rattle.std.proofs.Common.{◌∙◌, ◌+◌, ◌≤◌, ◌++◌, List, length, map, filter, sym, ap, take, arith, refl}
use Rattle.std.proofs.lemmas.Iterator.Adapters.{YieldsList-from_vec}
use Rattle.std.proofs.lemmas.Iterator.Consumers.{YieldsList-end, YieldsList-turn}
use Rattle.std.proofs.lemmas.List.{length_push, take_all}
use Rattle.std.proofs.lemmas.Option.{slice_get_read}
use Rattle.dk_syntax.specs.Problems.{formula_of, symbols_of_formulas}
use Rattle.dk_syntax.specs.declared.Named.{Named}
use Rattle.tstp_trace.specs.Names.{bytes_of}
use Rattle.tstp_trace.specs.Problems.{is_conjecture, is_hypothesis, item_fault, part_of_item, part_of_named}
use Rattle.tstp_trace.proofs.ProblemLaws.{conjectured_so_far, conjectures_now, first_item_fault, hypotheses_now, item_judged, sound_item}
use Rattle.tstp_trace.proofs.TraceLaws.{names_so_far, sound_so_far}
use Rattle.tstp_trace.proofs.problems.all_named.Goals as goal

pub returns-in-Err : goal.returns-in-Err
returns-in-Err c =
    let items = c.args.items.items in
    let place = length c.loop-item.yielded in
    let item = c.in-Some.item in
    let names = bytes_of c.loop-item.names.keys in
    let turn = YieldsList-turn (YieldsList-from_vec {s = c.into_iter-item-iterator.result} items c.into_iter-item-iterator.ensures.into_iter_gives.0 (c.into_iter-item-iterator.ensures.into_iter_gives.1 ∙ c.args.items.ok.0)) c.loop-item.yielded c.loop-item.item-iterator c.loop-item.yielded_by c.next.result c.next.new.self item c.in-Some.is c.next.ensures.steps in
    let here = slice_get_read items (length items) place item refl turn.0 turn.1 in
    let counted = c.in_ok-number.ensures ∙ ap (λ n. n + 1) c.loop-item.invariant.last in
    let told = c.is_some-conjectured.ensures ∙ conjectured_so_far c.loop-item.conjecture (take place items) c.loop-item.invariant.conjectures in
    let judged = item_judged items place c.in_ok-number.number names c.is_some-conjectured.result item c.loop-item.invariant.names told counted turn.0 in
    first_item_fault items place c.in_ok-number.number names c.is_some-conjectured.result item c.in-Err.fault judged here c.loop-item.invariant.sound c.in-Err.ensures.answer

pub loop-item-preserved : goal.loop-item-preserved
loop-item-preserved c =
    let items = c.args.items.items in
    let place = length c.loop-item.yielded in
    let item = c.in-Some.item in
    let names = bytes_of c.loop-item.names.keys in
    let turn = YieldsList-turn (YieldsList-from_vec {s = c.into_iter-item-iterator.result} items c.into_iter-item-iterator.ensures.into_iter_gives.0 (c.into_iter-item-iterator.ensures.into_iter_gives.1 ∙ c.args.items.ok.0)) c.loop-item.yielded c.loop-item.item-iterator c.loop-item.yielded_by c.next.result c.next.new.self item c.in-Some.is c.next.ensures.steps in
    let here = slice_get_read items (length items) place item refl turn.0 turn.1 in
    let counted = c.in_ok-number.ensures ∙ ap (λ n. n + 1) c.loop-item.invariant.last in
    let told = c.is_some-conjectured.ensures ∙ conjectured_so_far c.loop-item.conjecture (take place items) c.loop-item.invariant.conjectures in
    let judged = item_judged items place c.in_ok-number.number names c.is_some-conjectured.result item c.loop-item.invariant.names told counted turn.0 in
    let none = c.in-Ok.ensures.answer.0 in
    let same = c.in-Ok.ensures.answer.1 in
    let sound = sound_item names c.is_some-conjectured.result c.in_ok-number.number item none in
    rw (length_push c.loop-item.yielded item) (record {
      last = counted;
      names = names_so_far items place item names (bytes_of c.named_of.new.names.keys) turn.0 turn.1 c.loop-item.invariant.names sound.fresh c.in-Ok.ensures.names;
      hypotheses = hypotheses_now items place item c.is_conjecture-goal.result c.loop-item.hyps.items c.keep.new.hyps.items c.in-Ok.named turn.0 turn.1 c.is_conjecture-goal.ensures sound.role c.loop-item.invariant.hypotheses same c.in_ok-keep-in-Ok.ensures.hyps;
      conjectures = conjectures_now items place item c.is_conjecture-goal.result c.is_some-conjectured.result c.loop-item.conjecture c.keep.new.conjecture c.in-Ok.named turn.0 turn.1 c.is_conjecture-goal.ensures sound.single c.is_some-conjectured.ensures c.loop-item.invariant.conjectures same c.in_ok-keep-in-Ok.ensures.conjecture;
      sound = sound_so_far item_fault items place item here c.loop-item.invariant.sound (sym judged ∙ none);
    })

pub returns : goal.returns
returns c =
    let items = c.args.items.items in
    let place = length c.loop-item.yielded in
    let before = c.loop-item.invariant in
    let ended = YieldsList-end (YieldsList-from_vec {s = c.into_iter-item-iterator.result} items c.into_iter-item-iterator.ensures.into_iter_gives.0 (c.into_iter-item-iterator.ensures.into_iter_gives.1 ∙ c.args.items.ok.0)) c.loop-item.yielded c.loop-item.item-iterator c.loop-item.yielded_by c.next.result c.next.new.self c.in-None.is c.next.ensures.steps in
    let past : length items ≤ place = omega (arith, ended.1) in
    let all = take_all place items past in
    record {
      sound = λ earlier item below there. before.sound earlier item (omega (arith, ended.1)) there;
      hypotheses = ap (map part_of_named) c.from_vec.ensures ∙ (before.hypotheses ∙ ap (λ l. map part_of_item (filter is_hypothesis l)) all);
      conjecture = before.conjectures ∙ ap (λ l. map part_of_item (filter is_conjecture l)) all;
      symbols = c.in_ok-symbols.ensures ∙ ap (λ (l : List Named). symbols_of_formulas (map (λ (one : Named). one.formula) l ++ formula_of c.loop-item.conjecture)) (c.as_slice.ensures.value ∙ sym c.from_vec.ensures);
    }
