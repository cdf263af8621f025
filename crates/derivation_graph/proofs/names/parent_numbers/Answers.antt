use Rattle.std.proofs.Common.{◌≡◌, true, false, Some, refl, ap, ◌∙◌, sym}
use Rattle.std.proofs.lemmas.Bool.{eq-eqb, ne_eqb}
use Rattle.std.specs.Prelude.{find}
use Rattle.derivation_graph.specs.Graphs.{is_missing, number_of}
use Rattle.derivation_graph.specs.Names.{bytes_of}
use Rattle.derivation_graph.proofs.NameLaws.{first_now, none_so_far, numbers_grow}
use Rattle.derivation_graph.proofs.names.parent_numbers.Goals as goal

pub returns-then-number-eq0 : goal.returns-then-number-eq0
returns-then-number-eq0 c =
    let names = bytes_of c.args.set.now.keys in
    let passes : is_missing names c.parent-item.result ≡ true = eq-eqb (number_of names c.parent-item.result) 0 (sym c.in_ok-number.ensures ∙ c.if-number-eq0.true) in
    (refl, ap (find (is_missing names)) (sym c.as_slice-parent-items.ensures) ∙ (first_now (is_missing names) c.as_slice-parent-items.result.now c.loop-parent.parent-index c.parent-item.result c.loop-parent-test.true c.parent-item.is c.loop-parent.invariant.found passes ∙ ap Some (sym c.in_ok-name.ensures)))

pub loop-parent-preserved : goal.loop-parent-preserved
loop-parent-preserved c =
    let names = bytes_of c.args.set.now.keys in
    let items = c.as_slice-parent-items.result.now in
    let i = c.loop-parent.parent-index in
    let fails : is_missing names c.parent-item.result ≡ false = ne_eqb (number_of names c.parent-item.result) 0 (λ e. c.if-number-eq0.false (c.in_ok-number.ensures ∙ e)) in
    record {
      numbers = numbers_grow (number_of names) items i c.parent-item.result c.loop-parent.row.items c.push.new.self.items c.in_ok-number.number c.loop-parent-test.true c.parent-item.is c.loop-parent.invariant.numbers c.in_ok-number.ensures c.in_ok-push.ensures.items;
      found = none_so_far (is_missing names) items i c.parent-item.result c.loop-parent-test.true c.parent-item.is c.loop-parent.invariant.found fails;
    }
