-- The names, the hypotheses and the conjecture so far, of items without a fault.
use Rattle.std.proofs.Common.{◌≡◌, length, map, take, filter}
use Rattle.std.specs.Prelude.{option_to_list}
use Rattle.tptp_text.specs.declared.Item.{Item}
use Rattle.tstp_trace.specs.Faults.{AreSoundBefore}
use Rattle.tstp_trace.specs.Names.{bytes_of}
use Rattle.tstp_trace.specs.Problems.{is_conjecture, is_hypothesis, item_fault, part_of_item, part_of_named}
use Rattle.tstp_trace.proofs.problems.all_named.Given as goal

abbrev pub invariant-loop-item : goal.invariant-loop-item
invariant-loop-item l = record {
  last : l.last ≡ length l.yielded;
  names : bytes_of l.names.keys ≡ map (λ (one : Item). one.name) (take (length l.yielded) l.fn.items.items);
  hypotheses : map part_of_named l.hyps.items ≡ map part_of_item (filter is_hypothesis (take (length l.yielded) l.fn.items.items));
  conjectures : map part_of_named (option_to_list l.conjecture) ≡ map part_of_item (filter is_conjecture (take (length l.yielded) l.fn.items.items));
  sound : AreSoundBefore item_fault l.fn.items.items (length l.yielded);
}
