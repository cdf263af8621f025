-- The names and the steps so far, of items without a fault.
use Rattle.std.proofs.Common.{◌≡◌, length, map, take}
use Rattle.tptp_text.specs.declared.Item.{Item}
use Rattle.tstp_trace.specs.Faults.{AreSoundBefore}
use Rattle.tstp_trace.specs.Names.{bytes_of}
use Rattle.tstp_trace.specs.Traces.{part_of_item, part_of_step, step_fault}
use Rattle.tstp_trace.proofs.traces.all_steps.Given as goal

abbrev pub invariant-loop-item : goal.invariant-loop-item
invariant-loop-item l = record {
  last : l.last ≡ length l.yielded;
  names : bytes_of l.names.keys ≡ map (λ (one : Item). one.name) (take (length l.yielded) l.fn.items.items);
  steps : map part_of_step l.steps.items ≡ map part_of_item (take (length l.yielded) l.fn.items.items);
  sound : AreSoundBefore step_fault l.fn.items.items (length l.yielded);
}
