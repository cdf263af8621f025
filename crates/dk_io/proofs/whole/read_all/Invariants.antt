use Rattle.std.proofs.Common.{◌≡◌, ◌-◌, ◌≤◌, vec_len}
use Rattle.dk_io.proofs.Pieces.{IsLeftOf}
use Rattle.dk_io.proofs.whole.read_all.Given as goal

abbrev pub invariant-loop-buf : goal.invariant-loop-buf
invariant-loop-buf g l = record {
  same : g.I.Inputs.told l.inputs ≡ g.I.Inputs.told l.fn.inputs;
  still : g.I.Inputs.faults l.inputs ≡ g.I.Inputs.faults l.fn.inputs;
  read : IsLeftOf (g.I.Inputs.told l.fn.inputs) l.name l.all.items (g.I.Inputs.left l.inputs);
  small : vec_len l.all ≤ 16777217;
}

abbrev pub decreases-loop-buf : goal.decreases-loop-buf
decreases-loop-buf g l = 16777217 - vec_len l.all
