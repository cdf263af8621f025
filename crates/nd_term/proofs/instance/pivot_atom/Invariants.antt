use Rattle.std.proofs.Common.{◌≡◌, drop}
use Rattle.nd_term.specs.Justified.{pivot_atom}
use Rattle.nd_term.proofs.instance.pivot_atom.Given as goal

abbrev pub invariant-loop-number : goal.invariant-loop-number
invariant-loop-number l =
    pivot_atom l.place.symbols.now l.place.order.now l.count (drop l.number l.parent) (drop l.number l.picks)
    ≡ pivot_atom l.place.symbols.now l.place.order.now l.count l.parent l.picks
