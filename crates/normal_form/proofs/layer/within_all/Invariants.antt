use Rattle.std.proofs.Common.{◌≡◌, length}
use Rattle.normal_form.specs.Layers.{within_all}
use Rattle.normal_form.proofs.layer.within_all.Given as goal

abbrev pub invariant-loop-layer : goal.invariant-loop-layer
invariant-loop-layer l = within_all l.whole l.layers.items ≡ within_all l.initial.whole l.initial.layers.items

abbrev pub decreases-loop-layer : goal.decreases-loop-layer
decreases-loop-layer l = length l.layers.items
