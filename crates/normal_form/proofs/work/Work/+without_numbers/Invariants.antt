use Rattle.std.proofs.Common.{◌≡◌, ◌≤◌, ◌++◌, reverse}
use Rattle.normal_form.specs.Forms.{nf_of}
use Rattle.normal_form.specs.Layers.{within_all}
use Rattle.normal_form.specs.Sorting.{bare, existentials, universals}
use Rattle.normal_form.specs.Works.{numbered_of}
use Rattle.normal_form.specs.declared.work.Work.{size-Work}
use Rattle.normal_form.proofs.work.Work.+without_numbers.Given as goal

-- what is left, and its numbers, with those that came already
abbrev pub invariant-loop-self : goal.invariant-loop-self
invariant-loop-self l =
    (within_all (nf_of (bare (numbered_of l.self))) l.layers.items ≡ nf_of (bare (numbered_of l.initial.self)))
    × (l.numbers.alls ++ reverse (universals (numbered_of l.self)) ≡ l.initial.numbers.alls ++ reverse (universals (numbered_of l.initial.self)))
    × (l.numbers.exs ++ reverse (existentials (numbered_of l.self)) ≡ l.initial.numbers.exs ++ reverse (existentials (numbered_of l.initial.self)))
    × (size-Work l.self ≤ size-Work l.initial.self)

abbrev pub decreases-loop-self : goal.decreases-loop-self
decreases-loop-self l = size-Work l.self
