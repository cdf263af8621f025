use Rattle.std.proofs.Common.{◌≡◌, ◌++◌, drop, map}
use Rattle.step_skolem.specs.Chaining.{raised}
use Rattle.step_skolem.proofs.chaining.put_rest.Given as goal

-- with what is left the entries are those of the whole
abbrev pub invariant-loop-one : goal.invariant-loop-one
invariant-loop-one l = l.entries ++ map (raised l.replaced) (drop l.one-index l.one-items) ≡ l.initial.entries ++ map (raised l.replaced) l.one-items
