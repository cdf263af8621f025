use Rattle.std.proofs.Common.{◌≡◌, ◌++◌, List, drop}
use Rattle.step_skolem.specs.Chaining.{joined_at}
use Rattle.step_skolem.specs.declared.map.SkEntry.{SkEntry}
use Rattle.step_skolem.proofs.chaining.put_before.Given as goal

-- with what is left the entries are those of the whole, whatever joins the rest
abbrev pub invariant-loop-at : goal.invariant-loop-at
invariant-loop-at l =
    (join : List SkEntry → List SkEntry) → l.entries ++ joined_at l.replaced l.one join (drop l.at l.next) ≡ l.initial.entries ++ joined_at l.replaced l.one join (drop l.taken l.next)
