use Rattle.std.proofs.Common.{◌≡◌, ◌≤◌, ◌++◌, drop, length}
use Rattle.step_skolem.specs.Chaining.{chained, joined_from}
use Rattle.step_skolem.proofs.chaining.joined.Given as goal

-- with what is left of both maps the entries are those of the whole; as many are replaced as were met
abbrev pub invariant-loop-one : goal.invariant-loop-one
invariant-loop-one l = record {
  put : l.entries ++ joined_from l.replaced (drop l.one-index l.first) (drop l.taken l.next) ≡ chained l.first l.next;
  count : l.replaced ≡ l.one-index;
  within : l.taken ≤ length l.next;
}
