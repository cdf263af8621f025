use Rattle.std.proofs.Common.{◌≡◌, take}
use Rattle.dedukti_text.specs.Walks.{names_of}
use Rattle.dedukti_text.proofs.patterns.copied.Given as goal

abbrev pub invariant-loop-name : goal.invariant-loop-name
invariant-loop-name l = l.all ≡ names_of (take l.name-index l.names)
