use Rattle.std.proofs.Common.{◌≡◌, drop}
use Rattle.tptp_formulas.specs.Meaning.{exists}
use Rattle.tptp_formulas.proofs.meaning.exist_over.Given as goal

abbrev pub invariant-loop-name : goal.invariant-loop-name
invariant-loop-name l = exists (drop l._name-index l.names) l.whole ≡ exists l.names l.fn.f
