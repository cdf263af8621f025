use Rattle.std.proofs.Common.{◌≡◌, drop}
use Rattle.tptp_formulas.specs.Meaning.{for_all}
use Rattle.tptp_formulas.proofs.meaning.close_over.Given as goal

abbrev pub invariant-loop-name : goal.invariant-loop-name
invariant-loop-name l = for_all (drop l._name-index l.names) l.whole ≡ for_all l.names l.fn.f
