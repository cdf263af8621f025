use Rattle.std.proofs.Common.{◌≡◌, ◌++◌, drop, map}
use Rattle.tptp_formulas.specs.Meaning.{term_of}
use Rattle.tptp_formulas.specs.Scopes.{each}
use Rattle.tptp_formulas.proofs.meaning.+build_term.Given as goal

abbrev pub invariant-build_terms-loop-raw : goal.invariant-build_terms-loop-raw
invariant-build_terms-loop-raw l = l.all ++ each l.bound (map term_of (drop l.raw-index l.raws)) ≡ each l.bound (map term_of l.raws)
