use Rattle.std.proofs.Common.{◌≡◌, drop, map}
use Rattle.tptp_formulas.specs.Meaning.{chained, formula_of}
use Rattle.tptp_formulas.specs.Scopes.{each}
use Rattle.tptp_formulas.proofs.meaning.+build_formula.Given as goal

abbrev pub invariant-chain-loop-other : goal.invariant-chain-loop-other
invariant-chain-loop-other l = record {
  built :
      chained l.by l.whole (each l.initial.bound (map formula_of (drop l.other-index l.others)))
      ≡ chained l.by l.fn.first (each l.initial.bound (map formula_of l.others));
  bound : l.bound ≡ l.initial.bound;
}
