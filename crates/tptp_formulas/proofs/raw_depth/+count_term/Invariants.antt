use Rattle.std.proofs.Common.{◌≡◌, drop, map, max}
use Rattle.dk_syntax.specs.Depth.{capped, greatest}
use Rattle.tptp_formulas.specs.RawDepth.{raw_term_depth}
use Rattle.tptp_formulas.proofs.raw_depth.+count_term.Given as goal

abbrev pub invariant-count_terms-loop-term : goal.invariant-count_terms-loop-term
invariant-count_terms-loop-term l =
    max l.deepest (capped (greatest (map raw_term_depth (drop l.term-index l.terms)))) ≡ capped (greatest (map raw_term_depth l.terms))
