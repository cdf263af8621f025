use Rattle.std.proofs.Common.{◌≡◌, drop, map, max}
use Rattle.dk_syntax.specs.Depth.{capped, greatest, term_depth_of}
use Rattle.dk_syntax.proofs.depths.+term_depth.Given as goal

-- the deepest yet and the deepest to come are the deepest of all
abbrev pub invariant-terms_depth-loop-term : goal.invariant-terms_depth-loop-term
invariant-terms_depth-loop-term l =
    max l.deepest (capped (greatest (map term_depth_of (drop l.term-index l.terms)))) ≡ capped (greatest (map term_depth_of l.terms))
