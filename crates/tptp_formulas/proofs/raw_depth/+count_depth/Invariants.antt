use Rattle.std.proofs.Common.{◌≡◌, ◌≤◌, drop, map}
use Rattle.dk_syntax.specs.Depth.{capped}
use Rattle.tptp_formulas.specs.RawDepth.{chain_depth, raw_depth}
use Rattle.tptp_formulas.proofs.raw_depth.+count_depth.Given as goal

abbrev pub invariant-count_chain-loop-other : goal.invariant-count_chain-loop-other
invariant-count_chain-loop-other l =
    (l.depth ≤ 18446744073709551615)
    × (capped (chain_depth l.depth (map raw_depth (drop l.other-index l.others))) ≡ capped (chain_depth l.fn.first (map raw_depth l.others)))
