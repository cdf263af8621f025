use Rattle.std.proofs.Common.{◌≡◌, ◌+◌, ◌≤◌, drop}
use Rattle.dk_syntax.specs.Depth.{capped}
use Rattle.tptp_formulas.specs.RawDepth.{prefix_depth}
use Rattle.tptp_formulas.proofs.raw_depth.count_prefixes.Given as goal

abbrev pub invariant-loop-prefix : goal.invariant-loop-prefix
invariant-loop-prefix l = (l.count ≤ 18446744073709551615) × (capped (l.count + prefix_depth (drop l.prefix-index l.prefixes)) ≡ capped (prefix_depth l.prefixes))
