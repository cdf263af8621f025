use Rattle.std.proofs.Common.{length}
use Rattle.tptp_formulas.proofs.meaning.+wrap.Given as goal

abbrev pub decreases-wrap : goal.decreases-wrap
decreases-wrap l = length l.prefixes.now
