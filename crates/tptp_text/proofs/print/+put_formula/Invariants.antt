use Rattle.std.proofs.Common.{◌+◌, ◌*◌, max}
use Rattle.dk_syntax.specs.Depth.{formula_depth}
use Rattle.tptp_text.proofs.print.+put_formula.Given as goal

abbrev pub decreases-put_formula : goal.decreases-put_formula
decreases-put_formula l = 2 * formula_depth l.f.now

abbrev pub decreases-put_binary : goal.decreases-put_binary
decreases-put_binary l = 2 * max (formula_depth l.a.now) (formula_depth l.b.now) + 1

abbrev pub decreases-put_quantified : goal.decreases-put_quantified
decreases-put_quantified l = 2 * formula_depth l.a.now + 1
