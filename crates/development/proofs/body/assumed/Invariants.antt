use Rattle.std.proofs.Common.{◌≡◌, ◌≤◌, length, take}
use Rattle.assemble.specs.Problem.{theory_formulas}
use Rattle.development.specs.Nest.{assumed as all_assumed}
use Rattle.lp_term.specs.View.{term_of}
use Rattle.development.proofs.body.assumed.Given as goal

abbrev pub invariant-loop-left : goal.invariant-loop-left
invariant-loop-left l =
    (l.left ≤ length l.hyps)
    × (all_assumed (theory_formulas (take l.left l.hyps)) (term_of l.all) ≡ all_assumed (theory_formulas l.hyps) (term_of l.fn.u))

abbrev pub decreases-loop-left : goal.decreases-loop-left
decreases-loop-left l = l.left
