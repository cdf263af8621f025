use Rattle.std.proofs.Common.{subst, sym, take, [], ◌∷◌}
use Rattle.ground_instances.specs.Marks.{Marks}
use Rattle.ground_instances.proofs.Growth.{take_one_more}
use Rattle.ground_instances.proofs.MarkLaws.{marks_then}
use Rattle.ground_instances.proofs.variables.+mark_term.Goals as goal

pub mark_terms-loop-term-preserved : goal.mark_terms-loop-term-preserved
mark_terms-loop-term-preserved t c =
    let i = c.loop-term.term-index in let terms = c.args.terms.now in
    subst (λ ts. Marks c.args.marks.now ts c.mark_term.new.marks) (sym (take_one_more terms i c.term-item.result c.loop-term-test.true c.term-item.is))
    (marks_then c.args.marks.now c.loop-term.marks c.mark_term.new.marks (take i terms) (c.term-item.result ∷ []) c.loop-term.invariant c.mark_term.ensures)
