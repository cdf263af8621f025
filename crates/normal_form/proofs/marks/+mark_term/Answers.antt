use Rattle.normal_form.proofs.MarkLaws.{marked_all, marked_application, marked_more}
use Rattle.normal_form.proofs.marks.+mark_term.Goals as goal

pub mark_term-returns-in-App : goal.mark_term-returns-in-App
mark_term-returns-in-App t c =
    marked_application c.args.term.now c.in-App.field-0 c.in-App.args c.as_slice.result.now c.args.marks.now.items c.mark_terms.new.marks.items c.in-App.is c.as_slice.ensures c.mark_terms.ensures

pub mark_terms-loop-term-preserved : goal.mark_terms-loop-term-preserved
mark_terms-loop-term-preserved t c =
    marked_more c.args.terms.now c.loop-term.term-index c.term-item.result c.args.marks.now.items c.loop-term.marks.items c.mark_term.new.marks.items c.loop-term-test.true c.term-item.is
    c.loop-term.invariant c.mark_term.ensures

pub mark_terms-returns : goal.mark_terms-returns
mark_terms-returns t c = marked_all c.args.terms.now c.loop-term.term-index c.args.marks.now.items c.loop-term.marks.items c.loop-term-test.false c.loop-term.invariant
