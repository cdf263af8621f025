use Rattle.std.proofs.Common.{◌<◌, None, ap, arith, get_or, length, sym, ◌∙◌}
use Rattle.unifier.proofs.ClosingLaws.{entry_below}
use Rattle.unifier.proofs.SettlingLaws.{bound_within}
use Rattle.unifier.specs.Closing.{closed_entry}
use Rattle.unifier.proofs.application.close_with_any.Goals as goal

pub returns-clause-below : goal.returns-clause-below
returns-clause-below c = λ apart k t e.
    let size = ap length c.as_slice-entries.ensures in
    let l = bound_within c.loop-k.terms k t e in
    let inside : k < c.loop-k.k = omega arith in
    let same = ap (λ s. closed_entry c.args.frozen s k (get_or s k None)) c.as_slice-entries.ensures in
    entry_below c.args.frozen c.args.s.now.terms k t apart (sym same ∙ sym (c.loop-k.invariant.1 k inside) ∙ e)
