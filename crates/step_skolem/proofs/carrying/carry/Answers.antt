use Rattle.std.proofs.Common.{ap, List, subst, sym, ◌∙◌}
use Rattle.step_skolem.proofs.ByNumber.{carried_by_lists}
use Rattle.step_skolem.proofs.Carried.{carried_is_image}
use Rattle.step_skolem.specs.Carrying.{carried_by}
use Rattle.step_skolem.specs.Laws.{LeadsAlike}
use Rattle.step_skolem.specs.declared.map.SkEntry.{SkEntry}
use Rattle.step_skolem.proofs.carrying.carry.Goals as goal

pub returns-clause-image : goal.returns-clause-image
returns-clause-image c = λ n r image f t same leads.
    subst (λ (l : List SkEntry). LeadsAlike r l image) (sym (c.in_ok-entries.ensures ∙ ap (carried_by c.args.from.now c.args.to.now) c.as_slice.ensures ∙ carried_by_lists n r c.args.from.now c.args.to.now c.args.map.now.entries f t))
    (carried_is_image n r image c.args.map.now.entries same leads)
