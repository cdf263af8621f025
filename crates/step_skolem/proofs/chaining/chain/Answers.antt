use Rattle.std.proofs.Common.{ap₂, sym, subst, List, ◌∙◌}
use Rattle.step_skolem.proofs.Chains.{chain_is_image}
use Rattle.step_skolem.proofs.OneMap.{map_is_one}
use Rattle.step_skolem.specs.Chaining.{chained}
use Rattle.step_skolem.specs.Images.{IsImage}
use Rattle.step_skolem.specs.declared.map.SkEntry.{SkEntry}
use Rattle.step_skolem.proofs.chaining.chain.Goals as goal

pub returns-clause-image : goal.returns-clause-image
returns-clause-image c = λ middle last p q.
    subst (λ (l : List SkEntry). IsImage c.args.from.now l last) (sym (c.in_ok-entries.ensures ∙ ap₂ chained c.as_slice.ensures c.as_slice-2.ensures))
    (chain_is_image c.args.from.now middle last c.args.first.now.entries c.args.next.now.entries p q)

pub returns-clause-one : goal.returns-clause-one
returns-clause-one c = λ middle last p q w other h.
    map_is_one c.args.from.now last c.in_ok-entries.entries other w (returns-clause-image c middle last p q) h
