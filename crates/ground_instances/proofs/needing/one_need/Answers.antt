use Rattle.std.proofs.Common.{[], ◌∷◌, ◌++◌, refl, sym, ap, ◌∙◌, subst}
use Rattle.ground_instances.specs.Growing.{grounds}
use Rattle.ground_instances.specs.Naming.{AreNamed, key_at}
use Rattle.ground_instances.proofs.Growth.{one_named}
use Rattle.ground_instances.proofs.needing.one_need.Goals as goal

pub returns : goal.returns
returns c =
    let old = c.args.table.now in let new = c.enter_terms.new.table in
    let ts = grounds old c.args.values.now c.args.terms.now in let one = key_at c.args.place ts in
    subst (AreNamed old (one ∷ []) new) (sym (c.in_ok-push.ensures.ok ∙ ap (λ x. x ++ (record { place = c.args.place; terms = c.in_ok-terms.terms }) ∷ []) c.new-names.ensures))
    (one_named old new one c.args.place ts c.in_ok-terms.terms refl c.in_ok-terms.ensures)
