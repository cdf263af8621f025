use Rattle.std.proofs.Common.{◌++◌, ◌∷◌, [], false, ap, ◌∙◌}
use Rattle.step_chain.proofs.ChosenLaws.{left_chosen}
use Rattle.step_chain.proofs.choosing.Chosen.leave.Goals as goal

pub returns-clause-chosen : goal.returns-clause-chosen
returns-clause-chosen c =
    left_chosen c.args.slots.now c.args.self.now _ c.requires (c.in_ok-taken.ensures ∙ ap (λ z. z ++ false ∷ []) c.as_slice.ensures) c.in_ok-first.ensures c.in_ok-bindings.ensures
