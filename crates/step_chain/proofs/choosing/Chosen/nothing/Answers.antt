use Rattle.std.proofs.Common.{refl, ◌∙◌}
use Rattle.step_chain.proofs.ChosenLaws.{nothing_chosen}
use Rattle.step_chain.proofs.choosing.Chosen.nothing.Goals as goal

pub returns-clause-chosen : goal.returns-clause-chosen
returns-clause-chosen c = λ slots below.
    nothing_chosen slots _ c.args.vars (c.from_vec.ensures ∙ c.new.ensures.items) refl c.in_ok-bindings.ensures.terms c.in_ok-bindings.ensures.length (c.in_ok-bindings.ensures.sound 0) below
