use Rattle.std.proofs.Common.{◌≡◌, ◌++◌, ◌∷◌, [], Some, Contains, slice_get, ap, subst, sym, ◌∙◌}
use Rattle.step_chain.proofs.OnceLaws.{adds_other, adds_taken, adds_there, contains_at}
use Rattle.step_chain.specs.Resolvents.{kept}
use Rattle.step_chain.specs.Resolving.{AreAddedOnce}
use Rattle.step_chain.proofs.once.add_kept.Goals as goal

pub returns-then-taken : goal.returns-then-taken
returns-then-taken c = adds_taken c.args.once.now c.args.literal.now c.args.taken c.if-taken.true

pub returns-in-Some : goal.returns-in-Some
returns-in-Some c =
    adds_there c.args.once.now c.args.literal.now c.args.taken c.if-taken.false
    (contains_at c.args.once.now c.in-Some.field-0 c.args.literal.now (subst (λ z. slice_get z c.in-Some.field-0 ≡ Some c.args.literal.now) c.as_slice.ensures c.in-Some.ensures))

pub returns-in_ok-push-in-None : goal.returns-in_ok-push-in-None
returns-in_ok-push-in-None c =
    let absent : Contains c.args.once.now c.args.literal.now → ⊥ = subst (λ z. Contains z c.args.literal.now → ⊥) c.as_slice.ensures c.in-None.ensures in
    subst (AreAddedOnce c.args.once.now (kept (c.args.literal.now ∷ []) (c.args.taken ∷ [])))
    (sym (c.in_ok-push-in-None.ensures.ok ∙ ap (λ z. c.args.once.now ++ z ∷ []) c.in_ok-literal-in-None.ensures))
    (adds_other c.args.once.now c.args.literal.now c.args.taken c.if-taken.false absent)
