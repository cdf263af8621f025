use Rattle.std.proofs.Common.{sym, ◌∙◌}
use Rattle.step_check.specs.Verdicts as is
use Rattle.step_check.proofs.leaves.leaf_verdict.Goals as goal

pub returns-then-not-alpha_eq : goal.returns-then-not-alpha_eq
returns-then-not-alpha_eq c =
    is.altered c.in-Some.item.now c.in-Some.ensures (λ same. (let a = c.alpha_eq.ensures.1 same in let b = c.if-not-alpha_eq.true in cc))

pub returns-in-None : goal.returns-in-None
returns-in-None c = is.unknown c.in-None.ensures

pub returns-then-names_conjecture : goal.returns-then-names_conjecture
returns-then-names_conjecture c =
    is.conjecture c.in-Some.item.now c.in-Some.ensures (c.alpha_eq.ensures.0 c.if-not-alpha_eq.false) (sym c.names_conjecture.ensures ∙ c.if-names_conjecture.true)

pub returns-else-names_conjecture : goal.returns-else-names_conjecture
returns-else-names_conjecture c =
    is.leaf c.in-Some.item.now c.in-Some.ensures (c.alpha_eq.ensures.0 c.if-not-alpha_eq.false) (sym c.names_conjecture.ensures ∙ c.if-names_conjecture.false)
