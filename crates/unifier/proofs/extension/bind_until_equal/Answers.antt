use Rattle.std.proofs.Common.{◌≡◌, ap, length, subst, sym, ◌∙◌}
use Rattle.unifier.proofs.OutcomeLaws.{growing_bound, growing_equal, growing_refuted}
use Rattle.unifier.specs.Comparing.{NextStep}
use Rattle.dk_syntax.specs.Terms.{Below, substituted}
use Rattle.unifier.proofs.extension.bind_until_equal.Goals as goal

pub next_step-requires-clause-below_a : goal.next_step-requires-clause-below_a
next_step-requires-clause-below_a c =
    subst (λ n. Below n c.args.a.now) (sym (ap length c.as_slice.ensures ∙ c.loop-round.invariant.0)) c.requires.below_a

pub next_step-requires-clause-below_b : goal.next_step-requires-clause-below_b
next_step-requires-clause-below_b c =
    subst (λ n. Below n c.args.b.now) (sym (ap length c.as_slice.ensures ∙ c.loop-round.invariant.0)) c.requires.below_b

pub returns-in-Equal : goal.returns-in-Equal
returns-in-Equal c =
    let known = subst (λ terms. NextStep c.args.frozen (λ r. substituted r c.args.a.now ≡ substituted r c.args.b.now) terms c.in_ok-step.step) c.as_slice.ensures c.in_ok-step.ensures in
    let step = subst (NextStep c.args.frozen (λ r. substituted r c.args.a.now ≡ substituted r c.args.b.now) c.loop-round.bindings.terms) c.in-Equal.is known in
    growing_equal c.args.frozen (λ r. substituted r c.args.a.now ≡ substituted r c.args.b.now) c.args.bindings.now.terms c.loop-round.bindings.terms c.loop-round.invariant step

pub returns-in-Different : goal.returns-in-Different
returns-in-Different c =
    let known = subst (λ terms. NextStep c.args.frozen (λ r. substituted r c.args.a.now ≡ substituted r c.args.b.now) terms c.in_ok-step.step) c.as_slice.ensures c.in_ok-step.ensures in
    let step = subst (NextStep c.args.frozen (λ r. substituted r c.args.a.now ≡ substituted r c.args.b.now) c.loop-round.bindings.terms) c.in-Different.is known in
    growing_refuted c.args.frozen (λ r. substituted r c.args.a.now ≡ substituted r c.args.b.now) c.args.bindings.now.terms c.loop-round.bindings.terms c.loop-round.invariant step

pub loop-round-preserved : goal.loop-round-preserved
loop-round-preserved c =
    let known = subst (λ terms. NextStep c.args.frozen (λ r. substituted r c.args.a.now ≡ substituted r c.args.b.now) terms c.in_ok-step.step) c.as_slice.ensures c.in_ok-step.ensures in
    let step = subst (NextStep c.args.frozen (λ r. substituted r c.args.a.now ≡ substituted r c.args.b.now) c.loop-round.bindings.terms) c.in-Bind.is known in
    growing_bound c.args.frozen (λ r. substituted r c.args.a.now ≡ substituted r c.args.b.now) c.args.bindings.now.terms c.loop-round.bindings.terms c.replace-unbound.new.self
    c.in-Bind.k c.in-Bind.term c.replace-unbound.ensures.list step c.loop-round.invariant
