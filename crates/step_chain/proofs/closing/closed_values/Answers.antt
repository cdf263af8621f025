use Rattle.std.proofs.Common.{◌≡◌, ◌+◌, ◌++◌, ◌∷◌, [], ℕ, map, ap, sym, ◌∙◌, arith}
use Rattle.std.proofs.lemmas.Grind.{common_steps}
use Rattle.std.proofs.lemmas.List.FromFn.{map-range_with_len_more}
use Rattle.std.specs.List.{range_with_len}
use Rattle.dk_syntax.specs.declared.Term.{Term}
use Rattle.dk_syntax.specs.Terms.{substituted}
use Rattle.unifier.specs.Substitution.{value}
use Rattle.step_chain.specs.Resolvents.{closed_over}
use Rattle.step_chain.proofs.closing.closed_values.Goals as goal

pub loop-j-preserved : goal.loop-j-preserved
loop-j-preserved c =
    let k : c.in_ok-k.k ≡ c.args.from + c.loop-j.j = grind (arith, common_steps) in
    let f : ℕ → Term = λ j. substituted (closed_over c.args.variables.now) (value c.args.solution.now.terms (c.args.from + j)) in
    let m = map-range_with_len_more f 0 c.loop-j.j c.loop-j.j (omega arith) in
    c.in_ok-push.ensures.ok
    ∙ ap (λ z. z ++ c.in_ok-term.term ∷ []) c.loop-j.invariant
    ∙ ap (λ z. map f (range_with_len 0 c.loop-j.j) ++ z ∷ []) (c.in_ok-term.ensures ∙ ap (λ z. substituted (closed_over c.args.variables.now) (value c.args.solution.now.terms z)) k)
    ∙ sym m
