use Rattle.std.proofs.Common.{map, arith, ◌∙◌}
use Rattle.std.proofs.lemmas.List.{drop_all}
use Rattle.dk_syntax.specs.Problems.{formula_of}
use Rattle.dk_syntax.specs.declared.Named.{Named}
use Rattle.tstp_trace.proofs.ProblemLaws.{symbols_of_both}
use Rattle.tstp_trace.proofs.problems.symbols_of_all.Goals as goal

pub returns : goal.returns
returns c =
    let done = drop_all c.loop-named.named-index c.args.hyps.now (omega (arith, c.loop-named-test.false)) in
    c.in_ok-symbols.ensures ∙ (c.as_slice.ensures.keys ∙ symbols_of_both (map (λ (one : Named). one.formula) c.args.hyps.now) (formula_of c.args.conjecture.now) c.loop-named.seen.keys c.add_symbols.new.seen.keys (rw done at c.loop-named.invariant) c.in_ok-add_symbols.ensures)
