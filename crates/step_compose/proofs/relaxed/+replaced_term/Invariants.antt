use Rattle.std.proofs.Common.{◌≡◌, ◌++◌, drop, map, reverse}
use Rattle.dk_syntax.specs.Terms.{substituted}
use Rattle.step_compose.specs.Relaxing.{terms_in}
use Rattle.step_compose.proofs.relaxed.+replaced_term.Given as goal

-- the terms made, with those to come, are all
abbrev pub invariant-replaced_terms-loop-term : goal.invariant-replaced_terms-loop-term
invariant-replaced_terms-loop-term l =
    l.all ++ map (substituted (terms_in l.symbols (reverse l.around))) (drop l.term-index l.terms) ≡ map (substituted (terms_in l.symbols (reverse l.around))) l.terms
