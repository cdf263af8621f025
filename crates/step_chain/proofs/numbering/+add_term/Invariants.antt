use Rattle.std.proofs.Common.{◌≡◌, drop, map}
use Rattle.dk_syntax.specs.Symbols.{joined}
use Rattle.normal_form.specs.ClauseLists.{variables_of, with_numbers}
use Rattle.step_chain.proofs.numbering.+add_term.Given as goal

-- with the variables of what is left the list is the one that the loop makes
abbrev pub invariant-add_terms-loop-term : goal.invariant-add_terms-loop-term
invariant-add_terms-loop-term l =
    with_numbers l.seen (joined (map variables_of (drop l.term-index l.terms))) ≡ with_numbers l.initial.seen (joined (map variables_of l.terms))
