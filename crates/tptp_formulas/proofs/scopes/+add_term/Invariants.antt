use Rattle.std.proofs.Common.{◌≡◌, drop, map}
use Rattle.dk_syntax.specs.Symbols.{joined}
use Rattle.tptp_formulas.specs.FewNames.{few_names}
use Rattle.tptp_formulas.specs.Scopes.{term_variables, unbound}
use Rattle.tptp_formulas.proofs.scopes.+add_term.Given as goal

abbrev pub invariant-add_terms-loop-term : goal.invariant-add_terms-loop-term
invariant-add_terms-loop-term l =
    few_names l.seen (unbound l.bound (joined (map term_variables (drop l.term-index l.terms))))
    ≡ few_names l.initial.seen (unbound l.bound (joined (map term_variables l.terms)))
