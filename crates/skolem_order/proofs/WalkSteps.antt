-- What the contracts of the walks are rewritten with.
use Rattle.std.proofs.Common.{add-one, append_assoc}
use Rattle.std.proofs.lemmas.Grind.{common_steps}
use Rattle.std.proofs.lemmas.List.{map-append, reverse-append}
use Rattle.dk_syntax.specs.declared.Formula.{the_lemmas as of_formulas}
use Rattle.dk_syntax.specs.declared.Term.{the_lemmas as of_terms}
use Rattle.skolem_order.proofs.SignedLaws.{form-All, form-And, form-Atom, form-Ex, form-False, form-Iff, form-Imp, form-Not, form-Or, form-True}
use Rattle.skolem_order.proofs.SymbolTests.{same_is}

pub ruleset occurrence_steps = (common_steps, of_terms, of_formulas)

pub ruleset walk_steps = (common_steps, add-one, append_assoc, reverse-append, of_formulas, form-All, form-And, form-Atom, form-Ex, form-False, form-Iff, form-Imp, form-Not, form-Or, form-True)

pub ruleset putting_steps = (common_steps, add-one, of_terms, of_formulas)

pub ruleset place_steps = (common_steps, of_terms, same_is)

pub ruleset value_steps = (common_steps, append_assoc, reverse-append, map-append)

pub ruleset formula_steps = (common_steps, of_terms)

pub ruleset site_steps = (common_steps, add-one, append_assoc, reverse-append)

pub ruleset table_steps = (common_steps, of_terms)

pub ruleset rank_steps = (common_steps, of_terms)
