-- What the proofs on printed texts share.
use Rattle.std.proofs.Common.{append_assoc, append-nil}
use Rattle.std.proofs.lemmas.Grind.{common_steps}
use Rattle.dk_syntax.specs.declared.Formula.{the_lemmas as of_formulas}
use Rattle.dk_syntax.specs.declared.Term.{the_lemmas as of_terms}

pub ruleset text_steps = (common_steps, append_assoc, append-nil, of_terms, of_formulas)
