-- The lemmas that the proofs of the code share.
use Rattle.std.proofs.lemmas.Grind.{common_steps}
use Rattle.std.proofs.lemmas.List.{map-append}
use Rattle.dk_syntax.specs.declared.Term.{the_lemmas as of_terms}

pub ruleset term_steps = (common_steps, of_terms, map-append)
