-- What the proofs on terms that were read share.
use Rattle.std.proofs.Common.{arith}
use Rattle.std.proofs.lemmas.Grind.{common_steps}
use Rattle.lp_term.specs.declared.Lp.{the_lemmas as of_terms}

pub ruleset read_steps = (common_steps, of_terms, arith)
