-- What the proofs on formulas as they are written share.
use Rattle.std.proofs.lemmas.Grind.{common_steps}
use Rattle.tptp_formulas.specs.declared.raw.Raw.{the_lemmas as of_raw}
use Rattle.tptp_formulas.specs.declared.raw.RawTerm.{the_lemmas as of_raw_terms}

pub ruleset raw_steps = (common_steps, of_raw, of_raw_terms)
