-- What the proofs on shapes share.
use Rattle.std.proofs.lemmas.Grind.{common_steps}
use Rattle.tptp_formulas.specs.declared.raw.Raw.{the_lemmas as of_raw}

pub ruleset shape_steps = (common_steps, of_raw)
