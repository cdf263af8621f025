-- The rules by which the walks over sources are proved.
use Rattle.std.proofs.Common.{append_assoc}
use Rattle.std.proofs.lemmas.Grind.{common_steps}
use Rattle.tptp_text.specs.declared.Source.{the_lemmas as of_sources}

pub ruleset source_steps = (common_steps, append_assoc, of_sources)
