-- What the contracts of walks are rewritten with.
use Rattle.std.proofs.Common.{add-one}
use Rattle.std.proofs.lemmas.Grind.{common_steps}
use Rattle.normal_form.proofs.FormLaws.{form-All, form-And, form-Ex, form-False, form-Lit, form-Or, form-True}

pub ruleset walk_steps = (common_steps, add-one, form-All, form-And, form-Ex, form-False, form-Lit, form-Or, form-True)
