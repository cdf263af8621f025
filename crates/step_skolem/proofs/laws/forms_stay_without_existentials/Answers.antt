use Rattle.step_skolem.proofs.Unchanged.{unchanged_without_existentials}
use Rattle.step_skolem.proofs.laws.forms_stay_without_existentials.Goals as goal

pub returns : goal.returns
returns c = unchanged_without_existentials
