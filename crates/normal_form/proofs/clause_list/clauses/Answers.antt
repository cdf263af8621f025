use Rattle.normal_form.proofs.SoundLists.{list_follows}
use Rattle.normal_form.proofs.SufficientLists.{list_suffices}
use Rattle.normal_form.proofs.clause_list.clauses.Goals as goal

pub returns-in-Ok-clause-truth : goal.returns-in-Ok-clause-truth
returns-in-Ok-clause-truth c = list_follows c.args.nf.now c.in-Ok.rows c.in-Ok.ensures

pub returns-in-Ok-clause-suffices : goal.returns-in-Ok-clause-suffices
returns-in-Ok-clause-suffices c = list_suffices c.args.nf.now c.in-Ok.rows c.in-Ok.ensures
