use Rattle.normal_form.proofs.SufficientLists.{list_suffices}
use Rattle.normal_form.proofs.clause_list.clauses_suffice.Goals as goal

pub returns : goal.returns
returns g c = list_suffices c.args.nf.now c.args.list.now.rows c.requires
