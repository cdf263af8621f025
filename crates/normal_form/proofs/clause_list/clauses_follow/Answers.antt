use Rattle.normal_form.proofs.SoundLists.{list_follows}
use Rattle.normal_form.proofs.clause_list.clauses_follow.Goals as goal

pub returns : goal.returns
returns g c = list_follows c.args.nf.now c.args.list.now.rows c.requires
