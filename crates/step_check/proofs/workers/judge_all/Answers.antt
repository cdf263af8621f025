use Rattle.step_check.proofs.workers.judge_all.Goals as goal

pub returns : goal.returns
returns g c = (c.in_ok-list.list, c.in_ok-list.ensures, c.fresh.ensures)
