use Rattle.normal_form.proofs.Regroups.{sorting_is_done, sorting_is_exact}
use Rattle.normal_form.proofs.laws.sorting_is_exact.Goals as goal

pub returns : goal.returns
returns c = record { exact = λ n r. sorting_is_exact n r; done = sorting_is_done }
