use Rattle.step_check.proofs.OneRepresentative.{one_representative}
use Rattle.step_check.proofs.SortedLaws.{representative_is_sorted}
use Rattle.step_check.proofs.laws.representatives_are_one.Goals as goal

pub returns : goal.returns
returns c = record { one = λ case i one other h k. one_representative case h other k; sorted = representative_is_sorted }
