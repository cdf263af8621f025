use Rattle.lp_exact.proofs.SubjectLaws.{reduct_typed, type_has_sort}
use Rattle.lp_exact.proofs.laws.reduction_keeps_types.Goals as goal

pub returns-clause-sorts : goal.returns-clause-sorts
returns-clause-sorts c = λ sig g t a w f h. type_has_sort w f h

pub returns-clause-kept : goal.returns-clause-kept
returns-clause-kept c = λ sig g t u a w f h l. reduct_typed w f h l
