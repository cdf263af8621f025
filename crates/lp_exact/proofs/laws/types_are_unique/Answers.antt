use Rattle.lp_exact.proofs.DegreeLaws.{one_sort}
use Rattle.lp_exact.proofs.UniquenessLaws.{types_convert}
use Rattle.lp_exact.proofs.laws.types_are_unique.Goals as goal

pub returns-clause-types : goal.returns-clause-types
returns-clause-types c = λ sig g t a b o h k. types_convert o h k

pub returns-clause-sorts : goal.returns-clause-sorts
returns-clause-sorts c = λ sig g a b s t r x i j e h k. one_sort r x i j e h k
