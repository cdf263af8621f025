use Rattle.lp_exact.specs.Symbols.{HasSimpleType}
use Rattle.lp_exact.proofs.FullTypeLaws.{full_is_normal}
use Rattle.lp_exact.proofs.NormalTypeLaws.{convertible_same_normal, normal_type_converts, normal_type_is_normal, same_normal_converts}
use Rattle.lp_exact.proofs.SymbolLaws.{words_agree}
use Rattle.lp_exact.proofs.laws.normal_types_decide.Goals as goal

pub returns-clause-converts : goal.returns-clause-converts
returns-clause-converts c = λ t. normal_type_converts t

pub returns-clause-normal : goal.returns-clause-normal
returns-clause-normal c = λ sig g t w h. normal_type_is_normal (HasSimpleType sig) (words_agree w) h

pub returns-clause-full : goal.returns-clause-full
returns-clause-full c = λ sig g t w h. full_is_normal (HasSimpleType sig) (words_agree w) h

pub returns-clause-decides : goal.returns-clause-decides
returns-clause-decides c =
    λ sig g d a b w h k. (convertible_same_normal (HasSimpleType sig) (words_agree w) h k, same_normal_converts a b)
