-- The declarations of the prelude, one by one.
use Rattle.lp_term.specs.Connectives.{arrow, individuals, propositions}
use Rattle.lp_term.specs.LambdaPi.{type}
use Rattle.lp_term.specs.Names.{all_name, and_name, bot_name, ex_name, i_name, iff_name, imp_name, not_name, or_name, prf_name, prop_name, top_name}
use Rattle.lp_term.specs.Typing.{Declares, declared_here, declared_later}
use Rattle.lp_term.proofs.PreludeLaws.{spelled}

pub declares_i : Declares spelled i_name type
declares_i = declared_here _ _

pub declares_prop : Declares spelled prop_name type
declares_prop = declared_later _ (declared_here _ _)

pub declares_prf : Declares spelled prf_name (arrow propositions type)
declares_prf = declared_later _ (declared_later _ (declared_here _ _))

pub declares_imp : Declares spelled imp_name (arrow propositions (arrow propositions propositions))
declares_imp = declared_later _ (declared_later _ (declared_later _ (declared_here _ _)))

pub declares_and : Declares spelled and_name (arrow propositions (arrow propositions propositions))
declares_and = declared_later _ (declared_later _ (declared_later _ (declared_later _ (declared_here _ _))))

pub declares_or : Declares spelled or_name (arrow propositions (arrow propositions propositions))
declares_or = declared_later _ (declared_later _ (declared_later _ (declared_later _ (declared_later _ (declared_here _ _)))))

pub declares_iff : Declares spelled iff_name (arrow propositions (arrow propositions propositions))
declares_iff = declared_later _ (declared_later _ (declared_later _ (declared_later _ (declared_later _ (declared_later _ (declared_here _ _))))))

pub declares_not : Declares spelled not_name (arrow propositions propositions)
declares_not = declared_later _ (declared_later _ (declared_later _ (declared_later _ (declared_later _ (declared_later _ (declared_later _ (declared_here _ _)))))))

pub declares_top : Declares spelled top_name propositions
declares_top = declared_later _ (declared_later _ (declared_later _ (declared_later _ (declared_later _ (declared_later _ (declared_later _ (declared_later _ (declared_here _ _))))))))

pub declares_bot : Declares spelled bot_name propositions
declares_bot = declared_later _ (declared_later _ (declared_later _ (declared_later _ (declared_later _ (declared_later _ (declared_later _ (declared_later _ (declared_later _ (declared_here _ _)))))))))

pub declares_all : Declares spelled all_name (arrow (arrow individuals propositions) propositions)
declares_all = declared_later _ (declared_later _ (declared_later _ (declared_later _ (declared_later _ (declared_later _ (declared_later _ (declared_later _ (declared_later _ (declared_later _ (declared_here _ _))))))))))

pub declares_ex : Declares spelled ex_name (arrow (arrow individuals propositions) propositions)
declares_ex = declared_later _ (declared_later _ (declared_later _ (declared_later _ (declared_later _ (declared_later _ (declared_later _ (declared_later _ (declared_later _ (declared_later _ (declared_later _ (declared_here _ _)))))))))))
