use Rattle.lp_exact.proofs.PreludeOrder.{prelude_well_formed}
use Rattle.lp_exact.proofs.SubjectLaws.{context_extends, empty_context}
use Rattle.lp_exact.proofs.laws.well_formed_contexts.Goals as goal

pub returns-clause-prelude : goal.returns-clause-prelude
returns-clause-prelude c = prelude_well_formed

pub returns-clause-empty : goal.returns-clause-empty
returns-clause-empty c = λ sig. empty_context sig

pub returns-clause-extended : goal.returns-clause-extended
returns-clause-extended c = λ sig g a w f h. context_extends w f h
