use Rattle.lp_exact.proofs.FragmentLaws.{fragment_object_typed, fragment_typed}
use Rattle.lp_exact.proofs.laws.fragment_is_typed.Goals as goal

pub returns-clause-objects : goal.returns-clause-objects
returns-clause-objects c = λ sig d t a e h. fragment_object_typed e d h

pub returns-clause-types : goal.returns-clause-types
returns-clause-types c = λ sig d t e h. fragment_typed e d h
