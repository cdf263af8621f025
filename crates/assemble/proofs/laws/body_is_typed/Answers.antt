use Rattle.lp_term.proofs.ScopeLaws.{typed_below, typed_declared}
use Rattle.assemble.specs.Problem.{signature_of}
use Rattle.assemble.proofs.BodyTypes.{body_typed}
use Rattle.assemble.proofs.ProblemLaws.{signature_extends}
use Rattle.assemble.proofs.laws.body_is_typed.Goals as goal

pub returns-clause-typed : goal.returns-clause-typed
returns-clause-typed c = λ ks es hs d list ho co tn r. body_typed (signature_of ks) (signature_extends ks) es hs d ho co tn r

pub returns-clause-closed : goal.returns-clause-closed
returns-clause-closed c = λ ks es hs d list ho co tn r.
    typed_below (body_typed (signature_of ks) (signature_extends ks) es hs d ho co tn r)

pub returns-clause-symbols : goal.returns-clause-symbols
returns-clause-symbols c = λ ks es hs d list ho co tn r.
    typed_declared (body_typed (signature_of ks) (signature_extends ks) es hs d ho co tn r)
