use Rattle.std.proofs.Common.{ap, ap₂, ◌∙◌}
use Rattle.lp_term.specs.Connectives.{all, neg, proof_of}
use Rattle.lp_term.specs.LambdaPi.{Term, lam, var}
use Rattle.lp_term.specs.ProofTerms.{ex_term}
use Rattle.lp_term.specs.View.{term_of}
use Rattle.nd_term.specs.Drinkers.{refutes}
use Rattle.nd_term.proofs.Results.{ok_map}
use Rattle.nd_term.proofs.drinkers.refuter.Goals as goal

pub returns : goal.returns
returns c =
    let proof = c.in_ok-proof.ensures ∙ ap₂ (λ (p q : Term). lam (proof_of p) q) c.in_ok-not_everywhere.ensures c.variable.ensures in
    ok_map c.ex_term.result
    (λ t e. e
    ∙ ap₂ (λ (b u : Term). ex_term b u (term_of c.in_ok-proof.proof)) c.in_ok-refutes.ensures c.variable-2.ensures
    ∙ ap (λ (p : Term). ex_term (refutes (var 4)) (var 1) p) proof)
    c.ex_term.ensures
