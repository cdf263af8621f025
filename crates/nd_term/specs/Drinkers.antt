-- The drinker terms and their types.
use Rattle.std.specs.Prelude.{Bool, true, false}
use Rattle.lp_term.specs.Names.{any_name, em_name}
use Rattle.lp_term.specs.LambdaPi.{Term, app, con, lam, pi, shift, var}
use Rattle.lp_term.specs.Connectives.{all, arrow, ex, imp, individuals, neg, proof_of, propositions}
use Rattle.lp_term.specs.ProofTerms.{contradiction, ex_term}

-- imp (ex f) (f c) below c
abbrev pub drinks : Term → Term
drinks f = imp (ex (shift f)) (app (shift f) (var 0))

-- imp (not (all f)) (not (f c)) below c
abbrev pub refutes : Term → Term
refutes f = imp (neg (all (shift f))) (neg (app (shift f) (var 0)))

abbrev pub positive_drinker_type : Term
positive_drinker_type = pi (arrow individuals propositions) (proof_of (ex (lam individuals (drinks (var 0)))))

abbrev pub negative_drinker_type : Term
negative_drinker_type = pi (arrow individuals propositions) (proof_of (ex (lam individuals (refutes (var 0)))))

abbrev pub positive_drinker : Term
positive_drinker =
    lam (arrow individuals propositions) (app (app (app (app (con em_name) (ex (var 0))) (ex (lam individuals (drinks (var 0)))))
    (lam (proof_of (ex (var 0))) (app (app (var 0) (ex (lam individuals (drinks (var 1)))))
    (lam individuals (lam (proof_of (app (var 2) (var 0))) (ex_term (drinks (var 3)) (var 1) (lam (proof_of (ex (var 3))) (var 1))))))))
    (lam (proof_of (neg (ex (var 0)))) (ex_term (drinks (var 1)) (con any_name) (lam (proof_of (ex (var 1))) (app (app (var 1) (var 0)) (app (var 2) (con any_name)))))))

abbrev pub negative_drinker : Term
negative_drinker =
    lam (arrow individuals propositions) (contradiction (ex (lam individuals (refutes (var 0))))
    (app (app (var 0) (ex_term (refutes (var 1)) (con any_name) (lam (proof_of (neg (all (var 1)))) (app (app (var 0)
    (lam individuals (contradiction (app (var 3) (var 0)) (app (app (var 3) (ex_term (refutes (var 4)) (var 1) (lam (proof_of (neg (all (var 4)))) (var 1)))) (app (var 4) (var 1))))))
    (neg (app (var 2) (con any_name)))))))
    (ex (lam individuals (refutes (var 1))))))

abbrev pub drinker : Bool → Term → Term → Term
drinker true dp dn = dp
drinker false dp dn = dn
