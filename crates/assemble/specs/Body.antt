-- The body of goal: the lets of the instances, under the denied conjecture and the hypotheses.
use Rattle.std.specs.Prelude.{ℕ, suc, true, false, List, [], ◌∷◌, ◌++◌, map}
use Rattle.lp_term.specs.LambdaPi.{Term, app, lam, rename, shift, under_renaming, var}
use Rattle.lp_term.specs.Connectives.{arrow, individuals, proof_of}
use Rattle.lp_term.specs.ProofTerms.{contradiction, let_term}
use Rattle.nd_term.specs.Formulas.{Formula, Literal, unassigned}
use Rattle.nd_term.specs.Translation.{literal_type, sentence}
use Rattle.nd_term.specs.Eigenvariables.{Eigenvariable, origin_body, witness_at}
use Rattle.nd_term.specs.Consumers.{consumer}
use Rattle.nd_term.specs.Drinkers.{drinker, negative_drinker, negative_drinker_type, positive_drinker, positive_drinker_type}
use Rattle.nd_term.specs.Instances.{applied_to, at_place, clause_type, resolution_proof, subsumption_proof}
use Rattle.assemble.specs.Justification.{Instance, Reason, by_denied, by_leaf, by_resolve, by_same, by_subsume}
use Rattle.assemble.specs.Places.{Place, deeper, first_place, last_of, with_eigenvariable, with_instance}

-- the proof of falsity under the literals' variables lv
abbrev pub reason_proof : Place → List Term → Reason → Term
reason_proof v lv (by_leaf h f th) = consumer f true th unassigned v.eigenvariables v.witnesses lv (at_place v.hypotheses h)
reason_proof v lv (by_denied f th) = consumer f false th unassigned v.eigenvariables v.witnesses lv v.denied
reason_proof v lv (by_same p) = applied_to (at_place v.done p) lv
reason_proof v lv (by_subsume p ks) = subsumption_proof (at_place v.done p) lv ks
reason_proof v lv (by_resolve p q ks ls a) = resolution_proof v.eigenvariables (at_place v.done p) (at_place v.done q) lv ks ls a

-- λ (n0 : N0), .. reason
abbrev pub instance_abstractions : List Literal → Place → List Term → Reason → Term
instance_abstractions [] v lv r = reason_proof v lv r
instance_abstractions (l ∷ d) v lv r = lam (literal_type v.eigenvariables l) (instance_abstractions d (deeper v) (map shift lv ++ var 0 ∷ []) r)

-- the proof of an instance
abbrev pub instance_proof : Place → Instance → Term
instance_proof v i = instance_abstractions i.clause v [] i.by

-- one let an instance; the last instance is the empty clause
abbrev pub lets : Place → List Instance → Formula → Term
lets v [] c = app (last_of v.done) (sentence c)
lets v (i ∷ is) c = let_term (clause_type v.eigenvariables i.clause) (instance_proof v i) (lets (with_instance v) is c)

-- D F C (λ (x : I), λ (w : Prf W), ..) for each needed Skolem term from the n-th on, then the lets; dp and dn are the drinkers' variables
abbrev pub nest : List Eigenvariable → ℕ → Term → Term → Place → List Instance → Formula → Term
nest [] n dp dn v list c = lets v list c
nest (o ∷ es) n dp dn v list c =
    app (app (app (drinker o.positive dp dn) (lam individuals (origin_body v.eigenvariables o))) (sentence c))
    (lam individuals (lam (proof_of (witness_at o.positive (rename (under_renaming (λ k. suc k)) (origin_body v.eigenvariables o)) (origin_body v.eigenvariables o)))
    (nest es (suc n) (shift (shift dp)) (shift (shift dn)) (with_eigenvariable n v) list c)))

-- the drinkers are bound where there is a needed Skolem term
abbrev pub inside : List Eigenvariable → Place → List Instance → Formula → Term
inside [] v list c = lets v list c
inside (o ∷ es) v list c =
    let_term positive_drinker_type positive_drinker (let_term negative_drinker_type negative_drinker (nest (o ∷ es) 0 (var 1) (var 0) (deeper (deeper v)) list c))

-- λ (v : Prf H), .. em C C (λ ..) (λ .., inside); the conjecture is $false where there is none
abbrev pub body_under : List Formula → List Term → List Eigenvariable → Formula → List Instance → Term
body_under [] hv es c list = contradiction (sentence c) (inside es (first_place hv) list c)
body_under (h ∷ hs) hv es c list = lam (proof_of (sentence h)) (body_under hs (map shift hv ++ var 0 ∷ []) es c list)

-- the body of goal: its hypotheses, the eigenvariables, the conjecture and the instances
abbrev pub goal_body : List Formula → List Eigenvariable → Formula → List Instance → Term
goal_body hs es c list = body_under hs [] es c list

-- Prf H1 → .. → Prf C
abbrev pub goal_type : List Formula → Formula → Term
goal_type [] c = proof_of (sentence c)
goal_type (h ∷ hs) c = arrow (proof_of (sentence h)) (goal_type hs c)
