-- The types of clauses, and the terms of subsumption and of resolution.
use Rattle.std.specs.Prelude.{ℕ, zero, suc, List, [], ◌∷◌, ◌++◌, map}
use Rattle.lp_term.specs.Names.{any_name}
use Rattle.lp_term.specs.LambdaPi.{Term, app, con, lam, shift, var}
use Rattle.lp_term.specs.Connectives.{arrow, bot, proof_of}
use Rattle.dk_syntax.specs.Lists.{Each, Entry}
use Rattle.nd_term.specs.Formulas.{GroundTerm, Literal}
use Rattle.nd_term.specs.Translation.{literal_type, translated_ground}

-- each literal of the second clause is the chosen one of the first
abbrev pub Chosen : List Literal → List Literal → List ℕ → Type 0
Chosen d c ks = Each (λ l k. Entry d k l) c ks

-- the term at a place
abbrev pub at_place : List Term → ℕ → Term
at_place [] k = con any_name
at_place (t ∷ l) zero = t
at_place (t ∷ l) (suc k) = at_place l k

-- the terms at the picked places
abbrev pub pick : List Term → List ℕ → List Term
pick lv [] = []
pick lv (k ∷ ks) = at_place lv k ∷ pick lv ks

-- a term at one argument after the other
abbrev pub applied_to : Term → List Term → Term
applied_to t [] = t
applied_to t (u ∷ us) = applied_to (app t u) us

-- N0 → .. → Prf bot
abbrev pub clause_type : (ℕ → Term) → List Literal → Term
clause_type x [] = proof_of bot
clause_type x (l ∷ d) = arrow (literal_type x l) (clause_type x d)

-- subsumption: a parent's proof t at the picked variables of the clause
abbrev pub subsumption_proof : Term → List Term → List ℕ → Term
subsumption_proof t lv ks = applied_to t (pick lv ks)

-- resolution on the atom a: the positive parent's proof t at its picks, the pivot being λ (p : Prf a), ..
-- the negative parent's proof u at its picks, the pivot being p. The pivot stands after the clause's variables
abbrev pub resolution_proof : (ℕ → Term) → Term → Term → List Term → List ℕ → List ℕ → GroundTerm → Term
resolution_proof x t u lv ks ls a =
    subsumption_proof t (lv ++ lam (proof_of (translated_ground x a)) (subsumption_proof (shift u) (map shift lv ++ var 0 ∷ []) ls) ∷ []) ks
