-- The nest of eigenvariables, the drinkers and the hypotheses, by levels.
use Rattle.std.specs.Prelude.{ℕ, Bool, suc, ◌+◌, List, [], ◌∷◌, length}
use Rattle.assemble.specs.Justification.{Instance}
use Rattle.assemble.specs.Levels.{at_level, lets_at}
use Rattle.development.specs.Places.{levels_in}
use Rattle.lp_term.specs.Connectives.{individuals, proof_of}
use Rattle.lp_term.specs.LambdaPi.{Term, app, lam, rename, under_renaming}
use Rattle.lp_term.specs.ProofTerms.{let_term}
use Rattle.nd_term.specs.Drinkers.{drinker, negative_drinker, negative_drinker_type, positive_drinker, positive_drinker_type}
use Rattle.nd_term.specs.Eigenvariables.{Eigenvariable, origin_body, witness_at}
use Rattle.nd_term.specs.Formulas.{Formula}
use Rattle.nd_term.specs.Places.{eigenvariables_at}
use Rattle.nd_term.specs.Translation.{sentence}

-- D F C (λ (x : I), λ (w : Prf W), inside), where b is the body of the origin formula and d the drinker
abbrev pub chosen : Bool → (d b c inside : Term) → Term
chosen positive d b c inside =
    app (app (app d (lam individuals b)) c) (lam individuals (lam (proof_of (witness_at positive (rename (under_renaming (λ k. suc k)) b) b)) inside))

-- The eigenvariables from the k-th on, the first of all at the level first and the drinkers at the two levels before it.
abbrev pub nested : (denied first k : ℕ) → List Eigenvariable → (c inside : Term) → Term
nested denied first k [] c inside = inside
nested denied first k (o ∷ es) c inside =
    let n = first + (k + k) in
    chosen o.positive (drinker o.positive (at_level n (denied + 1)) (at_level n (denied + 2))) (origin_body (eigenvariables_at n first k) o) c
    (nested denied first (suc k) es c inside)

-- the drinkers are bound where there is an eigenvariable
abbrev pub drinking : List Eigenvariable → Term → Term
drinking [] t = t
drinking (o ∷ es) t = let_term positive_drinker_type positive_drinker (let_term negative_drinker_type negative_drinker t)

-- λ (v : Prf H), .. u
abbrev pub assumed : List Formula → Term → Term
assumed [] u = u
assumed (h ∷ hs) u = lam (proof_of (sentence h)) (assumed hs u)

-- the level of the first eigenvariable, or else of the first instance
abbrev pub first_level : ℕ → List Eigenvariable → ℕ
first_level n [] = n + 1
first_level n (o ∷ es) = n + 3

-- the body inside the denied conjecture, which is bound at the level n
abbrev pub inner : (n : ℕ) → List Eigenvariable → List Instance → Formula → Term
inner n es list c =
    let first = first_level n es in let begin = first + (length es + length es) in
    drinking es (nested n first 0 es (sentence c) (lets_at begin (levels_in n first (length es) begin 0) list c))
