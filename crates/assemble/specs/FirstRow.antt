-- The first worked row: hypotheses p and not p, three instances.
use Rattle.std.specs.Prelude.{ℕ, true, false, List, [], ◌∷◌, ◌≡◌, codes}
use Rattle.lp_term.specs.LambdaPi.{Term, app, con, lam, var}
use Rattle.lp_term.specs.Connectives.{arrow, bot, neg, proof_of}
use Rattle.lp_term.specs.ProofTerms.{contradiction, let_term}
use Rattle.nd_term.specs.Formulas.{Formula, atomic, falsity, ground_symbol, literal, negation, symbol}
use Rattle.nd_term.specs.ThinTrees.{below_not, leaf}
use Rattle.assemble.specs.Justification.{Instance, Right, by_leaf, by_resolve}
use Rattle.assemble.specs.Body.{goal_body}
use Rattle.assemble.specs.Problem.{ProblemSymbol, signature_of}

-- the identifier of the predicate symbol p without arguments
abbrev pub row_p : List ℕ
row_p = codes "p0_p"

-- its one symbol, hypotheses and instances
abbrev pub row_symbols : List ProblemSymbol
row_symbols = record { name = row_p; arity = 0; answers = true } ∷ []

abbrev pub row_hypotheses : List Formula
row_hypotheses = atomic (symbol row_p) ∷ negation (atomic (symbol row_p)) ∷ []

abbrev pub row_instances : List Instance
row_instances =
    record { clause = literal true (ground_symbol row_p) ∷ []; by = by_leaf 0 (atomic (symbol row_p)) leaf }
    ∷ record { clause = literal false (ground_symbol row_p) ∷ []; by = by_leaf 1 (negation (atomic (symbol row_p))) (below_not leaf) }
    ∷ record { clause = []; by = by_resolve 0 1 (0 ∷ []) (0 ∷ []) (ground_symbol row_p) }
    ∷ []

-- the text of the row, variables counted by binders
abbrev pub row_body : Term
row_body =
    lam (proof_of (con row_p)) (lam (proof_of (neg (con row_p))) (contradiction bot
    (let_term (arrow (proof_of (neg (con row_p))) (proof_of bot)) (lam (proof_of (neg (con row_p))) (app (var 0) (var 3)))
    (let_term (arrow (proof_of (con row_p)) (proof_of bot)) (lam (proof_of (con row_p)) (app (var 3) (var 0)))
    (let_term (proof_of bot) (app (var 1) (lam (proof_of (con row_p)) (app (var 1) (var 0))))
    (app (var 0) bot))))))

-- the body of goal for the row is its text
abbrev pub RowIsBody : Type 0
RowIsBody = goal_body row_hypotheses [] falsity row_instances ≡ row_body

-- and its instances are right
abbrev pub RowIsRight : Type 0
RowIsRight = Right (signature_of row_symbols) [] row_hypotheses falsity row_instances
