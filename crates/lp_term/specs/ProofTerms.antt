-- Proof terms of single connectives.
use Rattle.std.specs.Prelude.{suc}
use Rattle.lp_term.specs.Names.{em_name}
use Rattle.lp_term.specs.LambdaPi.{Term, app, con, lam, pi, rename, shift, under_renaming, var}
use Rattle.lp_term.specs.Connectives.{arrow, individuals, neg, proof_of, propositions}

-- em C C (λ (v : Prf C), v) (λ (v : Prf (not C)), u)
abbrev pub contradiction : Term → Term → Term
contradiction c u = app (app (app (app (con em_name) c) c) (lam (proof_of c) (var 0))) (lam (proof_of (neg c)) u)

-- λ (r : Prop), λ (k : Prf p → Prf q → Prf r), k a b
abbrev pub pair_term : Term → Term → Term → Term → Term
pair_term p q a b =
    lam propositions (lam (arrow (proof_of (shift p)) (arrow (proof_of (shift q)) (proof_of (var 0)))) (app (app (var 0) (shift (shift a))) (shift (shift b))))

-- λ (r : Prop), λ (z : Prf r), z
abbrev pub top_term : Term
top_term = lam propositions (lam (proof_of (var 0)) (var 0))

-- λ (r : Prop), λ (k : Prf p → Prf r), λ (l : Prf q → Prf r), k a
abbrev pub left_term : Term → Term → Term → Term
left_term p q a =
    lam propositions (lam (arrow (proof_of (shift p)) (proof_of (var 0))) (lam (shift (arrow (proof_of (shift q)) (proof_of (var 0)))) (app (var 1) (shift (shift (shift a))))))

-- the same with l a
abbrev pub right_term : Term → Term → Term → Term
right_term p q a =
    lam propositions (lam (arrow (proof_of (shift p)) (proof_of (var 0))) (lam (shift (arrow (proof_of (shift q)) (proof_of (var 0)))) (app (var 0) (shift (shift (shift a))))))

-- the type of k in the next term, below r
abbrev pub iff_arg : Term → Term → Term → Term
iff_arg p q c = arrow (arrow (proof_of p) (proof_of q)) (arrow (arrow (proof_of q) (proof_of p)) (proof_of c))

-- λ (r : Prop), λ (k : (Prf p → Prf q) → (Prf q → Prf p) → Prf r), k a b; a and b stand below r and k
abbrev pub iff_term : Term → Term → Term → Term → Term
iff_term p q a b = lam propositions (lam (iff_arg (shift p) (shift q) (var 0)) (app (app (var 0) a) b))

-- λ (r : Prop), λ (k : Π (x : I), Prf b → Prf r), k u a
abbrev pub ex_term : Term → Term → Term → Term
ex_term b u a =
    lam propositions (lam (pi individuals (arrow (proof_of (rename (under_renaming (λ n. suc n)) b)) (proof_of (var 1)))) (app (app (var 0) (shift (shift u))) (shift (shift a))))

-- let x : a ≔ t in u
abbrev pub let_term : Term → Term → Term → Term
let_term a t u = app (lam a u) t
