-- What the place of a term has bound.
use Rattle.std.specs.Prelude.{ℕ, zero, suc, List, [], ◌∷◌, ◌++◌, map}
use Rattle.lp_term.specs.Names.{any_name}
use Rattle.lp_term.specs.LambdaPi.{Term, con, shift, var}
use Rattle.nd_term.specs.Consumers.{lift}

-- what the place of a term has bound: eigenvariables, hypotheses, the denied conjecture, earlier instances
pub record Place : Type 0 where
  pub eigenvariables : ℕ → Term
  pub witnesses : ℕ → Term
  pub hypotheses : List Term
  pub denied : Term
  pub done : List Term

-- the same one binder further in
abbrev pub deeper : Place → Place
deeper v = record { eigenvariables = lift v.eigenvariables; witnesses = lift v.witnesses; hypotheses = map shift v.hypotheses; denied = shift v.denied; done = map shift v.done }

-- the same one binder further in, whose variable is the next instance
abbrev pub with_instance : Place → Place
with_instance v = record { eigenvariables = lift v.eigenvariables; witnesses = lift v.witnesses; hypotheses = map shift v.hypotheses; denied = shift v.denied; done = map shift v.done ++ var 0 ∷ [] }

-- the last of the terms
abbrev pub last_of : List Term → Term
last_of [] = con any_name
last_of (t ∷ []) = t
last_of (t ∷ u ∷ l) = last_of (u ∷ l)

-- the place inside the denied conjecture, whose hypotheses are these
abbrev pub first_place : List Term → Place
first_place hv = record { eigenvariables = λ k. con any_name; witnesses = λ k. con any_name; hypotheses = map shift hv; denied = var 0; done = [] }

-- t at place n, and the other places as before
abbrev pub put : ℕ → (ℕ → Term) → Term → ℕ → Term
put zero x t zero = t
put zero x t (suc k) = x (suc k)
put (suc n) x t zero = x zero
put (suc n) x t (suc k) = put n (λ j. x (suc j)) t k

-- the place inside the n-th eigenvariable and the variable after it
abbrev pub with_eigenvariable : ℕ → Place → Place
with_eigenvariable n v =
    record {
      eigenvariables = put n (lift (lift v.eigenvariables)) (var 1);
      witnesses = put n (lift (lift v.witnesses)) (var 0);
      hypotheses = map shift (map shift v.hypotheses);
      denied = shift (shift v.denied);
      done = map shift (map shift v.done);
    }
