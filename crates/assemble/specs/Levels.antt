-- A place by levels: the level of a variable is the number of binders outside its own.
use Rattle.std.specs.Prelude.{ℕ, suc, ◌+◌, ◌-◌, ◌<◌, ◌≤◌, cond, nat_lt, List, [], ◌∷◌, ◌++◌, map}
use Rattle.lp_term.specs.Names.{any_name}
use Rattle.lp_term.specs.LambdaPi.{Term, app, con, lam, var}
use Rattle.lp_term.specs.ProofTerms.{let_term}
use Rattle.dk_syntax.specs.Lists.{Every}
use Rattle.nd_term.specs.Formulas.{Formula, Literal}
use Rattle.nd_term.specs.Translation.{literal_type, sentence}
use Rattle.nd_term.specs.Instances.{clause_type}
use Rattle.assemble.specs.Justification.{Instance, Reason}
use Rattle.assemble.specs.Places.{Place, last_of}
use Rattle.assemble.specs.Body.{reason_proof}

-- the variable of this level, at a place of level n
abbrev pub at_level : ℕ → ℕ → Term
at_level n l = var (n - suc l)

-- the levels of what a place has bound
pub record Levels : Type 0 where
  pub hypotheses : List ℕ
  pub denied : ℕ
  pub first : ℕ
  pub count : ℕ
  pub done : List ℕ

abbrev pub place_at : ℕ → Levels → Place
place_at n p =
    record {
      eigenvariables = λ k. cond (nat_lt k p.count) (at_level n (p.first + (k + k))) (con any_name);
      witnesses = λ k. cond (nat_lt k p.count) (at_level n (p.first + (k + k) + 1)) (con any_name);
      hypotheses = map (at_level n) p.hypotheses;
      denied = at_level n p.denied;
      done = map (at_level n) p.done;
    }

-- all these levels are below the place's
pub record Inside (n : ℕ) (p : Levels) : Type 0 where
  pub hypotheses : Every (λ l. l < n) p.hypotheses
  pub denied : p.denied < n
  pub eigens : p.first + (p.count + p.count) ≤ n
  pub done : Every (λ l. l < n) p.done

-- one instance more, bound at this level
abbrev pub and_done : Levels → ℕ → Levels
and_done p l = record { hypotheses = p.hypotheses; denied = p.denied; first = p.first; count = p.count; done = p.done ++ l ∷ [] }

-- one eigenvariable more
abbrev pub and_eigenvariable : Levels → Levels
and_eigenvariable p = record { hypotheses = p.hypotheses; denied = p.denied; first = p.first; count = suc p.count; done = p.done }

-- an instance's term and the lets, by levels
abbrev pub abstractions_at : List Literal → ℕ → Levels → List ℕ → Reason → Term
abstractions_at [] n p ls r = reason_proof (place_at n p) (map (at_level n) ls) r
abstractions_at (l ∷ d) n p ls r = lam (literal_type (place_at n p).eigenvariables l) (abstractions_at d (suc n) p (ls ++ n ∷ []) r)

abbrev pub lets_at : ℕ → Levels → List Instance → Formula → Term
lets_at n p [] c = app (last_of (map (at_level n) p.done)) (sentence c)
lets_at n p (i ∷ is) c =
    let_term (clause_type (place_at n p).eigenvariables i.clause) (abstractions_at i.clause n p [] i.by) (lets_at (suc n) (and_done p n) is c)
