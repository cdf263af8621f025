-- The judgement of the type checker over normal types. `found_app` also holds of an abstraction as the function, for
-- which it says what `found_let` does.
use Rattle.std.specs.Prelude.{ℕ, List, ◌∷◌, Option, Some, None}
use Rattle.lp_term.specs.LambdaPi.{Term, con, var, app, lam, pi, instantiate}
use Rattle.lp_term.specs.Connectives.{individuals, propositions, proof_of}
use Rattle.lp_term.specs.Typing.{Declaration, Declares, Gives}
use Rattle.lp_exact.specs.Words.{word_of}
use Rattle.lp_exact.specs.Objects.{Simple, simple_of}
use Rattle.lp_exact.specs.Reduction.{HasNormalForm}
use Rattle.lp_exact.specs.Symbols.{IsTermWord}

-- what is over a type that isn't simple, has no simple type
abbrev pub IsAllowed : Option Simple → Option Simple → Type 0
IsAllowed None (Some b) = ⊥
IsAllowed a b = Unit {0}

mutual
  -- a type of the fragment in a context
  pub data IsChecked (sig : List Declaration) : List Term → Term → Type 0 where
    checked_individuals : (g : List Term) → IsChecked sig g individuals
    checked_propositions : (g : List Term) → IsChecked sig g propositions
    checked_pi : {g : List Term} {a b : Term} → IsChecked sig g a → IsChecked sig (a ∷ g) b → IsChecked sig g (pi a b)
    checked_proof : {g : List Term} {o : Term} → HasNormalType sig g o propositions → IsChecked sig g (proof_of o)

  -- a term of the fragment in a context, with its normal type
  pub data HasNormalType (sig : List Declaration) : List Term → Term → Term → Type 0 where
    found_var : {g : List Term} {n : ℕ} {a m : Term} → Gives g n a → HasNormalForm a m → HasNormalType sig g (var n) m
    found_con : (g : List Term) {s : List ℕ} {a m : Term} → IsTermWord (word_of s) → Declares sig s a → HasNormalForm a m → HasNormalType sig g (con s) m
    found_lam : {g : List Term} {a b m t : Term} → IsChecked sig g a → HasNormalForm a m → HasNormalType sig (a ∷ g) t b → IsAllowed (simple_of m) (simple_of b) → HasNormalType sig g (lam a t) (pi m b)
    found_let : {g : List Term} {a b m n t u : Term} → IsChecked sig g a → HasNormalForm a m → HasNormalType sig g u m → HasNormalType sig (a ∷ g) t b → HasNormalForm (instantiate b u) n → IsAllowed (simple_of m) (simple_of n) → HasNormalType sig g (app (lam a t) u) n
    found_app : {g : List Term} {a b n t u : Term} → HasNormalType sig g t (pi a b) → HasNormalType sig g u a → HasNormalForm (instantiate b u) n → IsAllowed (simple_of a) (simple_of n) → HasNormalType sig g (app t u) n
