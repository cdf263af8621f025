-- The origin formulas of eigenvariables, as they are built.
use Rattle.std.specs.Prelude.{◌≡◌, ℕ}
use Rattle.development.specs.declared.families.Family.{Family}
use Rattle.lp_term.specs.LambdaPi.{Term}
use Rattle.lp_term.specs.View.{term_of}
use Rattle.nd_term.specs.Eigenvariables.{Eigenvariable, origin_body}

-- the sign and the body of an eigenvariable's origin formula, where x gives the eigenvariables
pub record IsFamily (x : ℕ → Term) (o : Eigenvariable) (one : Family) : Type 0 where
  pub positive : one.positive ≡ o.positive
  pub body : term_of one.body ≡ origin_body x o
