-- Where a consumer stands: the values of the formula's variables, and the place so many binders further in.
use Rattle.std.specs.Prelude.{ℕ, suc, Bool}
use Rattle.lp_term.specs.LambdaPi.{Term, under_binder}
use Rattle.nd_term.specs.Consumers.{consumer}
use Rattle.nd_term.specs.Formulas.{Formula, GroundTerm, extended}
use Rattle.nd_term.specs.Places.{last_variables, lifted_by, shifted_by}
use Rattle.nd_term.specs.ThinTrees.{ThinTree}
use Rattle.nd_term.specs.Translation.{translated, translated_at, translated_ground}

-- the values, the place's eigenvariables and the variables after them, and the binders further in
pub record Frame : Type 0 where
  pub values : ℕ → GroundTerm
  pub eigens : ℕ → Term
  pub witnesses : ℕ → Term
  pub extra : ℕ

-- the same one binder further in
abbrev pub deeper : Frame → Frame
deeper z = record { values = z.values; eigens = z.eigens; witnesses = z.witnesses; extra = suc z.extra }

-- the same under a quantifier whose variable has this value
abbrev pub with_value : GroundTerm → Frame → Frame
with_value u z = record { values = extended u z.values; eigens = z.eigens; witnesses = z.witnesses; extra = z.extra }

-- a formula's translation there
unfoldable pub said : Frame → Formula → Term
said z f = translated_at (lifted_by z.extra z.eigens) z.values f

-- the translation of a quantifier's body, below the quantifier's variable
unfoldable pub said_under : Frame → Formula → Term
said_under z f = translated (under_binder (λ n. translated_ground (lifted_by z.extra z.eigens) (z.values n))) f

-- a ground term's translation there
unfoldable pub named : Frame → GroundTerm → Term
named z u = translated_ground (lifted_by z.extra z.eigens) u

-- the consumer of a signed formula, where the last l of the literals' variables are left
unfoldable pub consumed : Frame → Formula → Bool → ThinTree → ℕ → Term → Term
consumed z f b th l t =
    consumer f b th z.values (lifted_by z.extra z.eigens) (lifted_by z.extra z.witnesses) (shifted_by z.extra (last_variables l)) t
