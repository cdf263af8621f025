-- Places of existentials in signed formulas.
use Rattle.std.specs.Prelude.{ℕ, suc, ◌+◌, nat_eq, Bool, List, ◌∷◌, Option, Some, None, cond}
use Rattle.dk_syntax.specs.declared.Formula.{Formula}
use Rattle.skolem_order.specs.SignedForms.{SignedForm, all, alls, constant, ex, exs, joined, lit, vacuous}
use Rattle.skolem_order.specs.declared.walk.Around.{Around}
use Rattle.skolem_order.specs.declared.walk.Around.TheVariants.{Existential, Universal, Vacant}

-- an existential of a signed formula: its sign, its formula, and the quantifiers around it, the inmost first
pub record Spot : Type 0 where
  pub positive : Bool
  pub formula : Formula
  pub around : List Around

abbrev pub spot : Bool → Formula → List Around → Spot
spot positive f around = record { positive = positive; formula = f; around = around }

-- Stands n h u e i x: in the form n under the quantifiers h, where u and e are the numbers of n's first universal and
-- existential, the existential with the number i is x
pub data Stands : SignedForm → List Around → ℕ → ℕ → ℕ → Spot → Type 0 where
  s_here : (h : List Around) (u e : ℕ) (sign : Bool) (f : Formula) (a : SignedForm) → Stands (ex sign f a) h u e e (spot sign f h)
  s_below : (h : List Around) (u e i : ℕ) (sign : Bool) (f : Formula) (a : SignedForm) (x : Spot) → Stands a (Existential e ∷ h) u (suc e) i x → Stands (ex sign f a) h u e i x
  s_all : (h : List Around) (u e i : ℕ) (a : SignedForm) (x : Spot) → Stands a (Universal u ∷ h) (suc u) e i x → Stands (all a) h u e i x
  s_vacuous : (h : List Around) (u e i : ℕ) (a : SignedForm) (x : Spot) → Stands a (Vacant ∷ h) u e i x → Stands (vacuous a) h u e i x
  s_left : (h : List Around) (u e i : ℕ) (both : Bool) (a b : SignedForm) (x : Spot) → Stands a h u e i x → Stands (joined both a b) h u e i x
  s_right : (h : List Around) (u e i : ℕ) (both : Bool) (a b : SignedForm) (x : Spot) → Stands b h (alls a + u) (exs a + e) i x → Stands (joined both a b) h u e i x

-- the first, where there is one, or else the second
abbrev pub first_of : Option Spot → Option Spot → Option Spot
first_of None other = other
first_of (Some x) other = Some x

-- the existential with this number
abbrev pub found : SignedForm → List Around → ℕ → ℕ → ℕ → Option Spot
found (constant truth) h u e i = None
found (lit literal) h u e i = None
found (joined both a b) h u e i = first_of (found a h u e i) (found b h (alls a + u) (exs a + e) i)
found (all a) h u e i = found a (Universal u ∷ h) (suc u) e i
found (ex sign f a) h u e i = cond (nat_eq e i) (Some (spot sign f h)) (found a (Existential e ∷ h) u (suc e) i)
found (vacuous a) h u e i = found a (Vacant ∷ h) u e i
