-- Tables that are closed under what Skolem terms need. Only private contracts cite this.
use Rattle.std.specs.List.{Contains}
use Rattle.std.specs.Prelude.{List}
use Rattle.dk_syntax.specs.declared.Term.{Term}
use Rattle.skolem_order.specs.Order.{IsPart}
use Rattle.skolem_order.specs.Sites.{terms_outside}
use Rattle.skolem_order.specs.declared.origins.Origin.{Origin}

-- the least set that has these terms, and with each term the parts of the Skolem terms outside its origin
pub data Reached (origins : List Origin) (terms : List Term) : Term → Type 0 where
  at_first : (s : Term) → Contains terms s → Reached origins terms s
  outside : (s t u : Term) → Reached origins terms t → Contains (terms_outside origins t) u → IsPart s u → Reached origins terms s

-- the new table has the terms of the old one, and with each term the Skolem terms outside its origin; it has no others
pub record HasClosed (origins : List Origin) (old new : List Term) : Type 0 where
  pub grown : (t : Term) → Contains old t → Contains new t
  pub closed : (t u : Term) → Contains new t → Contains (terms_outside origins t) u → Contains new u
  pub only : (t : Term) → Contains new t → Reached origins old t
