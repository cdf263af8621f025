-- Needed Skolem terms and their order.
use Rattle.std.specs.Prelude.{◌≡◌, ◌≢◌, ◌<◌, ◌⊎◌, ℕ, Bool, true, false, List, ◌++◌, length, count_by, Option, Some, None, IsTrue}
use Rattle.std.specs.List.{AllPairs, Contains, flat_map}
use Rattle.std.specs.Ordering.{is_lt, nat_cmp, ordering_then}
use Rattle.std.specs.declared.cmp.Ordering.{Ordering}
use Rattle.dk_syntax.specs.Depth.{term_depth_of}
use Rattle.dk_syntax.specs.Order.{order_of}
use Rattle.dk_syntax.specs.WellFormed.{IsGround}
use Rattle.dk_syntax.specs.declared.Literal.{Literal}
use Rattle.dk_syntax.specs.declared.SymKey.{SymKey}
use Rattle.dk_syntax.specs.declared.Term.{Term}
use Rattle.dk_syntax.specs.declared.Term.TheVariants.{App}
use Rattle.expansion.specs.Rows.{term_at}
use Rattle.expansion.specs.declared.Thin.{Thin}
use Rattle.normal_form.specs.Occurrence.{in_formula}
use Rattle.skolem_order.specs.Origins.{args_of, is_skolem, origin_of_term, spot_of, terms_around}
use Rattle.skolem_order.specs.Spots.{Spot}
use Rattle.skolem_order.specs.declared.origins.Origin.{Origin}
use Rattle.skolem_order.specs.declared.walk.Around.{Around}
use Rattle.skolem_order.specs.declared.walk.Around.TheVariants.{Existential, Universal, Vacant}

-- ---- parts of terms

-- the first term is the second one, or stands in it
pub data IsPart (s : Term) : Term → Type 0 where
  itself : IsPart s s
  in_argument : (f : SymKey) (args : List Term) (arg : Term) → Contains args arg → IsPart s arg → IsPart s (App f args)

-- the first term is an argument of the second one, or stands in one
pub record IsInside (s t : Term) : Type 0 where
  pub argument : Term
  pub one : Contains (args_of t) argument
  pub part : IsPart s argument

-- ---- needed terms

-- s stands in a term that the origin formula of t has for a variable that is free in the existential there
pub record IsPut (origins : List Origin) (t s : Term) : Type 0 where
  pub origin : Origin
  pub listed : origin_of_term origins t ≡ Some origin
  pub spot : Spot
  pub there : spot_of origin ≡ Some spot
  pub variable : ℕ
  pub free : in_formula spot.formula variable ≡ true
  pub part : IsPart s (term_at (terms_around origin spot.around (args_of t)) variable)

-- the Skolem term s stands in an argument of t, or in its origin formula
abbrev pub Mentions : List Origin → Term → Term → Type 0
Mentions origins t s = IsTrue (is_skolem origins s) × (IsInside s t ⊎ IsPut origins t s)

-- the least set that has the Skolem terms that stand in these terms, and with each term those that it mentions
pub data Needed (origins : List Origin) (roots : List Term) : Term → Type 0 where
  in_root : (s t : Term) → Contains roots t → IsPart s t → IsTrue (is_skolem origins s) → Needed origins roots s
  mentioned : (s t : Term) → Needed origins roots t → Mentions origins t s → Needed origins roots s

-- the terms of thin trees, and those of clauses
abbrev pub thin_terms : Thin → List Term
thin_terms thin = thin.terms ++ thin.skolems

abbrev pub clause_terms : List Literal → List Term
clause_terms literals = flat_map (λ literal. literal.args) literals

abbrev pub root_terms : List Thin → List (List Literal) → List Term
root_terms thins clauses = flat_map thin_terms thins ++ flat_map clause_terms clauses

-- the terms are ground
abbrev pub AreGround : List Term → Type 0
AreGround terms = (t : Term) → Contains terms t → IsGround t

-- ---- the order

abbrev pub is_existential : Around → Bool
is_existential (Universal n) = false
is_existential (Existential e) = true
is_existential Vacant = false

-- how many existentials stand around a place
abbrev pub rank_at : Option Spot → ℕ
rank_at None = 0
rank_at (Some x) = count_by is_existential x.around

abbrev pub rank_from : Option Origin → ℕ
rank_from None = 0
rank_from (Some origin) = rank_at (spot_of origin)

-- the rank of a Skolem term: how many existentials stand around its symbol's origin
abbrev pub rank : List Origin → Term → ℕ
rank origins t = rank_from (origin_of_term origins t)

-- by depth, then by rank, then by the order of terms
abbrev pub skolem_order : List Origin → Term → Term → Ordering
skolem_order origins s t =
    ordering_then (nat_cmp (term_depth_of s) (term_depth_of t)) (ordering_then (nat_cmp (rank origins s) (rank origins t)) (order_of s t))

-- the place of the term in the list, the first one at which it stands
pub record IsPlaceOf (list : List Term) (t : Term) (n : ℕ) : Type 0 where
  pub within : n < length list
  pub here : term_at list n ≡ t
  pub first : (k : ℕ) → k < n → term_at list k ≢ t

-- two terms are two, and the second one isn't before the first
abbrev pub IsBefore : List Origin → Term → Term → Type 0
IsBefore origins s t = (s ≢ t) × (is_lt (skolem_order origins t s) ≡ false)

-- the list has exactly the needed terms, each once, in order
pub record AreNeeded (origins : List Origin) (roots : List Term) (list : List Term) : Type 0 where
  pub needed : (t : Term) → Contains list t → Needed origins roots t
  pub all : (t : Term) → Needed origins roots t → Contains list t
  pub ascends : AllPairs (IsBefore origins) list
