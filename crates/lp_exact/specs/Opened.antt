-- What the program answers for one layer: the layer, or nothing where the type stands as it is.
use Rattle.std.specs.Prelude.{◌≡◌, Option, Some, None}
use Rattle.lp_term.specs.LambdaPi.{Term}
use Rattle.lp_term.specs.View.{term_of}
use Rattle.lp_term.specs.declared.lp.Lp.{Lp}

-- `f` gives what a type becomes, from what stands where no rule holds
abbrev pub IsLayer : Option Lp → (Term → Term) → Type 0
IsLayer (Some t) f = (other : Term) → term_of t ≡ f other
IsLayer None f = (other : Term) → f other ≡ other

-- the second is the first type opened
abbrev pub HasOpened : Option Lp → Term → Term → Type 0
HasOpened (Some t) a b = term_of t ≡ b
HasOpened None a b = b ≡ a
