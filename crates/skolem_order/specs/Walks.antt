-- The walk to an existential. Only private contracts cite this.
use Rattle.std.specs.Prelude.{◌≡◌, ℕ, ◌+◌, List, reverse, Option, Some, None}
use Rattle.dk_syntax.specs.declared.Term.{Term}
use Rattle.skolem_order.specs.Origins.{universals_by}
use Rattle.skolem_order.specs.SignedForms.{SignedForm}
use Rattle.skolem_order.specs.Spots.{Spot, found, spot}
use Rattle.skolem_order.specs.declared.values.Source.{Source}
use Rattle.skolem_order.specs.declared.walk.Around.{Around}
use Rattle.skolem_order.specs.declared.walk.Hit.{Hit}
use Rattle.skolem_order.specs.declared.walk.Walk.{Walk}

-- the existential with that number in a form, from where the walk stands
abbrev pub found_from : Walk → SignedForm → ℕ → Option Spot
found_from walk form number = found form (reverse walk.around.items) walk.all walk.ex number

-- what was met, under these quantifiers
abbrev pub spot_at : Option Hit → List Around → Option Spot
spot_at None around = None
spot_at (Some hit) around = Some (spot hit.positive hit.formula.now around)

-- the walk has passed so many universals and existentials
pub record Passes (old new : Walk) (alls exs : ℕ) : Type 0 where
  pub around : new.around.items ≡ old.around.items
  pub all : new.all ≡ alls + old.all
  pub ex : new.ex ≡ exs + old.ex

-- the terms of universals
unfoldable pub universals_of : Source → ℕ → Term
universals_of source = universals_by source.origin.now source.args.now
