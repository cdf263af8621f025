-- The existentials around an origin. Only private contracts cite this.
use Rattle.std.specs.Prelude.{ℕ, suc, List, [], ◌∷◌, map, cond, count_by, Option, None, Some}
use Rattle.dk_syntax.specs.declared.Formula.{Formula}
use Rattle.dk_syntax.specs.declared.Term.{Term}
use Rattle.expansion.specs.Choices.{skolem_term}
use Rattle.normal_form.specs.Occurrence.{in_formula}
use Rattle.skolem_order.specs.Order.{is_existential}
use Rattle.skolem_order.specs.Origins.{args_of, origin_of_term, spot_of, universals_by}
use Rattle.skolem_order.specs.Spots.{Spot}
use Rattle.skolem_order.specs.declared.origins.Origin.{Origin}
use Rattle.skolem_order.specs.declared.sites.Site.{Site}
use Rattle.skolem_order.specs.declared.walk.Around.{Around}
use Rattle.skolem_order.specs.declared.walk.Around.TheVariants.{Existential, Universal, Vacant}

-- the numbers of the existentials around whose variables occur in the formula; the first has the variable k
abbrev pub outer_in : Formula → ℕ → List Around → List ℕ
outer_in f k [] = []
outer_in f k (Universal n ∷ around) = outer_in f (suc k) around
outer_in f k (Existential e ∷ around) = cond (in_formula f k) (e ∷ outer_in f (suc k) around) (outer_in f (suc k) around)
outer_in f k (Vacant ∷ around) = outer_in f (suc k) around

abbrev pub site_at : Option Spot → Site
site_at None = record { rank = 0; outer = [] }
site_at (Some x) = record { rank = count_by is_existential x.around; outer = outer_in x.formula 0 x.around }

-- the Skolem terms of the existentials around the origin that are free in it
abbrev pub outer_terms : Option Origin → List Term → List Term
outer_terms None args = []
outer_terms (Some origin) args = map (skolem_term (universals_by origin args) origin.map.entries) (site_at (spot_of origin)).outer

abbrev pub terms_outside : List Origin → Term → List Term
terms_outside origins t = outer_terms (origin_of_term origins t) (args_of t)
