-- What stands outside an origin, and the formula there, as the code has them.
use Rattle.std.proofs.Common.{◌≡◌, List, map, Some, sym, ap, ap₂, ◌∙◌, rules}
use Rattle.dk_syntax.specs.declared.Formula.{Formula}
use Rattle.dk_syntax.specs.declared.SymKey.{SymKey}
use Rattle.dk_syntax.specs.declared.Term.{App, Term, the_lemmas as of_terms}
use Rattle.expansion.specs.Choices.{skolem_term}
use Rattle.expansion.specs.Rows.{term_at}
use Rattle.skolem_order.proofs.PartLaws.{args-App}
use Rattle.skolem_order.specs.Origins.{formula_at, formula_from, origin_for, origin_formula, origin_of_term, put_in, signed, spot_of, universals_by, value}
use Rattle.skolem_order.specs.Sites.{outer_terms, site_at, terms_outside}
use Rattle.skolem_order.specs.Spots.{Spot}
use Rattle.skolem_order.specs.declared.origins.Origin.{Origin}

origin_App : (os : List Origin) (f : SymKey) (args : List Term) → origin_of_term os (App f args) ≡ origin_for os f
origin_App os f args = search (rules, of_terms)

pub outside_at : (os : List Origin) (f : SymKey) (args : List Term) (t : Term) (origin : Origin) → t ≡ App f args → origin_for os f ≡ Some origin
    → terms_outside os t ≡ map (skolem_term (universals_by origin args) origin.map.entries) (site_at (spot_of origin)).outer
outside_at os f args t origin e h = ap (terms_outside os) e ∙ ap₂ outer_terms (origin_App os f args ∙ h) (args-App f args)

pub formula_is : (origin : Origin) (args : List Term) (x : Spot) (terms : List Term) (put : Formula) → spot_of origin ≡ Some x
    → terms ≡ map (value (universals_by origin args) origin.map.entries) x.around → put ≡ put_in (term_at terms) x.formula 0
    → signed x.positive put ≡ formula_at origin args (spot_of origin)
formula_is origin args x terms put e h k =
    ap (signed x.positive) (k ∙ ap (λ l. put_in (term_at l) x.formula 0) h) ∙ sym (ap (formula_at origin args) e)

pub origin_is : (os : List Origin) (f : SymKey) (args : List Term) (t : Term) (origin : Origin) → t ≡ App f args → origin_for os f ≡ Some origin
    → origin_formula os t ≡ formula_at origin args (spot_of origin)
origin_is os f args t origin e h = ap (origin_formula os) e ∙ ap₂ formula_from (args-App f args) (origin_App os f args ∙ h)
