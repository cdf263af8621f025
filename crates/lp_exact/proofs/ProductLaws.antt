-- Products along a right spine, from their end.
use Rattle.std.proofs.Common.{◌≡◌, List, [], ◌∷◌, ◌++◌, refl, ap}
use Rattle.lp_term.specs.LambdaPi.{Term, pi}
use Rattle.lp_term.specs.View.{term_of}
use Rattle.lp_term.specs.declared.lp.Lp.{Lp}
use Rattle.lp_exact.specs.Products.{products}

pub products_last : (l : List Lp) (d : Lp) (t : Term) → products (l ++ (d ∷ [])) t ≡ products l (pi (term_of d) t)
products_last [] d t = refl
products_last (a ∷ l) d t = ap (pi (term_of a)) (products_last l d t)
