use Rattle.lp_exact.proofs.ConfluenceLaws.{pi_injective}
use Rattle.lp_exact.proofs.laws.products_are_injective.Goals as goal

pub returns : goal.returns
returns c = λ a b a' b' h. pi_injective h
