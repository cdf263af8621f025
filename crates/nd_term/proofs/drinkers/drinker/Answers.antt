use Rattle.std.proofs.Common.{Bool, true, false, sym, subst}
use Rattle.std.specs.Prelude.{List}
use Rattle.lp_term.specs.LambdaPi.{Term}
use Rattle.lp_term.specs.Signature.{Extends}
use Rattle.lp_term.specs.Typing.{Declaration, HasType}
use Rattle.nd_term.specs.Drinkers.{drinker, negative_drinker, negative_drinker_type, positive_drinker, positive_drinker_type}
use Rattle.nd_term.proofs.DrinkerTypes.{negative_drinker_types, positive_drinker_types}
use Rattle.nd_term.proofs.Results.{ok_map}
use Rattle.nd_term.proofs.drinkers.drinker.Goals as goal

of_sign_types : (sig : List Declaration) (g : List Term) → Extends sig → (sign : Bool)
    → HasType sig g (drinker sign positive_drinker negative_drinker) (drinker sign positive_drinker_type negative_drinker_type)
of_sign_types sig g e true = positive_drinker_types sig e g
of_sign_types sig g e false = negative_drinker_types sig e g

pub returns-clause-typed : goal.returns-clause-typed
returns-clause-typed c = λ sig g e.
    ok_map c.of_sign.result
    (λ t eq. subst (λ y. HasType sig g y (drinker c.args.sign positive_drinker_type negative_drinker_type)) (sym eq) (of_sign_types sig g e c.args.sign))
    c.of_sign.ensures
