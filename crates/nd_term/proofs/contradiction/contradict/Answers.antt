use Rattle.std.proofs.Common.{sym, subst}
use Rattle.lp_term.specs.Connectives.{proof_of}
use Rattle.lp_term.specs.Typing.{HasType}
use Rattle.lp_term.specs.View.{term_of}
use Rattle.lp_term.proofs.ConnectiveRules.{contradict_types}
use Rattle.nd_term.proofs.Results.{ok_map}
use Rattle.nd_term.proofs.contradiction.contradict.Goals as goal

pub returns-clause-typed : goal.returns-clause-typed
returns-clause-typed c = λ sig g e h k.
    ok_map c.by_excluded_middle.result (λ t eq. subst (λ y. HasType sig g y (proof_of (term_of c.args.conjecture.now))) (sym eq) (contradict_types sig e h k))
    c.by_excluded_middle.ensures
