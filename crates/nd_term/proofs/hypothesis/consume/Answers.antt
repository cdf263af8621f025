use Rattle.std.proofs.Common.{ℕ, sym, subst}
use Rattle.lp_term.specs.Connectives.{bot, individuals, proof_of}
use Rattle.lp_term.specs.Typing.{HasType}
use Rattle.lp_term.proofs.QuantifierRules.{any_declared}
use Rattle.nd_term.specs.Formulas.{unassigned}
use Rattle.nd_term.specs.Places.{at_level, eigenvariables, last_variables, witnesses}
use Rattle.nd_term.specs.Symbols.{over_ground_symbol}
use Rattle.nd_term.specs.ThinReading.{tree_at}
use Rattle.nd_term.specs.TreeKinds.{leaves}
use Rattle.nd_term.specs.Views.{theory_formula}
use Rattle.nd_term.proofs.ConsumerTypes.{consumer_types}
use Rattle.nd_term.proofs.Results.{ok_map}
use Rattle.nd_term.proofs.hypothesis.consume.Goals as goal

pub returns-clause-typed : goal.returns-clause-typed
returns-clause-typed c = λ sig es g d e i o b k h.
    let place = c.args.place.now in
    let tree = tree_at (theory_formula c.args.f.now) c.args.thin.now place in
    ok_map c.consumed_at.result
    (λ t eq. subst (λ y. HasType sig g y (proof_of bot)) (sym eq)
    (consumer_types sig e (eigenvariables place) (witnesses place) (last_variables (leaves tree)) (at_level place.level c.args.base) i o (λ n. over_ground_symbol 0 (any_declared sig e)) b k h))
    c.consumed_at.ensures
