use Rattle.plan.proofs.MapAnswers.{fit_above, map_with_own, none_with}
use Rattle.plan.specs.Known.{case_given, judged_given}
use Rattle.plan.proofs.maps.map_with.Goals as goal

pub returns-in-None : goal.returns-in-None
returns-in-None c = none_with (judged_given c.args.given.now) c.args.number c.args.own.now c.requires.own c.in-None.ensures

pub joined_map-requires : goal.joined_map-requires
joined_map-requires c =
    let given = c.args.given.now in let right = c.requires.right in
    fit_above (case_given right.0 given) given.verdicts.now right.1 c.args.number c.in-Some.above.now c.in-Some.ensures

pub returns-in_ok-map-in-Some : goal.returns-in_ok-map-in-Some
returns-in_ok-map-in-Some c =
    let given = c.args.given.now in let right = c.requires.right in
    map_with_own (case_given right.0 given) given.verdicts.now right.1 c.args.number c.args.own.now c.in-Some.above.now c.in_ok-map-in-Some.map c.requires.own c.in-Some.ensures c.in_ok-map-in-Some.ensures
