use Rattle.std.proofs.Common.{refl, subst}
use Rattle.ground_instances.specs.Keys.{Has}
use Rattle.plan.proofs.MapAnswers.{leaf_map_is, no_map}
use Rattle.plan.specs.Known.{case_given, judged_given}
use Rattle.step_check.specs.declared.verdict.Verdict.{Verdict}
use Rattle.step_check.specs.declared.verdict.Verdict.TheVariants.{Chained, Clausal, Conjecture, Leaf, Over, Wrong}
use Rattle.plan.proofs.maps.map_by.Goals as goal

pub returns-in-Leaf : goal.returns-in-Leaf
returns-in-Leaf c =
    let given = c.args.given.now in let right = c.requires.right in
    let has : Has (judged_given given) c.args.number Leaf = subst (λ (v : Verdict). Has (judged_given given) c.args.number v) c.in-Leaf.is c.requires.here in
    leaf_map_is (case_given right.0 given) given.verdicts.now right.1 c.args.number Leaf c.leaf_map.result has tt c.leaf_map.ensures

pub returns-in-Conjecture : goal.returns-in-Conjecture
returns-in-Conjecture c =
    let given = c.args.given.now in let right = c.requires.right in
    let has : Has (judged_given given) c.args.number Conjecture = subst (λ (v : Verdict). Has (judged_given given) c.args.number v) c.in-Conjecture.is c.requires.here in
    leaf_map_is (case_given right.0 given) given.verdicts.now right.1 c.args.number Conjecture c.leaf_map-in-Conjecture.result has tt c.leaf_map-in-Conjecture.ensures

pub returns-in-Clausal : goal.returns-in-Clausal
returns-in-Clausal c =
    no_map (judged_given c.args.given.now) c.args.number (Clausal c.in-Clausal.field-0) (subst (λ (v : Verdict). Has (judged_given c.args.given.now) c.args.number v) c.in-Clausal.is c.requires.here) tt (λ h. h) refl

pub returns-in-Chained : goal.returns-in-Chained
returns-in-Chained c =
    no_map (judged_given c.args.given.now) c.args.number (Chained c.in-Chained.field-0) (subst (λ (v : Verdict). Has (judged_given c.args.given.now) c.args.number v) c.in-Chained.is c.requires.here) tt (λ h. h) refl

pub returns-in-Wrong : goal.returns-in-Wrong
returns-in-Wrong c =
    no_map (judged_given c.args.given.now) c.args.number (Wrong c.in-Wrong.field-0) (subst (λ (v : Verdict). Has (judged_given c.args.given.now) c.args.number v) c.in-Wrong.is c.requires.here) tt (λ h. h) refl

pub returns-in-Over : goal.returns-in-Over
returns-in-Over c =
    no_map (judged_given c.args.given.now) c.args.number (Over c.in-Over.field-0) (subst (λ (v : Verdict). Has (judged_given c.args.given.now) c.args.number v) c.in-Over.is c.requires.here) tt (λ h. h) refl
