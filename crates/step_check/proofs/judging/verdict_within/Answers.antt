use Rattle.step_check.proofs.Entry.{leaf_within}
use Rattle.step_check.proofs.LinkLaws.{step_stands}
use Rattle.step_check.proofs.OneRepresentative.{some_or_none}
use Rattle.step_check.specs.Notes.{case_given}
use Rattle.step_check.specs.Steps.{step_in}
use Rattle.step_check.specs.Verdicts as is
use Rattle.step_check.proofs.judging.verdict_within.Goals as goal

pub unreachable-requires : goal.unreachable-requires
unreachable-requires c =
    let case = case_given c.args.given.now in let there = step_stands case c.args.number c.requires.sound c.requires.stands in
    some_or_none (step_in case.steps c.args.number) there.0 there.1 c.in-None.ensures

pub returns-in-Leaf : goal.returns-in-Leaf
returns-in-Leaf c =
    let case = case_given c.args.given.now in let step = c.in-Some.step.now in
    is.of_leaf c.args.number step c.in-Leaf.name c.leaf_verdict.result
    (leaf_within case c.args.number c.in-Leaf.name (step, c.in-Some.ensures, c.in-Leaf.is) c.requires.within) c.in-Some.ensures c.in-Leaf.is c.leaf_verdict.ensures
