use Rattle.std.proofs.Common.{◌∙◌, sym, subst}
use Rattle.std.proofs.lemmas.Result.{IfOk-weaker}
use Rattle.plan.proofs.TreeAnswers.{fit_map, no_form, other_tree}
use Rattle.plan.proofs.thins.form_tree.Goals as goal
use Rattle.plan.specs.Known.{HasFitLeaf, IsLeafForm}
use Rattle.plan.specs.Thins.{IsThinAnswer}
use Rattle.plan.specs.Trees.{case_in, IsTreeAnswer, judged_from}

pub returns-then-instance-ne0-clause-answer : goal.returns-then-instance-ne0-clause-answer
returns-then-instance-ne0-clause-answer c =
    no_form (judged_from c.args.sources.now) c.args.instance.now c.args.verdict.now c.requires.here c.requires.other c.if-instance-ne0.true

pub returns-clause-answer : goal.returns-clause-answer
returns-clause-answer c =
    let sources = c.args.sources.now in
    let it = c.args.instance.now in
    let list = c.in-Some.list.now in
    let known = c.in_ok-note_list.ensures it.step list c.in-Some.ensures in
    IfOk-weaker c.tree_at.result (IsTreeAnswer c.as_slice-rows.result.now c.in_ok-leaf.leaf c.args.it.now it.clause it.terms) (IsThinAnswer (judged_from sources) it)
    (λ answer found. other_tree (case_in sources) sources.verdicts.now.list c.requires.sources.right it c.args.it.now c.args.verdict.now c.requires.map c.requires.here
    c.requires.other c.if-instance-ne0.false c.in_ok-leaf.leaf (subst (λ steps. IsLeafForm steps c.args.it.now c.in_ok-leaf.leaf) c.as_slice-steps.ensures c.in_ok-leaf.ensures) known.0 known.1 answer
    (subst (λ rows. IsTreeAnswer rows c.in_ok-leaf.leaf c.args.it.now it.clause it.terms answer) (c.as_slice-rows.ensures ∙ known.2) found))
    c.tree_at.ensures

pub leaf_form-requires : goal.leaf_form-requires
leaf_form-requires c =
    let sources = c.args.sources.now in
    subst (λ steps. HasFitLeaf steps c.args.it.now) (sym c.as_slice-steps.ensures)
    (fit_map (case_in sources) sources.verdicts.now.list c.requires.sources.right c.args.instance.now.step c.args.it.now c.requires.map)
