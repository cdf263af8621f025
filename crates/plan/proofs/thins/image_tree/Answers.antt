use Rattle.std.proofs.Common.{sym, subst}
use Rattle.std.proofs.lemmas.Result.{IfOk-weaker}
use Rattle.plan.proofs.TreeAnswers.{composed_tree, fit_map, no_image}
use Rattle.plan.proofs.thins.image_tree.Goals as goal
use Rattle.plan.specs.Known.{HasFitLeaf, IsLeafForm}
use Rattle.plan.specs.Thins.{IsThinAnswer}
use Rattle.plan.specs.Trees.{case_in, IsTreeAnswer, judged_from}

pub returns-then-instance-ne1 : goal.returns-then-instance-ne1
returns-then-instance-ne1 c = no_image (judged_from c.args.sources.now) c.args.instance.now c.args.composed.now c.requires.here c.if-instance-ne1.true

pub returns : goal.returns
returns c =
    let sources = c.args.sources.now in
    let it = c.args.instance.now in
    let composed = c.args.composed.now in
    IfOk-weaker c.tree_at.result (IsTreeAnswer c.as_slice-rows.result.now c.in_ok-leaf.leaf c.args.it.now it.clause it.terms) (IsThinAnswer (judged_from sources) it)
    (λ answer found. composed_tree (judged_from sources) it c.args.it.now composed c.requires.map c.requires.here c.if-instance-ne1.false c.in_ok-leaf.leaf
    (subst (λ steps. IsLeafForm steps c.args.it.now c.in_ok-leaf.leaf) c.as_slice-steps.ensures c.in_ok-leaf.ensures) answer
    (subst (λ rows. IsTreeAnswer rows c.in_ok-leaf.leaf c.args.it.now it.clause it.terms answer) c.as_slice-rows.ensures found))
    c.tree_at.ensures

pub leaf_form-requires : goal.leaf_form-requires
leaf_form-requires c =
    let sources = c.args.sources.now in
    subst (λ steps. HasFitLeaf steps c.args.it.now) (sym c.as_slice-steps.ensures)
    (fit_map (case_in sources) sources.verdicts.now.list c.requires.sources.right c.args.instance.now.step c.args.it.now c.requires.map)
