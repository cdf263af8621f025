use Rattle.std.proofs.Common.{◌≡◌, ◌<◌, true, arith}
use Rattle.lp_term.specs.View.{term_of}
use Rattle.nd_term.specs.Spots.{frame_of}
use Rattle.nd_term.specs.TreeKinds.{is_leaf}
use Rattle.nd_term.specs.Trees.{tree_of}
use Rattle.nd_term.proofs.EndSteps.{asserted_answer, denied_answer}
use Rattle.nd_term.proofs.Results.{ok_map}
use Rattle.nd_term.proofs.ends.consume_atom.Goals as goal

pub returns-then-positive : goal.returns-then-positive
returns-then-positive c =
    let at_leaf : is_leaf (tree_of c.args.tree.now) ≡ true = cc in
    let some : 0 < c.args.spot.now.left = omega arith in
    ok_map c.apply.result
    (λ r e. asserted_answer (frame_of c.args.spot.now) c.args.predicate.now c.args.args.now c.args.positive (tree_of c.args.tree.now) c.args.spot.now.left (term_of c.args.t) _ (term_of r) c.if-positive.true at_leaf some c.in_ok-literal.ensures e)
    c.apply.ensures

pub returns-else-positive : goal.returns-else-positive
returns-else-positive c =
    let at_leaf : is_leaf (tree_of c.args.tree.now) ≡ true = cc in
    let some : 0 < c.args.spot.now.left = omega arith in
    ok_map c.apply-else-positive.result
    (λ r e. denied_answer (frame_of c.args.spot.now) c.args.predicate.now c.args.args.now c.args.positive (tree_of c.args.tree.now) c.args.spot.now.left (term_of c.args.t) _ (term_of r) c.if-positive.false at_leaf some c.in_ok-literal.ensures e)
    c.apply-else-positive.ensures
