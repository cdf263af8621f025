use Rattle.std.proofs.Common.{◌≡◌, true, false, refl, sym, ap, ◌∙◌}
use Rattle.dk_syntax.specs.declared.Formula.{Formula}
use Rattle.lp_term.specs.View.{term_of}
use Rattle.nd_term.specs.Formulas.{conjunction, disjunction, equivalence, existential, falsity, implication, negation, truth, universal}
use Rattle.nd_term.specs.Frames.{consumed}
use Rattle.nd_term.specs.Spots.{frame_of}
use Rattle.nd_term.specs.TreeKinds.{is_both}
use Rattle.nd_term.specs.Trees.{tree_of}
use Rattle.nd_term.specs.Views.{theory_formula}
use Rattle.nd_term.proofs.ConsumerArms.{all_chosen, all_vacuous, all_witnessed, and_denied, and_left, and_right, at_formula, ex_chosen, ex_vacuous, ex_witnessed, iff_either, iff_left, iff_neither, iff_right, imp_asserted, imp_left, imp_right, not_asserted, not_denied, or_asserted, or_left, or_right}
use Rattle.nd_term.proofs.ConsumerSteps.{consumes_falsity, stray_all, stray_and, stray_denied_all, stray_denied_and, stray_denied_ex, stray_denied_iff, stray_denied_iff_side, stray_denied_imp, stray_denied_or, stray_ex, stray_iff, stray_iff_side, stray_imp, stray_negation, stray_or}
use Rattle.nd_term.proofs.FormulaViews.{theory-False, theory-True}
use Rattle.nd_term.proofs.PartViews.{all_parts, and_parts, ex_parts, iff_parts, imp_parts, not_parts, or_parts}
use Rattle.nd_term.proofs.Results.{ok_map}
use Rattle.nd_term.proofs.TreeSteps.{no_both, no_choice, no_not, no_side, no_witness, tree-Left, tree-Right}
use Rattle.nd_term.proofs.consumer.+consume.Goals as goal

pub consume-returns-in-True : goal.consume-returns-in-True
consume-returns-in-True t c = ok_map c.consume_truth.result (λ r e. at_formula (frame_of c.args.spot.now) c.args.f.now truth c.args.positive c.args.positive (tree_of c.args.tree.now) c.args.spot.now.left (term_of c.args.t) (term_of r) (ap theory_formula c.in-True.is ∙ theory-True) refl e) c.consume_truth.ensures

pub consume-returns-in-False : goal.consume-returns-in-False
consume-returns-in-False t c = at_formula (frame_of c.args.spot.now) c.args.f.now falsity c.args.positive c.args.positive (tree_of c.args.tree.now) c.args.spot.now.left (term_of c.args.t) (term_of c.args.t) (ap theory_formula c.in-False.is ∙ theory-False) refl (sym (consumes_falsity (frame_of c.args.spot.now) c.args.positive (tree_of c.args.tree.now) c.args.spot.now.left (term_of c.args.t)))

pub consume-returns-in-Atom : goal.consume-returns-in-Atom
consume-returns-in-Atom t c = ok_map c.consume_atom.result (λ r e. e ∙ ap (λ g. consumed (frame_of c.args.spot.now) (theory_formula g) c.args.positive (tree_of c.args.tree.now) c.args.spot.now.left (term_of c.args.t)) (sym c.in-Atom.is)) c.consume_atom.ensures

pub consume-returns-in-Not : goal.consume-returns-in-Not
consume-returns-in-Not t c = ok_map c.consume_not.result (λ r e. at_formula (frame_of c.args.spot.now) c.args.f.now (negation (theory_formula c.get.result.now)) c.args.positive c.args.positive (tree_of c.args.tree.now) c.args.spot.now.left (term_of c.args.t) (term_of r) (not_parts c.args.f.now _ c.get.result.now c.in-Not.is c.get.ensures) refl e) c.consume_not.ensures

pub consume-returns-in-And : goal.consume-returns-in-And
consume-returns-in-And t c = ok_map c.consume_and.result (λ r e. at_formula (frame_of c.args.spot.now) c.args.f.now (conjunction (theory_formula c.get-in-And.result.now) (theory_formula c.get-in-And-2.result.now)) c.args.positive c.args.positive (tree_of c.args.tree.now) c.args.spot.now.left (term_of c.args.t) (term_of r) (and_parts c.args.f.now _ _ c.get-in-And.result.now c.get-in-And-2.result.now c.in-And.is c.get-in-And.ensures c.get-in-And-2.ensures) refl e) c.consume_and.ensures

pub consume-returns-in-Or : goal.consume-returns-in-Or
consume-returns-in-Or t c = ok_map c.consume_or.result (λ r e. at_formula (frame_of c.args.spot.now) c.args.f.now (disjunction (theory_formula c.get-in-Or.result.now) (theory_formula c.get-in-Or-2.result.now)) c.args.positive c.args.positive (tree_of c.args.tree.now) c.args.spot.now.left (term_of c.args.t) (term_of r) (or_parts c.args.f.now _ _ c.get-in-Or.result.now c.get-in-Or-2.result.now c.in-Or.is c.get-in-Or.ensures c.get-in-Or-2.ensures) refl e) c.consume_or.ensures

pub consume-returns-in-Imp : goal.consume-returns-in-Imp
consume-returns-in-Imp t c = ok_map c.consume_imp.result (λ r e. at_formula (frame_of c.args.spot.now) c.args.f.now (implication (theory_formula c.get-in-Imp.result.now) (theory_formula c.get-in-Imp-2.result.now)) c.args.positive c.args.positive (tree_of c.args.tree.now) c.args.spot.now.left (term_of c.args.t) (term_of r) (imp_parts c.args.f.now _ _ c.get-in-Imp.result.now c.get-in-Imp-2.result.now c.in-Imp.is c.get-in-Imp.ensures c.get-in-Imp-2.ensures) refl e) c.consume_imp.ensures

pub consume-returns-then-positive : goal.consume-returns-then-positive
consume-returns-then-positive t c = ok_map c.consume_iff.result (λ r e. at_formula (frame_of c.args.spot.now) c.args.f.now (equivalence (theory_formula c.get-then-positive.result.now) (theory_formula c.get-then-positive-2.result.now)) c.args.positive true (tree_of c.args.tree.now) c.args.spot.now.left (term_of c.args.t) (term_of r) (iff_parts c.args.f.now _ _ c.get-then-positive.result.now c.get-then-positive-2.result.now c.in-Iff.is c.get-then-positive.ensures c.get-then-positive-2.ensures) c.if-positive.true e) c.consume_iff.ensures

pub consume-returns-else-positive : goal.consume-returns-else-positive
consume-returns-else-positive t c = ok_map c.consume_denied_iff.result (λ r e. at_formula (frame_of c.args.spot.now) c.args.f.now (equivalence (theory_formula c.get-in-Iff.result.now) (theory_formula c.get-in-Iff-2.result.now)) c.args.positive false (tree_of c.args.tree.now) c.args.spot.now.left (term_of c.args.t) (term_of r) (iff_parts c.args.f.now _ _ c.get-in-Iff.result.now c.get-in-Iff-2.result.now c.in-Iff.is c.get-in-Iff.ensures c.get-in-Iff-2.ensures) c.if-positive.false e) c.consume_denied_iff.ensures

pub consume-returns-in-All : goal.consume-returns-in-All
consume-returns-in-All t c = ok_map c.consume_all.result (λ r e. at_formula (frame_of c.args.spot.now) c.args.f.now (universal (theory_formula c.get-in-All.result.now)) c.args.positive c.args.positive (tree_of c.args.tree.now) c.args.spot.now.left (term_of c.args.t) (term_of r) (all_parts c.args.f.now _ c.get-in-All.result.now c.in-All.is c.get-in-All.ensures) refl e) c.consume_all.ensures

pub consume-returns-in-Ex : goal.consume-returns-in-Ex
consume-returns-in-Ex t c = ok_map c.consume_ex.result (λ r e. at_formula (frame_of c.args.spot.now) c.args.f.now (existential (theory_formula c.get-in-Ex.result.now)) c.args.positive c.args.positive (tree_of c.args.tree.now) c.args.spot.now.left (term_of c.args.t) (term_of r) (ex_parts c.args.f.now _ c.get-in-Ex.result.now c.in-Ex.is c.get-in-Ex.ensures) refl e) c.consume_ex.ensures

pub consume_not-returns-in_default : goal.consume_not-returns-in_default
consume_not-returns-in_default t c = sym (stray_negation (frame_of c.args.spot.now) (theory_formula c.args.a.now) c.args.positive (tree_of c.args.tree.now) c.args.spot.now.left (term_of c.args.t) (no_not c.args.tree.now c.in_default.not-BelowNot))

pub consume_and-returns-in_default : goal.consume_and-returns-in_default
consume_and-returns-in_default t c = sym (ap (λ b. consumed (frame_of c.args.spot.now) (conjunction (theory_formula c.args.a.now) (theory_formula c.args.b.now)) b (tree_of c.args.tree.now) c.args.spot.now.left (term_of c.args.t)) c.if-not-positive.true ∙ stray_denied_and (frame_of c.args.spot.now) (theory_formula c.args.a.now) (theory_formula c.args.b.now) (tree_of c.args.tree.now) c.args.spot.now.left (term_of c.args.t) (no_both c.args.tree.now c.in_default.not-Both))

pub consume_and-returns-in_default-tree : goal.consume_and-returns-in_default-tree
consume_and-returns-in_default-tree t c = sym (ap (λ b. consumed (frame_of c.args.spot.now) (conjunction (theory_formula c.args.a.now) (theory_formula c.args.b.now)) b (tree_of c.args.tree.now) c.args.spot.now.left (term_of c.args.t)) c.if-not-positive.false ∙ stray_and (frame_of c.args.spot.now) (theory_formula c.args.a.now) (theory_formula c.args.b.now) (tree_of c.args.tree.now) c.args.spot.now.left (term_of c.args.t) (no_side c.args.tree.now c.in_default-tree.not-Left c.in_default-tree.not-Right))

pub consume_or-returns-in_default : goal.consume_or-returns-in_default
consume_or-returns-in_default t c = sym (ap (λ b. consumed (frame_of c.args.spot.now) (disjunction (theory_formula c.args.a.now) (theory_formula c.args.b.now)) b (tree_of c.args.tree.now) c.args.spot.now.left (term_of c.args.t)) c.if-positive.true ∙ stray_or (frame_of c.args.spot.now) (theory_formula c.args.a.now) (theory_formula c.args.b.now) (tree_of c.args.tree.now) c.args.spot.now.left (term_of c.args.t) (no_both c.args.tree.now c.in_default.not-Both))

pub consume_or-returns-in_default-tree : goal.consume_or-returns-in_default-tree
consume_or-returns-in_default-tree t c = sym (ap (λ b. consumed (frame_of c.args.spot.now) (disjunction (theory_formula c.args.a.now) (theory_formula c.args.b.now)) b (tree_of c.args.tree.now) c.args.spot.now.left (term_of c.args.t)) c.if-positive.false ∙ stray_denied_or (frame_of c.args.spot.now) (theory_formula c.args.a.now) (theory_formula c.args.b.now) (tree_of c.args.tree.now) c.args.spot.now.left (term_of c.args.t) (no_side c.args.tree.now c.in_default-tree.not-Left c.in_default-tree.not-Right))

pub consume_imp-returns-in_default : goal.consume_imp-returns-in_default
consume_imp-returns-in_default t c = sym (ap (λ b. consumed (frame_of c.args.spot.now) (implication (theory_formula c.args.a.now) (theory_formula c.args.b.now)) b (tree_of c.args.tree.now) c.args.spot.now.left (term_of c.args.t)) c.if-positive.true ∙ stray_imp (frame_of c.args.spot.now) (theory_formula c.args.a.now) (theory_formula c.args.b.now) (tree_of c.args.tree.now) c.args.spot.now.left (term_of c.args.t) (no_both c.args.tree.now c.in_default.not-Both))

pub consume_imp-returns-in_default-tree : goal.consume_imp-returns-in_default-tree
consume_imp-returns-in_default-tree t c = sym (ap (λ b. consumed (frame_of c.args.spot.now) (implication (theory_formula c.args.a.now) (theory_formula c.args.b.now)) b (tree_of c.args.tree.now) c.args.spot.now.left (term_of c.args.t)) c.if-positive.false ∙ stray_denied_imp (frame_of c.args.spot.now) (theory_formula c.args.a.now) (theory_formula c.args.b.now) (tree_of c.args.tree.now) c.args.spot.now.left (term_of c.args.t) (no_side c.args.tree.now c.in_default-tree.not-Left c.in_default-tree.not-Right))

pub consume_iff-returns-in_default : goal.consume_iff-returns-in_default
consume_iff-returns-in_default t c = sym (stray_iff (frame_of c.args.spot.now) (theory_formula c.args.a.now) (theory_formula c.args.b.now) (tree_of c.args.tree.now) c.args.spot.now.left (term_of c.args.t) (no_side c.args.tree.now c.in_default.not-Left c.in_default.not-Right))

pub consume_denied_iff-returns-in_default : goal.consume_denied_iff-returns-in_default
consume_denied_iff-returns-in_default t c = sym (stray_denied_iff (frame_of c.args.spot.now) (theory_formula c.args.a.now) (theory_formula c.args.b.now) (tree_of c.args.tree.now) c.args.spot.now.left (term_of c.args.t) (no_side c.args.tree.now c.in_default.not-Left c.in_default.not-Right))

pub consume_iff-returns-in_default-get : goal.consume_iff-returns-in_default-get
consume_iff-returns-in_default-get t c = sym (ap (λ y. consumed (frame_of c.args.spot.now) (equivalence (theory_formula c.args.a.now) (theory_formula c.args.b.now)) true y c.args.spot.now.left (term_of c.args.t)) (ap tree_of c.in-Left.is ∙ tree-Left _) ∙ stray_iff_side (frame_of c.args.spot.now) (theory_formula c.args.a.now) (theory_formula c.args.b.now) false _ c.args.spot.now.left (term_of c.args.t) (ap (λ y. is_both (tree_of y)) (sym c.get.ensures) ∙ no_both c.get.result.now c.in_default-get.not-Both))

pub consume_iff-returns-in_default-get-2 : goal.consume_iff-returns-in_default-get-2
consume_iff-returns-in_default-get-2 t c = sym (ap (λ y. consumed (frame_of c.args.spot.now) (equivalence (theory_formula c.args.a.now) (theory_formula c.args.b.now)) true y c.args.spot.now.left (term_of c.args.t)) (ap tree_of c.in-Right.is ∙ tree-Right _) ∙ stray_iff_side (frame_of c.args.spot.now) (theory_formula c.args.a.now) (theory_formula c.args.b.now) true _ c.args.spot.now.left (term_of c.args.t) (ap (λ y. is_both (tree_of y)) (sym c.get-in-Right.ensures) ∙ no_both c.get-in-Right.result.now c.in_default-get-2.not-Both))

pub consume_denied_iff-returns-in_default-get : goal.consume_denied_iff-returns-in_default-get
consume_denied_iff-returns-in_default-get t c = sym (ap (λ y. consumed (frame_of c.args.spot.now) (equivalence (theory_formula c.args.a.now) (theory_formula c.args.b.now)) false y c.args.spot.now.left (term_of c.args.t)) (ap tree_of c.in-Left.is ∙ tree-Left _) ∙ stray_denied_iff_side (frame_of c.args.spot.now) (theory_formula c.args.a.now) (theory_formula c.args.b.now) false _ c.args.spot.now.left (term_of c.args.t) (ap (λ y. is_both (tree_of y)) (sym c.get.ensures) ∙ no_both c.get.result.now c.in_default-get.not-Both))

pub consume_denied_iff-returns-in_default-get-2 : goal.consume_denied_iff-returns-in_default-get-2
consume_denied_iff-returns-in_default-get-2 t c = sym (ap (λ y. consumed (frame_of c.args.spot.now) (equivalence (theory_formula c.args.a.now) (theory_formula c.args.b.now)) false y c.args.spot.now.left (term_of c.args.t)) (ap tree_of c.in-Right.is ∙ tree-Right _) ∙ stray_denied_iff_side (frame_of c.args.spot.now) (theory_formula c.args.a.now) (theory_formula c.args.b.now) true _ c.args.spot.now.left (term_of c.args.t) (ap (λ y. is_both (tree_of y)) (sym c.get-in-Right.ensures) ∙ no_both c.get-in-Right.result.now c.in_default-get-2.not-Both))

pub consume_all-returns-in_default : goal.consume_all-returns-in_default
consume_all-returns-in_default t c = sym (ap (λ b. consumed (frame_of c.args.spot.now) (universal (theory_formula c.args.a.now)) b (tree_of c.args.tree.now) c.args.spot.now.left (term_of c.args.t)) c.if-positive.true ∙ stray_all (frame_of c.args.spot.now) (theory_formula c.args.a.now) (tree_of c.args.tree.now) c.args.spot.now.left (term_of c.args.t) (no_choice c.args.tree.now c.in_default.not-Choice))

pub consume_all-returns-in_default-tree : goal.consume_all-returns-in_default-tree
consume_all-returns-in_default-tree t c = sym (ap (λ b. consumed (frame_of c.args.spot.now) (universal (theory_formula c.args.a.now)) b (tree_of c.args.tree.now) c.args.spot.now.left (term_of c.args.t)) c.if-positive.false ∙ stray_denied_all (frame_of c.args.spot.now) (theory_formula c.args.a.now) (tree_of c.args.tree.now) c.args.spot.now.left (term_of c.args.t) (no_witness c.args.tree.now c.in_default-tree.not-Eigenvariable c.in_default-tree.not-Vacuous))

pub consume_ex-returns-in_default : goal.consume_ex-returns-in_default
consume_ex-returns-in_default t c = sym (ap (λ b. consumed (frame_of c.args.spot.now) (existential (theory_formula c.args.a.now)) b (tree_of c.args.tree.now) c.args.spot.now.left (term_of c.args.t)) c.if-not-positive.true ∙ stray_denied_ex (frame_of c.args.spot.now) (theory_formula c.args.a.now) (tree_of c.args.tree.now) c.args.spot.now.left (term_of c.args.t) (no_choice c.args.tree.now c.in_default.not-Choice))

pub consume_ex-returns-in_default-tree : goal.consume_ex-returns-in_default-tree
consume_ex-returns-in_default-tree t c = sym (ap (λ b. consumed (frame_of c.args.spot.now) (existential (theory_formula c.args.a.now)) b (tree_of c.args.tree.now) c.args.spot.now.left (term_of c.args.t)) c.if-not-positive.false ∙ stray_ex (frame_of c.args.spot.now) (theory_formula c.args.a.now) (tree_of c.args.tree.now) c.args.spot.now.left (term_of c.args.t) (no_witness c.args.tree.now c.in_default-tree.not-Eigenvariable c.in_default-tree.not-Vacuous))

pub consume_not-returns-then-positive : goal.consume_not-returns-then-positive
consume_not-returns-then-positive t c = ok_map c.consume.result (λ r e. not_asserted (frame_of c.args.spot.now) (theory_formula c.args.a.now) _ _ _ _ _ _ _ c.if-positive.true c.in-BelowNot.is c.get.ensures e) c.consume.ensures

pub consume_not-returns : goal.consume_not-returns
consume_not-returns t c = ok_map c.apply.result (λ r e. not_denied (frame_of c.args.spot.now) (theory_formula c.args.a.now) _ _ _ _ _ _ _ _ _ _ _ _ c.if-positive.false c.in-BelowNot.is c.get-2.ensures c.in_ok-inside.ensures.frame c.in_ok-inside.ensures.left c.variable.ensures c.in_ok-inner.ensures c.in_ok-assuming.ensures e) c.apply.ensures

pub consume_and-returns-then-not-positive : goal.consume_and-returns-then-not-positive
consume_and-returns-then-not-positive t c = ok_map c.consume_nested.result (λ r e. and_denied (frame_of c.args.spot.now) (theory_formula c.args.a.now) (theory_formula c.args.b.now) _ _ _ _ _ _ _ _ _ _ c.if-not-positive.true c.in-Both.is c.get.ensures c.get-then-not-positive.ensures c.in_ok-denied.ensures e) c.consume_nested.ensures

pub consume_and-returns-in_ok-both-in-Left : goal.consume_and-returns-in_ok-both-in-Left
consume_and-returns-in_ok-both-in-Left t c = ok_map c.used_for_falsity.result (λ r e. and_left (frame_of c.args.spot.now) (theory_formula c.args.a.now) (theory_formula c.args.b.now) _ _ _ _ _ _ _ _ _ _ _ _ c.if-not-positive.false c.in-Left.is c.get-in-Left.ensures c.in_ok-inside.ensures.frame c.in_ok-inside.ensures.left c.variable.ensures c.in_ok-inner-in-Left.ensures c.in_ok-both-in-Left.ensures e) c.used_for_falsity.ensures

pub consume_and-returns-in_ok-both-in-Right : goal.consume_and-returns-in_ok-both-in-Right
consume_and-returns-in_ok-both-in-Right t c = ok_map c.used_for_falsity-in-Right.result (λ r e. and_right (frame_of c.args.spot.now) (theory_formula c.args.a.now) (theory_formula c.args.b.now) _ _ _ _ _ _ _ _ _ _ _ _ c.if-not-positive.false c.in-Right.is c.get-in-Right.ensures c.in_ok-inside.ensures.frame c.in_ok-inside.ensures.left c.variable-in-Right.ensures c.in_ok-inner-in-Right.ensures c.in_ok-both-in-Right.ensures e) c.used_for_falsity-in-Right.ensures

pub consume_or-returns-then-positive : goal.consume_or-returns-then-positive
consume_or-returns-then-positive t c = ok_map c.by_cases.result (λ r e. or_asserted (frame_of c.args.spot.now) (theory_formula c.args.a.now) (theory_formula c.args.b.now) _ _ _ _ _ _ _ _ _ _ _ _ _ _ _ _ _ _ _ c.if-positive.true c.in-Both.is c.get.ensures c.get-then-positive-2.ensures c.get-then-positive.ensures c.in_ok-inside.ensures.frame c.in_ok-inside.ensures.left c.variable.ensures c.in_ok-left.ensures c.in_ok-leaves.ensures c.after-after.ensures.frame c.after-after.ensures.left c.variable-then-positive.ensures c.in_ok-right.ensures e) c.by_cases.ensures

pub consume_or-returns-in_ok-denied-in-Left : goal.consume_or-returns-in_ok-denied-in-Left
consume_or-returns-in_ok-denied-in-Left t c = ok_map c.consume-in-Left.result (λ r e. or_left (frame_of c.args.spot.now) (theory_formula c.args.a.now) (theory_formula c.args.b.now) _ _ _ _ _ _ _ _ c.if-positive.false c.in-Left.is c.get-in-Left.ensures c.in_ok-denied-in-Left.ensures e) c.consume-in-Left.ensures

pub consume_or-returns-in_ok-denied-in-Right : goal.consume_or-returns-in_ok-denied-in-Right
consume_or-returns-in_ok-denied-in-Right t c = ok_map c.consume-in-Right.result (λ r e. or_right (frame_of c.args.spot.now) (theory_formula c.args.a.now) (theory_formula c.args.b.now) _ _ _ _ _ _ _ _ c.if-positive.false c.in-Right.is c.get-in-Right.ensures c.in_ok-denied-in-Right.ensures e) c.consume-in-Right.ensures

pub consume_imp-returns-then-positive : goal.consume_imp-returns-then-positive
consume_imp-returns-then-positive t c = ok_map c.consume_nested.result (λ r e. imp_asserted (frame_of c.args.spot.now) (theory_formula c.args.a.now) (theory_formula c.args.b.now) _ _ _ _ _ _ _ _ _ _ _ _ c.if-positive.true c.in-Both.is c.get.ensures c.get-then-positive.ensures c.in_ok-deeper.ensures c.variable.ensures c.in_ok-used.ensures e) c.consume_nested.ensures

pub consume_imp-returns-in_ok-contradicted-in-Left : goal.consume_imp-returns-in_ok-contradicted-in-Left
consume_imp-returns-in_ok-contradicted-in-Left t c = ok_map c.apply-in-Left.result (λ r e. imp_left (frame_of c.args.spot.now) (theory_formula c.args.a.now) (theory_formula c.args.b.now) _ _ _ _ _ _ _ _ _ _ _ _ c.if-positive.false c.in-Left.is c.get-in-Left.ensures c.in_ok-inside-in-Left.ensures.frame c.in_ok-inside-in-Left.ensures.left c.variable-in-Left.ensures c.in_ok-inner-in-Left.ensures c.in_ok-contradicted-in-Left.ensures e) c.apply-in-Left.ensures

pub consume_imp-returns-in_ok-denied-in-Right : goal.consume_imp-returns-in_ok-denied-in-Right
consume_imp-returns-in_ok-denied-in-Right t c = ok_map c.consume-in-Right.result (λ r e. imp_right (frame_of c.args.spot.now) (theory_formula c.args.a.now) (theory_formula c.args.b.now) _ _ _ _ _ _ _ _ c.if-positive.false c.in-Right.is c.get-in-Right.ensures c.in_ok-denied-in-Right.ensures e) c.consume-in-Right.ensures

pub consume_iff-returns-in_ok-ways-in-Left : goal.consume_iff-returns-in_ok-ways-in-Left
consume_iff-returns-in_ok-ways-in-Left t c = ok_map c.used_for_falsity.result (λ r e. iff_left (frame_of c.args.spot.now) (theory_formula c.args.a.now) (theory_formula c.args.b.now) _ _ _ _ _ _ _ _ _ _ _ _ _ _ _ _ _ c.in-Left.is c.get.ensures c.in-Both.is c.get-in-Left.ensures c.get-in-Left-2.ensures c.in_ok-inside.ensures.frame c.in_ok-inside.ensures.left c.variable.ensures c.variable-in-Left.ensures c.in_ok-used-in-Left.ensures c.in_ok-inner-in-Left.ensures c.in_ok-ways-in-Left.ensures e) c.used_for_falsity.ensures

pub consume_iff-returns-in_ok-ways-in-Right : goal.consume_iff-returns-in_ok-ways-in-Right
consume_iff-returns-in_ok-ways-in-Right t c = ok_map c.used_for_falsity-in-Right.result (λ r e. iff_right (frame_of c.args.spot.now) (theory_formula c.args.a.now) (theory_formula c.args.b.now) _ _ _ _ _ _ _ _ _ _ _ _ _ _ _ _ _ c.in-Right.is c.get-in-Right.ensures c.in-Both-get.is c.get-in-Right-2.ensures c.get-in-Right-3.ensures c.in_ok-inside.ensures.frame c.in_ok-inside.ensures.left c.variable-in-Right.ensures c.variable-in-Right-2.ensures c.in_ok-used-in-Right.ensures c.in_ok-inner-in-Right.ensures c.in_ok-ways-in-Right.ensures e) c.used_for_falsity-in-Right.ensures

pub consume_denied_iff-returns-in_ok-from_ways-in-Left : goal.consume_denied_iff-returns-in_ok-from_ways-in-Left
consume_denied_iff-returns-in_ok-from_ways-in-Left t c = ok_map c.apply.result (λ r e. iff_either (frame_of c.args.spot.now) (theory_formula c.args.a.now) (theory_formula c.args.b.now) _ _ _ _ _ _ _ _ _ _ _ _ _ _ _ _ _ _ _ _ _ _ _ _ _ c.in-Left.is c.get.ensures c.in-Both.is c.get-in-Left.ensures c.get-in-Left-3.ensures c.get-in-Left-2.ensures c.in_ok-inside-in-Left.ensures.frame c.in_ok-inside-in-Left.ensures.left c.in_ok-below-in-Left.ensures.frame c.in_ok-below-in-Left.ensures.left c.variable.ensures c.in_ok-there-in-Left.ensures c.in_ok-there-in-Left-2.ensures c.in_ok-leaves-in-Left.ensures c.after-after.ensures.frame c.after-after.ensures.left c.variable-in-Left.ensures c.in_ok-back-in-Left.ensures c.in_ok-back-in-Left-2.ensures c.in_ok-from_ways-in-Left.ensures e) c.apply.ensures

pub consume_denied_iff-returns-in_ok-denied-in-Right : goal.consume_denied_iff-returns-in_ok-denied-in-Right
consume_denied_iff-returns-in_ok-denied-in-Right t c = ok_map c.consume_nested.result (λ r e. iff_neither (frame_of c.args.spot.now) (theory_formula c.args.a.now) (theory_formula c.args.b.now) _ _ _ _ _ _ _ _ _ _ _ c.in-Right.is c.get-in-Right.ensures c.in-Both-get.is c.get-in-Right-2.ensures c.get-in-Right-3.ensures c.in_ok-denied-in-Right.ensures e) c.consume_nested.ensures

pub consume_all-returns-then-positive : goal.consume_all-returns-then-positive
consume_all-returns-then-positive t c = ok_map c.consume_under.result (λ r e. all_chosen (frame_of c.args.spot.now) (theory_formula c.args.a.now) _ _ _ _ _ _ _ _ _ _ c.if-positive.true c.in-Choice.is c.get.ensures c.in_ok-value.ensures c.in_ok-used.ensures e) c.consume_under.ensures

pub consume_ex-returns-then-not-positive : goal.consume_ex-returns-then-not-positive
consume_ex-returns-then-not-positive t c = ok_map c.consume_under.result (λ r e. ex_chosen (frame_of c.args.spot.now) (theory_formula c.args.a.now) _ _ _ _ _ _ _ _ _ c.if-not-positive.true c.in-Choice.is c.get.ensures c.in_ok-denied.ensures e) c.consume_under.ensures

pub consume_all-returns-in_ok-used-in-Eigenvariable : goal.consume_all-returns-in_ok-used-in-Eigenvariable
consume_all-returns-in_ok-used-in-Eigenvariable t c = ok_map c.consume_under-in-Eigenvariable.result (λ r e. all_witnessed (frame_of c.args.spot.now) (theory_formula c.args.a.now) _ _ _ _ _ _ _ _ _ _ c.if-positive.false c.in-Eigenvariable.is c.get-in-Eigenvariable.ensures c.in_ok-witness-in-Eigenvariable.ensures c.in_ok-used-in-Eigenvariable.ensures e) c.consume_under-in-Eigenvariable.ensures

pub consume_ex-returns-in_ok-used-in-Eigenvariable : goal.consume_ex-returns-in_ok-used-in-Eigenvariable
consume_ex-returns-in_ok-used-in-Eigenvariable t c = ok_map c.consume_under-in-Eigenvariable.result (λ r e. ex_witnessed (frame_of c.args.spot.now) (theory_formula c.args.a.now) _ _ _ _ _ _ _ _ _ _ c.if-not-positive.false c.in-Eigenvariable.is c.get-in-Eigenvariable.ensures c.in_ok-witness-in-Eigenvariable.ensures c.in_ok-used-in-Eigenvariable.ensures e) c.consume_under-in-Eigenvariable.ensures

pub consume_all-returns-in_ok-denied-in-Vacuous : goal.consume_all-returns-in_ok-denied-in-Vacuous
consume_all-returns-in_ok-denied-in-Vacuous t c = ok_map c.consume_under-in-Vacuous.result (λ r e. all_vacuous (frame_of c.args.spot.now) (theory_formula c.args.a.now) _ _ _ _ _ _ _ _ c.if-positive.false c.in-Vacuous.is c.get-in-Vacuous.ensures c.in_ok-denied-in-Vacuous.ensures e) c.consume_under-in-Vacuous.ensures

pub consume_ex-returns-in_ok-someone-in-Vacuous : goal.consume_ex-returns-in_ok-someone-in-Vacuous
consume_ex-returns-in_ok-someone-in-Vacuous t c = ok_map c.used_for_falsity.result (λ r e. ex_vacuous (frame_of c.args.spot.now) (theory_formula c.args.a.now) _ _ _ _ _ _ _ _ _ _ _ _ c.if-not-positive.false c.in-Vacuous.is c.get-in-Vacuous.ensures c.in_ok-inside-in-Vacuous.ensures.frame c.in_ok-inside-in-Vacuous.ensures.left c.variable.ensures c.in_ok-inner-in-Vacuous.ensures c.in_ok-someone-in-Vacuous.ensures e) c.used_for_falsity.ensures

pub consume_nested-returns : goal.consume_nested-returns
consume_nested-returns t c = ok_map c.consume-2.result (λ r e. let k0 = c.in_ok-deeper.ensures.frame in let k1 = c.in_ok-deeper.ensures.left in let k2 = c.in_ok-leaves.ensures in let k3 = c.after-after.ensures.frame in let k4 = c.after-after.ensures.left in let k5 = c.in_ok-inner.ensures in let k6 = c.in_ok-denied.ensures in cc) c.consume-2.ensures

pub consume_under-returns : goal.consume_under-returns
consume_under-returns t c = ok_map c.consume.result (λ r e. let k0 = c.under-inside.ensures.frame c.args.value (c.as_slice.ensures.value ∙ c.in_ok-values.ensures) in let k1 = c.under-inside.ensures.left in cc) c.consume.ensures
