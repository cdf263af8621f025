use Rattle.std.proofs.Common.{◌≡◌, true, false, refl, sym, ap, ◌∙◌}
use Rattle.nd_term.specs.Formulas.{conjunction, disjunction, equivalence, existential, implication, negation, universal}
use Rattle.nd_term.specs.Reading.{occurs, read, with_both, with_node}
use Rattle.nd_term.specs.ThinReading.{choices_at, reading_of}
use Rattle.nd_term.specs.ThinTrees.{below_not}
use Rattle.nd_term.specs.Views.{theory_formula}
use Rattle.nd_term.proofs.OutputSteps.{ground-Any}
use Rattle.nd_term.proofs.PartViews.{all_parts, and_parts, ex_parts, iff_parts, imp_parts, not_parts, or_parts}
use Rattle.nd_term.proofs.ReaderArms.{at_formula, both_read, choice_read, choice_vacuous, side_left, side_right, witness_read, witness_vacuous}
use Rattle.nd_term.proofs.Results.{ok_map}
use Rattle.nd_term.proofs.reader.+read_tree.Goals as goal

pub read_side-returns-then-right : goal.read_side-returns-then-right
read_side-returns-then-right t c = ok_map c.at_side.result (λ r e. side_right (read (theory_formula c.args.a.now) c.args.a_sign) (read (theory_formula c.args.b.now) c.args.b_sign) (choices_at c.args.source.now c.args.cursor) (choices_at c.args.source.now c.next_side-right.result.1) c.next_side-right.result.0 (reading_of c.args.source.now c.in_ok-reading.reading) (reading_of c.args.source.now r) c.if-right.true c.next_side-right.ensures.side c.next_side-right.ensures.rest c.in_ok-reading.ensures e) (c.at_side.ensures c.args.source.now)

pub read_side-returns : goal.read_side-returns
read_side-returns t c = ok_map c.at_side-2.result (λ r e. side_left (read (theory_formula c.args.a.now) c.args.a_sign) (read (theory_formula c.args.b.now) c.args.b_sign) (choices_at c.args.source.now c.args.cursor) (choices_at c.args.source.now c.next_side-right.result.1) c.next_side-right.result.0 (reading_of c.args.source.now c.in_ok-reading-2.reading) (reading_of c.args.source.now r) c.if-right.false c.next_side-right.ensures.side c.next_side-right.ensures.rest c.in_ok-reading-2.ensures e) (c.at_side-2.ensures c.args.source.now)

pub read_iff-returns-then-right : goal.read_iff-returns-then-right
read_iff-returns-then-right t c = ok_map c.at_side.result (λ r e. side_right (λ d. with_both (read (theory_formula c.args.a.now) false d) (read (theory_formula c.args.b.now) true)) (λ d. with_both (read (theory_formula c.args.b.now) false d) (read (theory_formula c.args.a.now) true)) (choices_at c.args.source.now c.args.cursor) (choices_at c.args.source.now c.next_side-right.result.1) c.next_side-right.result.0 (reading_of c.args.source.now c.in_ok-reading.reading) (reading_of c.args.source.now r) c.if-right.true c.next_side-right.ensures.side c.next_side-right.ensures.rest c.in_ok-reading.ensures e) (c.at_side.ensures c.args.source.now)

pub read_iff-returns : goal.read_iff-returns
read_iff-returns t c = ok_map c.at_side-2.result (λ r e. side_left (λ d. with_both (read (theory_formula c.args.a.now) false d) (read (theory_formula c.args.b.now) true)) (λ d. with_both (read (theory_formula c.args.b.now) false d) (read (theory_formula c.args.a.now) true)) (choices_at c.args.source.now c.args.cursor) (choices_at c.args.source.now c.next_side-right.result.1) c.next_side-right.result.0 (reading_of c.args.source.now c.in_ok-reading-2.reading) (reading_of c.args.source.now r) c.if-right.false c.next_side-right.ensures.side c.next_side-right.ensures.rest c.in_ok-reading-2.ensures e) (c.at_side-2.ensures c.args.source.now)

pub read_denied_iff-returns-then-right : goal.read_denied_iff-returns-then-right
read_denied_iff-returns-then-right t c = ok_map c.at_side.result (λ r e. side_right (λ d. with_both (read (theory_formula c.args.a.now) true d) (read (theory_formula c.args.b.now) true)) (λ d. with_both (read (theory_formula c.args.a.now) false d) (read (theory_formula c.args.b.now) false)) (choices_at c.args.source.now c.args.cursor) (choices_at c.args.source.now c.next_side-right.result.1) c.next_side-right.result.0 (reading_of c.args.source.now c.in_ok-reading.reading) (reading_of c.args.source.now r) c.if-right.true c.next_side-right.ensures.side c.next_side-right.ensures.rest c.in_ok-reading.ensures e) (c.at_side.ensures c.args.source.now)

pub read_denied_iff-returns : goal.read_denied_iff-returns
read_denied_iff-returns t c = ok_map c.at_side-2.result (λ r e. side_left (λ d. with_both (read (theory_formula c.args.a.now) true d) (read (theory_formula c.args.b.now) true)) (λ d. with_both (read (theory_formula c.args.a.now) false d) (read (theory_formula c.args.b.now) false)) (choices_at c.args.source.now c.args.cursor) (choices_at c.args.source.now c.next_side-right.result.1) c.next_side-right.result.0 (reading_of c.args.source.now c.in_ok-reading-2.reading) (reading_of c.args.source.now r) c.if-right.false c.next_side-right.ensures.side c.next_side-right.ensures.rest c.in_ok-reading-2.ensures e) (c.at_side-2.ensures c.args.source.now)

pub read_both-returns : goal.read_both-returns
read_both-returns t c = ok_map c.joined.result (λ r e. both_read (read (theory_formula c.args.a.now) c.args.a_sign (choices_at c.args.source.now c.args.cursor)) (read (theory_formula c.args.b.now) c.args.b_sign) (reading_of c.args.source.now c.in_ok-first.first) (reading_of c.args.source.now c.in_ok-second.second) (reading_of c.args.source.now r) c.in_ok-first.ensures c.in_ok-second.ensures e) (c.joined.ensures c.args.source.now)

pub read_choice-returns-then-not-branch : goal.read_choice-returns-then-not-branch
read_choice-returns-then-not-branch t c = ok_map c.below_choice.result (λ r e. choice_vacuous (occurs 0 (theory_formula c.args.a.now)) (read (theory_formula c.args.a.now) c.args.positive) (choices_at c.args.source.now c.args.cursor) _ (reading_of c.args.source.now c.in_ok-reading.reading) (reading_of c.args.source.now r) (sym c.in_ok-occurs.ensures ∙ c.if-not-branch.true) ground-Any c.in_ok-reading.ensures e) (c.below_choice.ensures c.args.source.now)

pub read_choice-returns : goal.read_choice-returns
read_choice-returns t c = ok_map c.below_choice-2.result (λ r e. choice_read (occurs 0 (theory_formula c.args.a.now)) (read (theory_formula c.args.a.now) c.args.positive) (choices_at c.args.source.now c.args.cursor) (choices_at c.args.source.now c.in_ok-term.rest) _ (reading_of c.args.source.now c.in_ok-reading-2.reading) (reading_of c.args.source.now r) (sym c.in_ok-occurs.ensures ∙ c.if-not-branch.false) c.in_ok-term.ensures.term c.in_ok-term.ensures.rest c.in_ok-reading-2.ensures e) (c.below_choice-2.ensures c.args.source.now)

pub read_witness-returns-then-not-branch : goal.read_witness-returns-then-not-branch
read_witness-returns-then-not-branch t c = ok_map c.below_vacuous.result (λ r e. witness_vacuous (occurs 0 (theory_formula c.args.a.now)) (read (theory_formula c.args.a.now) c.args.positive) (choices_at c.args.source.now c.args.cursor) (reading_of c.args.source.now c.in_ok-reading.reading) (reading_of c.args.source.now r) (sym c.in_ok-occurs.ensures ∙ c.if-not-branch.true) c.in_ok-reading.ensures e) (c.below_vacuous.ensures c.args.source.now)

pub read_witness-returns : goal.read_witness-returns
read_witness-returns t c = ok_map c.below_eigenvariable.result (λ r e. witness_read (occurs 0 (theory_formula c.args.a.now)) (read (theory_formula c.args.a.now) c.args.positive) (choices_at c.args.source.now c.args.cursor) (choices_at c.args.source.now c.in_ok-number.rest) _ (reading_of c.args.source.now c.in_ok-reading-2.reading) (reading_of c.args.source.now r) (sym c.in_ok-occurs.ensures ∙ c.if-not-branch.false) c.in_ok-number.ensures.number c.in_ok-number.ensures.rest c.in_ok-reading-2.ensures e) (c.below_eigenvariable.ensures c.args.source.now)

pub read_tree-returns-then-positive : goal.read_tree-returns-then-positive
read_tree-returns-then-positive t c = ok_map c.read_side.result (λ r e. at_formula c.args.f.now (conjunction (theory_formula c.get-then-positive.result.now) (theory_formula c.get-then-positive-2.result.now)) c.args.positive true (choices_at c.args.source.now c.args.cursor) (reading_of c.args.source.now r) (and_parts c.args.f.now _ _ c.get-then-positive.result.now c.get-then-positive-2.result.now c.in-And.is c.get-then-positive.ensures c.get-then-positive-2.ensures) c.if-positive.true e) c.read_side.ensures

pub read_tree-returns-else-positive : goal.read_tree-returns-else-positive
read_tree-returns-else-positive t c = ok_map c.read_both.result (λ r e. at_formula c.args.f.now (conjunction (theory_formula c.get-else-positive.result.now) (theory_formula c.get-else-positive-2.result.now)) c.args.positive false (choices_at c.args.source.now c.args.cursor) (reading_of c.args.source.now r) (and_parts c.args.f.now _ _ c.get-else-positive.result.now c.get-else-positive-2.result.now c.in-And.is c.get-else-positive.ensures c.get-else-positive-2.ensures) c.if-positive.false e) c.read_both.ensures

pub read_tree-returns-then-positive-2 : goal.read_tree-returns-then-positive-2
read_tree-returns-then-positive-2 t c = ok_map c.read_both-then-positive-2.result (λ r e. at_formula c.args.f.now (disjunction (theory_formula c.get-then-positive-2-2.result.now) (theory_formula c.get-then-positive-2-3.result.now)) c.args.positive true (choices_at c.args.source.now c.args.cursor) (reading_of c.args.source.now r) (or_parts c.args.f.now _ _ c.get-then-positive-2-2.result.now c.get-then-positive-2-3.result.now c.in-Or.is c.get-then-positive-2-2.ensures c.get-then-positive-2-3.ensures) c.if-positive-2.true e) c.read_both-then-positive-2.ensures

pub read_tree-returns-else-positive-2 : goal.read_tree-returns-else-positive-2
read_tree-returns-else-positive-2 t c = ok_map c.read_side-else-positive-2.result (λ r e. at_formula c.args.f.now (disjunction (theory_formula c.get-else-positive-2-2.result.now) (theory_formula c.get-else-positive-2-3.result.now)) c.args.positive false (choices_at c.args.source.now c.args.cursor) (reading_of c.args.source.now r) (or_parts c.args.f.now _ _ c.get-else-positive-2-2.result.now c.get-else-positive-2-3.result.now c.in-Or.is c.get-else-positive-2-2.ensures c.get-else-positive-2-3.ensures) c.if-positive-2.false e) c.read_side-else-positive-2.ensures

pub read_tree-returns-then-positive-3 : goal.read_tree-returns-then-positive-3
read_tree-returns-then-positive-3 t c = ok_map c.read_both-then-positive-3.result (λ r e. at_formula c.args.f.now (implication (theory_formula c.get-then-positive-3.result.now) (theory_formula c.get-then-positive-3-2.result.now)) c.args.positive true (choices_at c.args.source.now c.args.cursor) (reading_of c.args.source.now r) (imp_parts c.args.f.now _ _ c.get-then-positive-3.result.now c.get-then-positive-3-2.result.now c.in-Imp.is c.get-then-positive-3.ensures c.get-then-positive-3-2.ensures) c.if-positive-3.true e) c.read_both-then-positive-3.ensures

pub read_tree-returns-else-positive-3 : goal.read_tree-returns-else-positive-3
read_tree-returns-else-positive-3 t c = ok_map c.read_side-else-positive-3.result (λ r e. at_formula c.args.f.now (implication (theory_formula c.get-else-positive-3.result.now) (theory_formula c.get-else-positive-3-2.result.now)) c.args.positive false (choices_at c.args.source.now c.args.cursor) (reading_of c.args.source.now r) (imp_parts c.args.f.now _ _ c.get-else-positive-3.result.now c.get-else-positive-3-2.result.now c.in-Imp.is c.get-else-positive-3.ensures c.get-else-positive-3-2.ensures) c.if-positive-3.false e) c.read_side-else-positive-3.ensures

pub read_tree-returns-then-positive-4 : goal.read_tree-returns-then-positive-4
read_tree-returns-then-positive-4 t c = ok_map c.read_iff.result (λ r e. at_formula c.args.f.now (equivalence (theory_formula c.get-then-positive-4.result.now) (theory_formula c.get-then-positive-4-2.result.now)) c.args.positive true (choices_at c.args.source.now c.args.cursor) (reading_of c.args.source.now r) (iff_parts c.args.f.now _ _ c.get-then-positive-4.result.now c.get-then-positive-4-2.result.now c.in-Iff.is c.get-then-positive-4.ensures c.get-then-positive-4-2.ensures) c.if-positive-4.true e) c.read_iff.ensures

pub read_tree-returns-else-positive-4 : goal.read_tree-returns-else-positive-4
read_tree-returns-else-positive-4 t c = ok_map c.read_denied_iff.result (λ r e. at_formula c.args.f.now (equivalence (theory_formula c.get-else-positive-4.result.now) (theory_formula c.get-else-positive-4-2.result.now)) c.args.positive false (choices_at c.args.source.now c.args.cursor) (reading_of c.args.source.now r) (iff_parts c.args.f.now _ _ c.get-else-positive-4.result.now c.get-else-positive-4-2.result.now c.in-Iff.is c.get-else-positive-4.ensures c.get-else-positive-4-2.ensures) c.if-positive-4.false e) c.read_denied_iff.ensures

pub read_tree-returns-then-positive-5 : goal.read_tree-returns-then-positive-5
read_tree-returns-then-positive-5 t c = ok_map c.read_choice.result (λ r e. at_formula c.args.f.now (universal (theory_formula c.get-then-positive-5.result.now)) c.args.positive true (choices_at c.args.source.now c.args.cursor) (reading_of c.args.source.now r) (all_parts c.args.f.now _ c.get-then-positive-5.result.now c.in-All.is c.get-then-positive-5.ensures) c.if-positive-5.true e) c.read_choice.ensures

pub read_tree-returns-else-positive-5 : goal.read_tree-returns-else-positive-5
read_tree-returns-else-positive-5 t c = ok_map c.read_witness.result (λ r e. at_formula c.args.f.now (universal (theory_formula c.get-else-positive-5.result.now)) c.args.positive false (choices_at c.args.source.now c.args.cursor) (reading_of c.args.source.now r) (all_parts c.args.f.now _ c.get-else-positive-5.result.now c.in-All.is c.get-else-positive-5.ensures) c.if-positive-5.false e) c.read_witness.ensures

pub read_tree-returns-then-positive-6 : goal.read_tree-returns-then-positive-6
read_tree-returns-then-positive-6 t c = ok_map c.read_witness-then-positive-6.result (λ r e. at_formula c.args.f.now (existential (theory_formula c.get-then-positive-6.result.now)) c.args.positive true (choices_at c.args.source.now c.args.cursor) (reading_of c.args.source.now r) (ex_parts c.args.f.now _ c.get-then-positive-6.result.now c.in-Ex.is c.get-then-positive-6.ensures) c.if-positive-6.true e) c.read_witness-then-positive-6.ensures

pub read_tree-returns-else-positive-6 : goal.read_tree-returns-else-positive-6
read_tree-returns-else-positive-6 t c = ok_map c.read_choice-else-positive-6.result (λ r e. at_formula c.args.f.now (existential (theory_formula c.get-else-positive-6.result.now)) c.args.positive false (choices_at c.args.source.now c.args.cursor) (reading_of c.args.source.now r) (ex_parts c.args.f.now _ c.get-else-positive-6.result.now c.in-Ex.is c.get-else-positive-6.ensures) c.if-positive-6.false e) c.read_choice-else-positive-6.ensures

pub read_tree-returns-in_ok-reading-in-Not : goal.read_tree-returns-in_ok-reading-in-Not
read_tree-returns-in_ok-reading-in-Not t c = ok_map c.below_negation.result (λ r e. at_formula c.args.f.now (negation (theory_formula c.get.result.now)) c.args.positive c.args.positive (choices_at c.args.source.now c.args.cursor) (reading_of c.args.source.now r) (not_parts c.args.f.now _ c.get.result.now c.in-Not.is c.get.ensures) refl (e ∙ ap (with_node below_not) c.in_ok-reading-in-Not.ensures)) (c.below_negation.ensures c.args.source.now)
