use Rattle.std.proofs.Common.{◌≡◌, ◌+◌, ap, arith, if◌then◌else◌, map, subst, sym, true, false, ◌∙◌}
use Rattle.std.proofs.lemmas.Grind.{common_steps}
use Rattle.dk_syntax.specs.Depth.{capped}
use Rattle.dk_syntax.specs.declared.Formula.TheVariants as formula
use Rattle.normal_form.proofs.MarkLaws.{last_marked, marked_formula, marked_pair}
use Rattle.normal_form.proofs.FormulaEquations.{occurs-And, occurs-Atom, occurs-Iff, occurs-Imp, occurs-Or}
use Rattle.normal_form.specs.Marks.{Marked}
use Rattle.normal_form.specs.Normal.{nodes_of, normal_of}
use Rattle.normal_form.specs.Occurrence.{any_true, in_formula, has_variable}
use Rattle.normal_form.proofs.count.+count.Goals as goal

pub count-returns-in-Atom-clause-marked : goal.count-returns-in-Atom-clause-marked
count-returns-in-Atom-clause-marked t c =
    marked_formula c.args.f.now (formula.Atom c.in-Atom.field-0 c.in-Atom.args) (λ k. any_true (map (has_variable k) c.as_slice.result.now)) c.args.marks.now.items c.mark_terms.new.marks.items
    c.in-Atom.is (λ k. occurs-Atom k c.in-Atom.field-0 c.in-Atom.args ∙ ap (λ us. any_true (map (has_variable k) us)) (sym c.as_slice.ensures)) c.mark_terms.ensures

pub count-returns-in_ok-b-in-And-clause-marked : goal.count-returns-in_ok-b-in-And-clause-marked
count-returns-in_ok-b-in-And-clause-marked t c =
    marked_pair c.args.f.now (formula.And c.in-And.a c.in-And.b) c.in-And.a c.in-And.b c.get-in-And.result.now c.get-in-And-2.result.now c.args.marks.now.items c.count-in-And.new.marks.items c.count-in-And-2.new.marks.items
    c.in-And.is (λ k. occurs-And k c.in-And.a c.in-And.b) c.get-in-And.ensures c.get-in-And-2.ensures c.in_ok-a-in-And.ensures.marked c.in_ok-b-in-And.ensures.marked

pub count-returns-in_ok-b-in-Or-clause-marked : goal.count-returns-in_ok-b-in-Or-clause-marked
count-returns-in_ok-b-in-Or-clause-marked t c =
    marked_pair c.args.f.now (formula.Or c.in-Or.a c.in-Or.b) c.in-Or.a c.in-Or.b c.get-in-Or.result.now c.get-in-Or-2.result.now c.args.marks.now.items c.count-in-Or.new.marks.items c.count-in-Or-2.new.marks.items
    c.in-Or.is (λ k. occurs-Or k c.in-Or.a c.in-Or.b) c.get-in-Or.ensures c.get-in-Or-2.ensures c.in_ok-a-in-Or.ensures.marked c.in_ok-b-in-Or.ensures.marked

pub count-returns-in_ok-b-in-Imp-clause-marked : goal.count-returns-in_ok-b-in-Imp-clause-marked
count-returns-in_ok-b-in-Imp-clause-marked t c =
    marked_pair c.args.f.now (formula.Imp c.in-Imp.a c.in-Imp.b) c.in-Imp.a c.in-Imp.b c.get-in-Imp.result.now c.get-in-Imp-2.result.now c.args.marks.now.items c.count-in-Imp.new.marks.items c.count-in-Imp-2.new.marks.items
    c.in-Imp.is (λ k. occurs-Imp k c.in-Imp.a c.in-Imp.b) c.get-in-Imp.ensures c.get-in-Imp-2.ensures c.in_ok-a-in-Imp.ensures.marked c.in_ok-b-in-Imp.ensures.marked

pub count-returns-in_ok-b-in-Iff-clause-marked : goal.count-returns-in_ok-b-in-Iff-clause-marked
count-returns-in_ok-b-in-Iff-clause-marked t c =
    marked_pair c.args.f.now (formula.Iff c.in-Iff.a c.in-Iff.b) c.in-Iff.a c.in-Iff.b c.get-in-Iff.result.now c.get-in-Iff-2.result.now c.args.marks.now.items c.count-in-Iff.new.marks.items c.count-in-Iff-2.new.marks.items
    c.in-Iff.is (λ k. occurs-Iff k c.in-Iff.a c.in-Iff.b) c.get-in-Iff.ensures c.get-in-Iff-2.ensures c.in_ok-a-in-Iff.ensures.marked c.in_ok-b-in-Iff.ensures.marked

pub count_body-returns-then-occurs-clause-positive : goal.count_body-returns-then-occurs-clause-positive
count_body-returns-then-occurs-clause-positive t c =
    let p : in_formula c.args.a.now 0 ≡ true =
    sym (last_marked (in_formula c.args.a.now) c.args.marks.now.items c.count.new.marks.items c.take_last-occurs.new.marks.items c.take_last-occurs.result
    (subst (λ l. Marked (in_formula c.args.a.now) l c.count.new.marks.items) c.in_ok-push.ensures.items c.in_ok-body.ensures.marked) c.take_last-occurs.ensures) ∙ c.if-occurs.true in
    subst (λ b. c.saturating_add.result ≡ capped (if b then 1 + nodes_of (normal_of c.args.a.now true) else nodes_of (normal_of c.args.a.now true))) (sym p) (grind (arith, common_steps, c.in_ok-body.ensures.positive))

pub count_body-returns-clause-positive : goal.count_body-returns-clause-positive
count_body-returns-clause-positive t c =
    let p : in_formula c.args.a.now 0 ≡ false =
    sym (last_marked (in_formula c.args.a.now) c.args.marks.now.items c.count.new.marks.items c.take_last-occurs.new.marks.items c.take_last-occurs.result
    (subst (λ l. Marked (in_formula c.args.a.now) l c.count.new.marks.items) c.in_ok-push.ensures.items c.in_ok-body.ensures.marked) c.take_last-occurs.ensures) ∙ c.if-occurs.false in
    subst (λ b. c.in_ok-body.body.positive ≡ capped (if b then 1 + nodes_of (normal_of c.args.a.now true) else nodes_of (normal_of c.args.a.now true))) (sym p) c.in_ok-body.ensures.positive

pub count_body-returns-then-occurs-clause-negative : goal.count_body-returns-then-occurs-clause-negative
count_body-returns-then-occurs-clause-negative t c =
    let p : in_formula c.args.a.now 0 ≡ true =
    sym (last_marked (in_formula c.args.a.now) c.args.marks.now.items c.count.new.marks.items c.take_last-occurs.new.marks.items c.take_last-occurs.result
    (subst (λ l. Marked (in_formula c.args.a.now) l c.count.new.marks.items) c.in_ok-push.ensures.items c.in_ok-body.ensures.marked) c.take_last-occurs.ensures) ∙ c.if-occurs.true in
    subst (λ b. c.saturating_add-then-occurs.result ≡ capped (if b then 1 + nodes_of (normal_of c.args.a.now false) else nodes_of (normal_of c.args.a.now false))) (sym p) (grind (arith, common_steps, c.in_ok-body.ensures.negative))

pub count_body-returns-clause-negative : goal.count_body-returns-clause-negative
count_body-returns-clause-negative t c =
    let p : in_formula c.args.a.now 0 ≡ false =
    sym (last_marked (in_formula c.args.a.now) c.args.marks.now.items c.count.new.marks.items c.take_last-occurs.new.marks.items c.take_last-occurs.result
    (subst (λ l. Marked (in_formula c.args.a.now) l c.count.new.marks.items) c.in_ok-push.ensures.items c.in_ok-body.ensures.marked) c.take_last-occurs.ensures) ∙ c.if-occurs.false in
    subst (λ b. c.in_ok-body.body.negative ≡ capped (if b then 1 + nodes_of (normal_of c.args.a.now false) else nodes_of (normal_of c.args.a.now false))) (sym p) c.in_ok-body.ensures.negative
