use Rattle.std.proofs.Common.{if◌then◌else◌, ap, ap₂, subst, sym, ◌∙◌}
use Rattle.dk_syntax.specs.declared.Formula.TheVariants as formula
use Rattle.normal_form.proofs.DraftLaws.{drafted, drafts-All, drafts-And, drafts-Atom, drafts-Ex, drafts-False, drafts-Iff, drafts-Imp, drafts-Not, drafts-Or, drafts-True, still}
use Rattle.normal_form.proofs.FormulaEquations.{occurs-And, occurs-Iff, occurs-Imp, occurs-Or}
use Rattle.normal_form.proofs.MarkLaws.{last_marked, marked_pair}
use Rattle.normal_form.specs.Marks.{Marked}
use Rattle.normal_form.specs.Occurrence.{in_formula}
use Rattle.normal_form.specs.declared.draft.Draft.TheVariants as draft
use Rattle.normal_form.proofs.draft.+draft_of.Goals as goal

pub draft_body-returns-clause-occurs : goal.draft_body-returns-clause-occurs
draft_body-returns-clause-occurs t c =
    last_marked (in_formula c.args.a.now) c.args.marks.now.items c.draft_of.new.marks.items c.take_last-occurs.new.marks.items c.take_last-occurs.result
    (subst (λ l. Marked (in_formula c.args.a.now) l c.draft_of.new.marks.items) c.in_ok-push.ensures.items c.in_ok-draft.ensures.marked) c.take_last-occurs.ensures

pub draft_of-returns-in-True-clause-draft : goal.draft_of-returns-in-True-clause-draft
draft_of-returns-in-True-clause-draft t c = drafted c.args.f.now formula.True c.boxed.result draft.True c.in-True.is drafts-True c.boxed.ensures

pub draft_of-returns-in-False-clause-draft : goal.draft_of-returns-in-False-clause-draft
draft_of-returns-in-False-clause-draft t c = drafted c.args.f.now formula.False c.boxed-in-False.result draft.False c.in-False.is drafts-False c.boxed-in-False.ensures

pub draft_of-returns-in-Atom-clause-draft : goal.draft_of-returns-in-Atom-clause-draft
draft_of-returns-in-Atom-clause-draft t c =
    drafted c.args.f.now (formula.Atom c.in-Atom.symbol c.in-Atom.args) c.atom.result (draft.Atom c.in-Atom.symbol c.in-Atom.args) c.in-Atom.is (drafts-Atom c.in-Atom.symbol c.in-Atom.args) c.atom.ensures

pub draft_of-returns-in_ok-a-in-Not-clause-draft : goal.draft_of-returns-in_ok-a-in-Not-clause-draft
draft_of-returns-in_ok-a-in-Not-clause-draft t c =
    drafted c.args.f.now (formula.Not c.get.result.now) c.boxed-in-Not.result (draft.Not c.in_ok-a-in-Not.a) (c.in-Not.is ∙ ap formula.Not (sym c.get.ensures))
    (drafts-Not c.get.result.now c.in_ok-a-in-Not.a c.in_ok-a-in-Not.ensures.draft) c.boxed-in-Not.ensures

pub draft_of-returns-in_ok-b-in-And-clause-draft : goal.draft_of-returns-in_ok-b-in-And-clause-draft
draft_of-returns-in_ok-b-in-And-clause-draft t c =
    drafted c.args.f.now (formula.And c.get-in-And.result.now c.get-in-And-2.result.now) c.boxed-in-And.result (draft.And c.in_ok-a-in-And.a c.in_ok-b-in-And.b)
    (c.in-And.is ∙ ap₂ (λ a b. formula.And a b) (sym c.get-in-And.ensures) (sym c.get-in-And-2.ensures))
    (drafts-And c.get-in-And.result.now c.get-in-And-2.result.now c.in_ok-a-in-And.a c.in_ok-b-in-And.b c.in_ok-a-in-And.ensures.draft c.in_ok-b-in-And.ensures.draft) c.boxed-in-And.ensures

pub draft_of-returns-in_ok-b-in-And-clause-marked : goal.draft_of-returns-in_ok-b-in-And-clause-marked
draft_of-returns-in_ok-b-in-And-clause-marked t c =
    still c.boxed-in-And.result (Marked (in_formula c.args.f.now) c.args.marks.now.items c.draft_of-in-And-2.new.marks.items) (draft.And c.in_ok-a-in-And.a c.in_ok-b-in-And.b)
    (marked_pair c.args.f.now (formula.And c.in-And.a c.in-And.b) c.in-And.a c.in-And.b c.get-in-And.result.now c.get-in-And-2.result.now c.args.marks.now.items c.draft_of-in-And.new.marks.items c.draft_of-in-And-2.new.marks.items
    c.in-And.is (λ k. occurs-And k c.in-And.a c.in-And.b) c.get-in-And.ensures c.get-in-And-2.ensures c.in_ok-a-in-And.ensures.marked c.in_ok-b-in-And.ensures.marked)
    c.boxed-in-And.ensures

pub draft_of-returns-in_ok-b-in-Or-clause-draft : goal.draft_of-returns-in_ok-b-in-Or-clause-draft
draft_of-returns-in_ok-b-in-Or-clause-draft t c =
    drafted c.args.f.now (formula.Or c.get-in-Or.result.now c.get-in-Or-2.result.now) c.boxed-in-Or.result (draft.Or c.in_ok-a-in-Or.a c.in_ok-b-in-Or.b)
    (c.in-Or.is ∙ ap₂ (λ a b. formula.Or a b) (sym c.get-in-Or.ensures) (sym c.get-in-Or-2.ensures))
    (drafts-Or c.get-in-Or.result.now c.get-in-Or-2.result.now c.in_ok-a-in-Or.a c.in_ok-b-in-Or.b c.in_ok-a-in-Or.ensures.draft c.in_ok-b-in-Or.ensures.draft) c.boxed-in-Or.ensures

pub draft_of-returns-in_ok-b-in-Or-clause-marked : goal.draft_of-returns-in_ok-b-in-Or-clause-marked
draft_of-returns-in_ok-b-in-Or-clause-marked t c =
    still c.boxed-in-Or.result (Marked (in_formula c.args.f.now) c.args.marks.now.items c.draft_of-in-Or-2.new.marks.items) (draft.Or c.in_ok-a-in-Or.a c.in_ok-b-in-Or.b)
    (marked_pair c.args.f.now (formula.Or c.in-Or.a c.in-Or.b) c.in-Or.a c.in-Or.b c.get-in-Or.result.now c.get-in-Or-2.result.now c.args.marks.now.items c.draft_of-in-Or.new.marks.items c.draft_of-in-Or-2.new.marks.items
    c.in-Or.is (λ k. occurs-Or k c.in-Or.a c.in-Or.b) c.get-in-Or.ensures c.get-in-Or-2.ensures c.in_ok-a-in-Or.ensures.marked c.in_ok-b-in-Or.ensures.marked)
    c.boxed-in-Or.ensures

pub draft_of-returns-in_ok-b-in-Iff-clause-draft : goal.draft_of-returns-in_ok-b-in-Iff-clause-draft
draft_of-returns-in_ok-b-in-Iff-clause-draft t c =
    drafted c.args.f.now (formula.Iff c.get-in-Iff.result.now c.get-in-Iff-2.result.now) c.boxed-in-Iff.result (draft.Iff c.in_ok-a-in-Iff.a c.in_ok-b-in-Iff.b)
    (c.in-Iff.is ∙ ap₂ (λ a b. formula.Iff a b) (sym c.get-in-Iff.ensures) (sym c.get-in-Iff-2.ensures))
    (drafts-Iff c.get-in-Iff.result.now c.get-in-Iff-2.result.now c.in_ok-a-in-Iff.a c.in_ok-b-in-Iff.b c.in_ok-a-in-Iff.ensures.draft c.in_ok-b-in-Iff.ensures.draft) c.boxed-in-Iff.ensures

pub draft_of-returns-in_ok-b-in-Iff-clause-marked : goal.draft_of-returns-in_ok-b-in-Iff-clause-marked
draft_of-returns-in_ok-b-in-Iff-clause-marked t c =
    still c.boxed-in-Iff.result (Marked (in_formula c.args.f.now) c.args.marks.now.items c.draft_of-in-Iff-2.new.marks.items) (draft.Iff c.in_ok-a-in-Iff.a c.in_ok-b-in-Iff.b)
    (marked_pair c.args.f.now (formula.Iff c.in-Iff.a c.in-Iff.b) c.in-Iff.a c.in-Iff.b c.get-in-Iff.result.now c.get-in-Iff-2.result.now c.args.marks.now.items c.draft_of-in-Iff.new.marks.items c.draft_of-in-Iff-2.new.marks.items
    c.in-Iff.is (λ k. occurs-Iff k c.in-Iff.a c.in-Iff.b) c.get-in-Iff.ensures c.get-in-Iff-2.ensures c.in_ok-a-in-Iff.ensures.marked c.in_ok-b-in-Iff.ensures.marked)
    c.boxed-in-Iff.ensures

pub draft_of-returns-in_ok-b-in-Imp-clause-draft : goal.draft_of-returns-in_ok-b-in-Imp-clause-draft
draft_of-returns-in_ok-b-in-Imp-clause-draft t c =
    drafted c.args.f.now (formula.Imp c.get-in-Imp.result.now c.get-in-Imp-2.result.now) c.implication.result (draft.Or (draft.Not c.in_ok-a-in-Imp.a) c.in_ok-b-in-Imp.b)
    (c.in-Imp.is ∙ ap₂ (λ a b. formula.Imp a b) (sym c.get-in-Imp.ensures) (sym c.get-in-Imp-2.ensures))
    (drafts-Imp c.get-in-Imp.result.now c.get-in-Imp-2.result.now c.in_ok-a-in-Imp.a c.in_ok-b-in-Imp.b c.in_ok-a-in-Imp.ensures.draft c.in_ok-b-in-Imp.ensures.draft) c.implication.ensures

pub draft_of-returns-in_ok-b-in-Imp-clause-marked : goal.draft_of-returns-in_ok-b-in-Imp-clause-marked
draft_of-returns-in_ok-b-in-Imp-clause-marked t c =
    still c.implication.result (Marked (in_formula c.args.f.now) c.args.marks.now.items c.draft_of-in-Imp-2.new.marks.items) (draft.Or (draft.Not c.in_ok-a-in-Imp.a) c.in_ok-b-in-Imp.b)
    (marked_pair c.args.f.now (formula.Imp c.in-Imp.a c.in-Imp.b) c.in-Imp.a c.in-Imp.b c.get-in-Imp.result.now c.get-in-Imp-2.result.now c.args.marks.now.items c.draft_of-in-Imp.new.marks.items c.draft_of-in-Imp-2.new.marks.items
    c.in-Imp.is (λ k. occurs-Imp k c.in-Imp.a c.in-Imp.b) c.get-in-Imp.ensures c.get-in-Imp-2.ensures c.in_ok-a-in-Imp.ensures.marked c.in_ok-b-in-Imp.ensures.marked)
    c.implication.ensures

pub draft_of-returns-in_ok-body-in-All-clause-draft : goal.draft_of-returns-in_ok-body-in-All-clause-draft
draft_of-returns-in_ok-body-in-All-clause-draft t c =
    drafted c.args.f.now (formula.All c.get-in-All.result.now) c.universal.result (if c.in_ok-body-in-All.body.occurs then draft.All c.in_ok-body-in-All.body.draft else draft.Vacuous c.in_ok-body-in-All.body.draft)
    (c.in-All.is ∙ ap formula.All (sym c.get-in-All.ensures))
    (drafts-All c.get-in-All.result.now c.in_ok-body-in-All.body.draft c.in_ok-body-in-All.body.occurs c.in_ok-body-in-All.ensures.draft c.in_ok-body-in-All.ensures.occurs) c.universal.ensures

pub draft_of-returns-in_ok-body-in-Ex-clause-draft : goal.draft_of-returns-in_ok-body-in-Ex-clause-draft
draft_of-returns-in_ok-body-in-Ex-clause-draft t c =
    drafted c.args.f.now (formula.Ex c.get-in-Ex.result.now) c.existential.result (if c.in_ok-body-in-Ex.body.occurs then draft.Ex c.in_ok-body-in-Ex.body.draft else draft.Vacuous c.in_ok-body-in-Ex.body.draft)
    (c.in-Ex.is ∙ ap formula.Ex (sym c.get-in-Ex.ensures))
    (drafts-Ex c.get-in-Ex.result.now c.in_ok-body-in-Ex.body.draft c.in_ok-body-in-Ex.body.occurs c.in_ok-body-in-Ex.ensures.draft c.in_ok-body-in-Ex.ensures.occurs) c.existential.ensures
