use Rattle.std.proofs.Common.{List, sym, subst}
use Rattle.std.proofs.lemmas.Result.{IfOk-weaker}
use Rattle.step_check.proofs.InferenceLaws.{parent_there}
use Rattle.step_check.proofs.VerdictLaws.{apart_shape, carried_verdict, same_verdict}
use Rattle.step_check.proofs.WithinLaws.{parent_nodes}
use Rattle.step_check.specs.Notes.{case_given, IsCarriedVerdict, IsLink, IsSkolemLink}
use Rattle.step_check.specs.Verdicts.{IsInferenceVerdict, IsOtherVerdict, map_of}
use Rattle.step_check.specs.Verdicts as is
use Rattle.step_check.specs.declared.notes.Link.{Link}
use Rattle.step_check.specs.declared.verdict.Verdict.TheVariants.{Structural}
use Rattle.step_skolem.specs.declared.map.SkEntry.{SkEntry}
use Rattle.step_check.proofs.inference.fit_verdict.Goals as goal

pub skolem_verdict-requires-clause-own : goal.skolem_verdict-requires-clause-own
skolem_verdict-requires-clause-own c =
    let case = case_given c.args.given.now in
    let link : IsSkolemLink case c.args.number c.in-Skolem.parent c.in-Skolem.map.entries =
    subst (λ (x : Link). IsLink case c.args.number x) c.in-Skolem.is (c.requires.right.forms.links c.args.number c.known.result.now c.known.ensures)
    in
    c.requires.prepared.opened.owns.parents c.in-Skolem.parent (parent_there case c.args.number c.in-Skolem.parent link.fitted.one)

pub skolem_verdict-requires-clause-image : goal.skolem_verdict-requires-clause-image
skolem_verdict-requires-clause-image c =
    let case = case_given c.args.given.now in
    let link : IsSkolemLink case c.args.number c.in-Skolem.parent c.in-Skolem.map.entries =
    subst (λ (x : Link). IsLink case c.args.number x) c.in-Skolem.is (c.requires.right.forms.links c.args.number c.known.result.now c.known.ensures)
    in
    c.requires.prepared.images c.in-Skolem.parent (parent_there case c.args.number c.in-Skolem.parent link.fitted.one)

pub skolem_verdict-requires-clause-within : goal.skolem_verdict-requires-clause-within
skolem_verdict-requires-clause-within c =
    let case = case_given c.args.given.now in
    let link : IsSkolemLink case c.args.number c.in-Skolem.parent c.in-Skolem.map.entries =
    subst (λ (x : Link). IsLink case c.args.number x) c.in-Skolem.is (c.requires.right.forms.links c.args.number c.known.result.now c.known.ensures)
    in
    parent_nodes case c.args.number c.in-Skolem.parent c.requires.within.within (parent_there case c.args.number c.in-Skolem.parent link.fitted.one)

pub returns-in-Same : goal.returns-in-Same
returns-in-Same c =
    let case = case_given c.args.given.now in
    subst (λ (x : List SkEntry). IsInferenceVerdict case c.args.number c.args.cth c.args.esa (Structural (map_of x))) (sym c.new.ensures)
    (same_verdict case c.args.number c.in-Same.field-0 c.args.cth c.args.esa
    (subst (λ (x : Link). IsLink case c.args.number x) c.in-Same.is (c.requires.right.forms.links c.args.number c.known.result.now c.known.ensures))
    c.requires.fit)

pub returns-in-Skolem : goal.returns-in-Skolem
returns-in-Skolem c =
    let case = case_given c.args.given.now in
    let link : IsSkolemLink case c.args.number c.in-Skolem.parent c.in-Skolem.map.entries =
    subst (λ (x : Link). IsLink case c.args.number x) c.in-Skolem.is (c.requires.right.forms.links c.args.number c.known.result.now c.known.ensures)
    in
    IfOk-weaker c.skolem_verdict.result (λ verdict. IsCarriedVerdict case c.in-Skolem.parent c.in-Skolem.map.entries verdict)
    (λ verdict. IsInferenceVerdict case c.args.number c.args.cth c.args.esa verdict)
    (λ verdict h.
    carried_verdict case c.args.number c.in-Skolem.parent c.args.cth c.args.esa c.in-Skolem.map.entries verdict link c.requires.derived c.requires.fit h)
    c.skolem_verdict.ensures

pub returns-in-Apart : goal.returns-in-Apart
returns-in-Apart c =
    let case = case_given c.args.given.now in
    IfOk-weaker c.other_verdict.result (λ verdict. IsOtherVerdict case c.args.number c.args.cth c.args.esa verdict)
    (λ verdict. IsInferenceVerdict case c.args.number c.args.cth c.args.esa verdict)
    (λ verdict h.
    is.other verdict c.requires.fit
    (apart_shape case c.args.number c.args.cth c.args.esa
    (subst (λ (x : Link). IsLink case c.args.number x) c.in-Apart.is (c.requires.right.forms.links c.args.number c.known.result.now c.known.ensures))
    c.requires.within.within c.requires.derived c.requires.fit)
    h)
    c.other_verdict.ensures
