use Rattle.std.proofs.Common.{arith, ap, ap₂, subst, ◌∙◌, get_or, sum_by}
use Rattle.std.specs.Map.{values_of}
use Rattle.dk_syntax.specs.Depth.{capped}
use Rattle.dk_syntax.specs.Shapes.{IsEntered}
use Rattle.dk_syntax.proofs.EntryLaws.{below_view, kept_entered, length_view, numbered_view, size_view}
use Rattle.dk_syntax.specs.declared.term_table.Shape.TheVariants.{App}
use Rattle.dk_syntax.proofs.term_table.TermTable.add.Goals as goal

pub invariant_of-self-2 : goal.invariant_of-self-2
invariant_of-self-2 c =
    let es = c.self.inside.entries.entries in
    let new = c.enter.new.entries.entries in
    let size = c.saturating_add-size.result in
    let few = length_view es c.args.self.now c.self.view_is in
    let below = below_view es c.args.self.now c.args.args.now c.self.view_is c.requires.numbers in
    let same = ap₂ App c.in_ok-copy.ensures (c.from_vec-args.ensures ∙ c.in_ok-from_slice.ensures.items ∙ c.as_slice-2.ensures) in
    let sizes = c.size_of_args.ensures ∙ ap (λ ns. capped (sum_by (λ n. get_or (values_of es) n 0) ns)) c.as_slice.ensures in
    kept_entered es new (App c.args.head.now c.args.args.now) size c.in_ok-number.number c.self.invariant below
    (size_view es c.args.args.now c.args.head.now c.size_of_args.result size c.self.invariant below sizes c.saturating_add-size.ensures) (omega arith)
    (subst (λ shape. IsEntered es shape size new c.in_ok-number.number) same c.in_ok-number.ensures.ok)

pub returns-clause-ok : goal.returns-clause-ok
returns-clause-ok c =
    let es = c.self.inside.entries.entries in
    let new = c.enter.new.entries.entries in
    let size = c.saturating_add-size.result in
    let below = below_view es c.args.self.now c.args.args.now c.self.view_is c.requires.numbers in
    let same = ap₂ App c.in_ok-copy.ensures (c.from_vec-args.ensures ∙ c.in_ok-from_slice.ensures.items ∙ c.as_slice-2.ensures) in
    numbered_view es new c.args.self.now (App c.args.head.now c.args.args.now) size c.in_ok-number.number c.self.view_is c.self.invariant below
    (subst (λ shape. IsEntered es shape size new c.in_ok-number.number) same c.in_ok-number.ensures.ok)
