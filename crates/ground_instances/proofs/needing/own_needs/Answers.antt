use Rattle.std.proofs.Common.{◌≡◌, List, [], Some, slice_get, ap, ◌∙◌, sym, subst}
use Rattle.step_clause.specs.declared.justification.Justification.{Justification}
use Rattle.step_check.specs.declared.verdict.Verdict.TheVariants.{Conjecture, Leaf}
use Rattle.ground_instances.specs.Naming.{AreNamed}
use Rattle.ground_instances.specs.Notes.{judged_given}
use Rattle.ground_instances.specs.Rows.{terms_by}
use Rattle.ground_instances.proofs.NeedLaws.{clausal_needs, composed_needs, leaf_needs, none_named, structural_needs}
use Rattle.ground_instances.proofs.needing.own_needs.Goals as goal

pub returns-in-Some-Leaf : goal.returns-in-Some-Leaf
returns-in-Some-Leaf c =
    let table = c.args.table.now in let named = c.args.named.now in
    leaf_needs (judged_given c.args.given.now) table table named.place (terms_by table named.terms) c.new.result Leaf
    (c.in-Some-Leaf.ensures ∙ ap Some c.in-Some-Leaf.field-0-is) tt tt c.requires.stage (subst (AreNamed table [] table) (sym c.new.ensures) (none_named table))

pub returns-in-Some-Conjecture : goal.returns-in-Some-Conjecture
returns-in-Some-Conjecture c =
    let table = c.args.table.now in let named = c.args.named.now in
    leaf_needs (judged_given c.args.given.now) table table named.place (terms_by table named.terms) c.new-in-Some-Conjecture.result Conjecture
    (c.in-Some-Conjecture.ensures ∙ ap Some c.in-Some-Conjecture.field-0-is) tt tt c.requires.stage
    (subst (AreNamed table [] table) (sym c.new-in-Some-Conjecture.ensures) (none_named table))

pub returns-in_ok-names-in-Some-Structural : goal.returns-in_ok-names-in-Some-Structural
returns-in_ok-names-in-Some-Structural c =
    let table = c.args.table.now in let named = c.args.named.now in let h = c.in_ok-names-in-Some-Structural.ensures in
    structural_needs (judged_given c.args.given.now) table table named.place (terms_by table named.terms) c.in_ok-names-in-Some-Structural.names c.in-Some-Structural.field-0-0 h.0
    (c.in-Some-Structural.ensures ∙ ap Some c.in-Some-Structural.field-0-is) c.requires.stage h.1 h.2

pub returns-in_ok-names-in-Some-Clausal : goal.returns-in_ok-names-in-Some-Clausal
returns-in_ok-names-in-Some-Clausal c =
    let table = c.args.table.now in let named = c.args.named.now in let h = c.in_ok-names-in-Some-Clausal.ensures in
    clausal_needs (judged_given c.args.given.now) table c.clausal_needs.new.table named.place (terms_by table named.terms) c.in_ok-names-in-Some-Clausal.names
    c.in-Some-Clausal.steps h.0 (c.in-Some-Clausal.ensures ∙ ap Some c.in-Some-Clausal.field-0-is) c.requires.stage
    (subst (λ (steps : List Justification). slice_get steps named.place.clause ≡ Some h.0) c.as_slice-steps.ensures h.1) h.2

pub returns-in_ok-names-in-Some-Composes : goal.returns-in_ok-names-in-Some-Composes
returns-in_ok-names-in-Some-Composes c =
    let table = c.args.table.now in let named = c.args.named.now in let h = c.in_ok-names-in-Some-Composes.ensures in
    composed_needs (judged_given c.args.given.now) table c.clausal_needs-in-Some-Composes.new.table named.place (terms_by table named.terms) c.in_ok-names-in-Some-Composes.names
    c.in-Some-Composes.composed h.0 (c.in-Some-Composes.ensures ∙ ap Some c.in-Some-Composes.field-0-is) c.requires.stage
    (subst (λ (steps : List Justification). slice_get steps named.place.clause ≡ Some h.0) c.as_slice-steps-in-Some-Composes.ensures h.1) h.2
