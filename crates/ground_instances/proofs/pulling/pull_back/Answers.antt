use Rattle.std.proofs.Common.{◌≡◌, List, Ok, ap₂, sym, subst}
use Rattle.std.specs.List.{All}
use Rattle.step_check.specs.Steps.{case_of}
use Rattle.ground_instances.specs.Instances.{AreDifferent, AreInstances, clauses_in, EndsIn, HasNeedsBefore, IsFirstWide, IsPullAnswer, IsWide}
use Rattle.ground_instances.specs.Keys.{Judged, judged_by}
use Rattle.ground_instances.specs.Lists.{instances_of}
use Rattle.ground_instances.specs.Notes.{HasImages, judged_given}
use Rattle.ground_instances.specs.Rows.{AreRowsBelow, instances_by}
use Rattle.ground_instances.specs.States.{IsVisitFault}
use Rattle.ground_instances.specs.Weights.{AreTermsOf}
use Rattle.ground_instances.specs.declared.instance.Instance.{Instance}
use Rattle.ground_instances.proofs.OutcomeLaws.{err_answer, outcome, outcome_last, outcome_table, outcome_within}
use Rattle.ground_instances.proofs.StandsLaws.{images}
use Rattle.ground_instances.proofs.pulling.pull_back.Goals as goal

pub visited-requires : goal.visited-requires
visited-requires c =
    let trace = c.args.trace.now in let graph = c.args.graph.now in let verdicts = c.args.verdicts.now in
    let same : judged_given (record { steps = c.as_slice.result; rows = c.as_slice-2.result; verdicts = c.as_slice-3.result }) ≡ judged_by trace graph verdicts =
    λ i. record { steps = c.as_slice.ensures i; rows = c.as_slice-2.ensures i; verdicts = c.as_slice-3.ensures i } in
    subst HasImages (sym same) (images (case_of c.requires.0 trace graph) verdicts.list c.requires.1 c.requires.2)

pub returns-in_err-state-clause-answer : goal.returns-in_err-state-clause-answer
returns-in_err-state-clause-answer c =
    let trace = c.args.trace.now in let graph = c.args.graph.now in let verdicts = c.args.verdicts.now in
    let judged : Judged = record { steps = c.as_slice.result.now; rows = c.as_slice-2.result.now; verdicts = c.as_slice-3.result.now } in
    let same : judged ≡ judged_by trace graph verdicts =
    λ i. record { steps = c.as_slice.ensures i; rows = c.as_slice-2.ensures i; verdicts = c.as_slice-3.ensures i } in
    err_answer (judged_by trace graph verdicts) c.args.root c.args.limit c.from_residual.result c.in_err-state.field-0.0 c.from_residual.ensures.1
    (subst (λ j. IsVisitFault j c.args.root c.args.limit c.in_err-state.field-0.0) same c.in_err-state.ensures.fault)

pub first_wide-requires : goal.first_wide-requires
first_wide-requires c = subst (AreRowsBelow c.in_ok-state.state.table) (sym c.as_slice-4.ensures.value) c.in_ok-state.ensures.state.kept.below

pub returns-in-Some-clause-answer : goal.returns-in-Some-clause-answer
returns-in-Some-clause-answer c =
    let trace = c.args.trace.now in let graph = c.args.graph.now in let verdicts = c.args.verdicts.now in
    let judged : Judged = record { steps = c.as_slice.result.now; rows = c.as_slice-2.result.now; verdicts = c.as_slice-3.result.now } in
    let same : judged ≡ judged_by trace graph verdicts =
    λ i. record { steps = c.as_slice.ensures i; rows = c.as_slice-2.ensures i; verdicts = c.as_slice-3.ensures i } in
    let state = c.in_ok-state.state in let st = c.in_ok-state.ensures.state in let rows = state.rows.items in (
      instances_by state.table rows,
      subst (λ j. AreInstances j c.args.root (instances_by state.table rows)) same (outcome judged c.args.root state st),
      outcome_within judged c.args.root state st c.args.limit c.len-count.ensures.table c.in_ok-state.ensures.within,
      subst (λ rs. IsFirstWide (instances_by state.table rs) c.in-Some.step) c.as_slice-4.ensures.value c.in-Some.ensures,
    )

pub returns-clause-answer : goal.returns-clause-answer
returns-clause-answer c =
    let trace = c.args.trace.now in let graph = c.args.graph.now in let verdicts = c.args.verdicts.now in
    let judged : Judged = record { steps = c.as_slice.result.now; rows = c.as_slice-2.result.now; verdicts = c.as_slice-3.result.now } in
    let same : judged ≡ judged_by trace graph verdicts =
    λ i. record { steps = c.as_slice.ensures i; rows = c.as_slice-2.ensures i; verdicts = c.as_slice-3.ensures i } in
    let state = c.in_ok-state.state in let st = c.in_ok-state.ensures.state in let rows = state.rows.items in
    let list : instances_of c.list_of.result ≡ instances_by state.table rows = ap₂ instances_by c.list_of.ensures.table c.list_of.ensures.rows in
    let P : List Instance → Type 0 = λ (xs : List Instance). IsPullAnswer (judged_by trace graph verdicts) c.args.root c.args.limit (Ok xs) in
    subst P (sym list) (
      subst (λ j. AreInstances j c.args.root (instances_by state.table rows)) same (outcome judged c.args.root state st),
      outcome_within judged c.args.root state st c.args.limit c.len-count.ensures.table c.in_ok-state.ensures.within,
      subst (λ rs. All (λ (it : Instance). IsWide it → ⊥) (instances_by state.table rs)) c.as_slice-4.ensures.value c.in_default.ensures,
    )

pub returns-clause-once : goal.returns-clause-once
returns-clause-once c =
    let list : instances_of c.list_of.result ≡ instances_by c.in_ok-state.state.table c.in_ok-state.state.rows.items = ap₂ instances_by c.list_of.ensures.table c.list_of.ensures.rows in
    subst AreDifferent (sym list) c.in_ok-state.ensures.state.pulled.once

pub returns-clause-before : goal.returns-clause-before
returns-clause-before c =
    let list : instances_of c.list_of.result ≡ instances_by c.in_ok-state.state.table c.in_ok-state.state.rows.items = ap₂ instances_by c.list_of.ensures.table c.list_of.ensures.rows in
    subst HasNeedsBefore (sym list) c.in_ok-state.ensures.state.pulled.before

pub returns-clause-last : goal.returns-clause-last
returns-clause-last c =
    let judged : Judged = record { steps = c.as_slice.result.now; rows = c.as_slice-2.result.now; verdicts = c.as_slice-3.result.now } in
    let list : instances_of c.list_of.result ≡ instances_by c.in_ok-state.state.table c.in_ok-state.state.rows.items = ap₂ instances_by c.list_of.ensures.table c.list_of.ensures.rows in
    subst (EndsIn c.args.root) (sym list) (outcome_last judged c.args.root c.in_ok-state.state c.in_ok-state.ensures.state)

pub returns-clause-table : goal.returns-clause-table
returns-clause-table c =
    let judged : Judged = record { steps = c.as_slice.result.now; rows = c.as_slice-2.result.now; verdicts = c.as_slice-3.result.now } in
    let state = c.in_ok-state.state in
    subst (λ t. AreTermsOf (clauses_in (instances_by t c.list_of.result.rows)) t) (sym c.list_of.ensures.table)
    (subst (λ rs. AreTermsOf (clauses_in (instances_by state.table rs)) state.table) (sym c.list_of.ensures.rows)
    (outcome_table judged c.args.root state c.in_ok-state.ensures.state c.len-count.ensures.table))
