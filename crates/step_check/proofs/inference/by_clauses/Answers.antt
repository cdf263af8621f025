use Rattle.std.proofs.Common.{◌≤◌, List, Contains, length, sym, ap, subst, ◌∙◌}
use Rattle.std.proofs.lemmas.Result.{IfOk-weaker}
use Rattle.normal_form.specs.ClauseLists.{clause_rows}
use Rattle.normal_form.specs.declared.clause_list.ClauseRow.{ClauseRow}
use Rattle.step_check.proofs.ClausalLaws.{lists_long}
use Rattle.step_check.proofs.InferenceLaws.{lists_numbered}
use Rattle.step_check.proofs.WithinLaws.{short_parent}
use Rattle.step_check.specs.Notes.{case_given}
use Rattle.step_check.specs.Verdicts.{AreLists, IsClausalVerdict, IsPlainVerdict}
use Rattle.step_check.specs.Verdicts as is
use Rattle.step_check.proofs.inference.by_clauses.Goals as goal

pub lists_at-requires-clause-short : goal.lists_at-requires-clause-short
lists_at-requires-clause-short c = λ q there.
    short_parent (case_given c.args.given.now) c.args.number q c.requires.within c.requires.plain (subst (λ l. Contains l q) c.parents_at.ensures there)

pub clausal_verdict-requires-clause-lists : goal.clausal_verdict-requires-clause-lists
clausal_verdict-requires-clause-lists c =
    lists_numbered (case_given c.args.given.now) c.parents_at.result.now c.in_ok-lists.lists c.in_ok-lists.ensures

pub clausal_verdict-requires-clause-few : goal.clausal_verdict-requires-clause-few
clausal_verdict-requires-clause-few c =
    subst (λ n. n ≤ 8)
    (sym (lists_long (case_given c.args.given.now) c.parents_at.result.now c.in_ok-lists.lists c.in_ok-lists.ensures ∙ ap length c.parents_at.ensures))
    (c.requires.sound.few c.args.number)

pub returns : goal.returns
returns c =
    let case = case_given c.args.given.now in
    let lists = c.in_ok-lists.lists in
    IfOk-weaker c.clausal_verdict.result (λ verdict. IsClausalVerdict lists c.in_ok-targets.targets.rows verdict) (λ verdict. IsPlainVerdict case c.args.number verdict)
    (λ verdict h.
    is.by_clauses lists verdict c.requires.plain c.requires.known (subst (λ l. AreLists case l lists) c.parents_at.ensures c.in_ok-lists.ensures)
    (subst (λ (rows : List ClauseRow). IsClausalVerdict lists rows verdict) (c.in_ok-targets.ensures.rows ∙ ap clause_rows c.own_form_of.ensures) h))
    c.clausal_verdict.ensures
