use Rattle.std.proofs.Common.{◌+◌, ℕ, sum_by, sym, ap, ◌∙◌}
use Rattle.dk_syntax.specs.Depth.{capped}
use Rattle.ground_instances.specs.Instances.{clauses_in}
use Rattle.ground_instances.specs.Rows.{instances_by}
use Rattle.ground_instances.proofs.WeightLaws.{literals_of, one_weight, weight_result}
use Rattle.ground_instances.proofs.reading.weight.Goals as goal

pub returns-clause-counted : goal.returns-clause-counted
returns-clause-counted c =
    let table = c.args.list.now.table in let rows = c.args.list.now.rows in
    weight_result table rows c.count_literals-literals.result c.saturating_add-some.result c.saturating_add.result
    (c.count_literals-literals.ensures ∙ ap (λ xs. capped (sum_by literals_of xs)) c.as_slice.ensures)
    (c.saturating_add-some.ensures ∙ ap (λ (n : ℕ). capped (c.count_literals-literals.result + n)) (c.from.ensures ∙ c.len.ensures.len))
    (c.saturating_add.ensures ∙ ap (λ (n : ℕ). capped (n + c.saturating_add-some.result)) c.len-2.ensures)

pub returns-clause-weight : goal.returns-clause-weight
returns-clause-weight c = λ exact weight is.
    (let table = c.args.list.now.table in let rows = c.args.list.now.rows in
    weight_result table rows c.count_literals-literals.result c.saturating_add-some.result c.saturating_add.result
    (c.count_literals-literals.ensures ∙ ap (λ xs. capped (sum_by literals_of xs)) c.as_slice.ensures)
    (c.saturating_add-some.ensures ∙ ap (λ (n : ℕ). capped (c.count_literals-literals.result + n)) (c.from.ensures ∙ c.len.ensures.len))
    (c.saturating_add.ensures ∙ ap (λ (n : ℕ). capped (n + c.saturating_add-some.result)) c.len-2.ensures)
    ∙ ap capped (sym (one_weight (clauses_in (instances_by table rows)) table weight exact is)))
