use Rattle.std.proofs.Common.{◌+◌, ◌++◌, [], ◌∷◌, take, sym, ap, ◌∙◌, subst}
use Rattle.ground_instances.specs.Growing.{AreEntered, AreLiteralsEntered, ground_literals, grounds}
use Rattle.ground_instances.specs.declared.instance.RowLit.{RowLit}
use Rattle.ground_instances.proofs.Growth.{literals_more, row_lit, take_one_more}
use Rattle.ground_instances.proofs.entering.enter_literals.Goals as goal

pub loop-literal-preserved : goal.loop-literal-preserved
loop-literal-preserved c =
    let old = c.args.table.now in let values = c.args.values.now in let lits = c.args.lits.now in let i = c.loop-literal.literal-index in
    let item = c.literal-item.result in let new = c.enter_terms.new.table in
    let args = subst (λ ts. AreEntered c.loop-literal.table (grounds c.loop-literal.table values ts) new c.in_ok-args.args) c.as_slice.ensures c.in_ok-args.ensures in
    let more = literals_more old c.loop-literal.table new values (take i lits) item c.loop-literal.rows c.in_ok-args.args c.requires c.loop-literal.invariant args in
    let last : RowLit = record { positive = item.positive; pred = c.in_ok-copy.field-0; args = c.in_ok-args.args } in
    subst (AreLiteralsEntered old (ground_literals old values (take (i + 1) lits)) new)
    (sym (c.in_ok-push.ensures.ok ∙ ap (λ p. c.loop-literal.rows ++ (record { positive = item.positive; pred = p; args = c.in_ok-args.args }) ∷ []) c.in_ok-copy.ensures))
    (subst (λ ls. AreLiteralsEntered old (ground_literals old values ls) new (c.loop-literal.rows ++ row_lit item c.in_ok-args.args ∷ []))
    (sym (take_one_more lits i item c.loop-literal-test.true c.literal-item.is)) more)
