use Rattle.normal_form.proofs.ChainLaws.{one_more}
use Rattle.normal_form.proofs.chain.nested.Goals as goal

pub loop-member-preserved : goal.loop-member-preserved
loop-member-preserved c =
    one_more c.args.both c.loop-member.form c.loop-member.yielded c.in-Some.member c.in_ok-extended.field-0 c.loop-member.invariant c.in_ok-extended.ensures
