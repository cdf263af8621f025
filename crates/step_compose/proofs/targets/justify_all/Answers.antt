use Rattle.std.proofs.Common.{ap, get_or, rules}
use Rattle.step_compose.proofs.Justified.{justified_more, numbered_item, unjustified}
use Rattle.step_compose.proofs.targets.justify_all.Goals as goal

pub justify-requires-clause-target : goal.justify-requires-clause-target
justify-requires-clause-target c =
    numbered_item c.as_slice-rows.result.now c.args.targets.now.rows c.loop-k.k (get_or c.as_slice-rows.result.now c.loop-k.k c.index-rows-k.result)
    c.as_slice-rows.ensures c.loop-k-test.true (ap (get_or c.as_slice-rows.result.now c.loop-k.k) c.index-rows-k.is) c.requires.targets

pub returns-in-None : goal.returns-in-None
returns-in-None c =
    unjustified c.as_slice-rows.result.now c.args.targets.now.rows c.loop-k.k (get_or c.as_slice-rows.result.now c.loop-k.k c.index-rows-k.result) c.args.lists.now
    c.in_ok-found.found c.as_slice-rows.ensures c.loop-k-test.true (ap (get_or c.as_slice-rows.result.now c.loop-k.k) c.index-rows-k.is) c.in_ok-found.ensures.answer c.in-None.is

pub loop-k-preserved : goal.loop-k-preserved
loop-k-preserved c =
    justified_more c.as_slice-rows.result.now c.args.targets.now.rows c.loop-k.k (get_or c.as_slice-rows.result.now c.loop-k.k c.index-rows-k.result) c.args.lists.now
    c.loop-k.steps c.push.new.self c.in_ok-found.found c.in-Some.step c.as_slice-rows.ensures c.loop-k-test.true
    (ap (get_or c.as_slice-rows.result.now c.loop-k.k) c.index-rows-k.is) c.loop-k.invariant c.in_ok-found.ensures.answer c.in-Some.is (search rules)
