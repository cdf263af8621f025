use Rattle.std.proofs.Common.{◌+◌, List, map, take, sym, subst, arith}
use Rattle.std.proofs.lemmas.List.{take_all}
use Rattle.std.proofs.lemmas.List.Elements.{All-get_or}
use Rattle.plan.proofs.OriginAnswers.{origins_more}
use Rattle.plan.specs.Known.{AreOriginsBy, HasFirst}
use Rattle.skolem_order.specs.declared.origins.Origin.{Origin}
use Rattle.step_skolem.specs.declared.map.SkEntry.{SkEntry}
use Rattle.plan.proofs.origins.origins_by.Goals as goal

pub origin_by-requires : goal.origin_by-requires
origin_by-requires c =
    let entries = c.args.it.now.map.entries in
    subst (λ (e : SkEntry). HasFirst entries e.symbol) (sym c.one-item.is)
    (All-get_or (λ (e : SkEntry). HasFirst entries e.symbol) c.args.own.now c.loop-one.one-index c.one-item.result c.loop-one-test.true c.requires)

pub loop-one-preserved : goal.loop-one-preserved
loop-one-preserved c =
    let leaf = c.args.leaf.now in let it = c.args.it.now in let own = c.args.own.now in let i = c.loop-one.one-index in
    subst (λ (l : List Origin). AreOriginsBy leaf it (map (λ (one : SkEntry). one.symbol) (take (i + 1) own)) l) (sym c.in_ok-push.ensures.items)
    (origins_more leaf it own i c.one-item.result c.loop-one.here.items c.in_ok-origin.origin c.loop-one-test.true c.one-item.is c.loop-one.invariant c.in_ok-origin.ensures)

pub returns : goal.returns
returns c =
    let own = c.args.own.now in let i = c.loop-one.one-index in
    subst (λ (l : List SkEntry). AreOriginsBy c.args.leaf.now c.args.it.now (map (λ (one : SkEntry). one.symbol) l) c.loop-one.here.items)
    (take_all i own (omega (arith, c.loop-one-test.false))) c.loop-one.invariant
