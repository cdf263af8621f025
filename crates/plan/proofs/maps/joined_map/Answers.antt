use Rattle.std.proofs.Common.{◌≡◌, [], sym, subst}
use Rattle.std.proofs.lemmas.Result.{IfOk-weaker}
use Rattle.plan.proofs.MapAnswers.{chained_leads, first_empty, next_empty}
use Rattle.plan.specs.Known.{LeadsOn}
use Rattle.step_skolem.specs.declared.map.SkMap.{SkMap}
use Rattle.plan.proofs.maps.joined_map.Goals as goal

pub returns-then-is_empty : goal.returns-then-is_empty
returns-then-is_empty c =
    let steps = c.args.given.now.steps.now in let first = c.args.first.now in let next = c.args.next.now.entries in
    let empty : next ≡ [] = c.is_empty.ensures.0 c.if-is_empty.true in
    IfOk-weaker c.copy.result (λ (m : SkMap). m ≡ first.map) (λ (m : SkMap). LeadsOn steps first next m.entries)
    (λ m e. subst (λ (x : SkMap). LeadsOn steps first next x.entries) (sym e) (next_empty steps first next empty)) c.copy.ensures

pub returns-then-is_empty-2 : goal.returns-then-is_empty-2
returns-then-is_empty-2 c =
    let steps = c.args.given.now.steps.now in let first = c.args.first.now in let next = c.args.next.now in
    let empty : first.map.entries ≡ [] = c.is_empty-2.ensures.0 c.if-is_empty-2.true in
    IfOk-weaker c.copy-then-is_empty-2.result (λ (m : SkMap). m ≡ next) (λ (m : SkMap). LeadsOn steps first next.entries m.entries)
    (λ m e. subst (λ (x : SkMap). LeadsOn steps first next.entries x.entries) (sym e) (first_empty steps first next.entries empty)) c.copy-then-is_empty-2.ensures

pub returns : goal.returns
returns c =
    chained_leads c.chain.result c.args.given.now.steps.now c.args.first.now c.args.next.now.entries c.in_ok-form.form c.in_ok-form.ensures c.chain.ensures.image
