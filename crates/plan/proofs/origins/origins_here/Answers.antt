use Rattle.std.proofs.Common.{[], List, sym, subst}
use Rattle.dk_syntax.specs.declared.symbol.SymKey.{SymKey}
use Rattle.plan.proofs.Existence.{none_introduced}
use Rattle.plan.specs.Known.{case_given, judged_given}
use Rattle.plan.specs.Maps.{IsMapAnswer}
use Rattle.plan.specs.Origins.{AreOriginsOf}
use Rattle.skolem_order.specs.declared.origins.Origin.{Origin}
use Rattle.step_check.specs.Freshness.{introduced}
use Rattle.plan.proofs.origins.origins_here.Goals as goal

pub returns-in-None : goal.returns-in-None
returns-in-None c =
    let given = c.args.given.now in let right = c.requires.right in let judged = judged_given given in let number = c.args.number in
    let none = subst (IsMapAnswer judged number) c.in-None.ensures (c.requires.maps.each number) in
    subst (λ (l : List Origin). AreOriginsOf judged number (introduced c.args.verdict.now) l) (sym c.new.ensures.items)
    (subst (λ (x : List SymKey). AreOriginsOf judged number x []) (sym (none_introduced (case_given right.0 given) given.verdicts.now right.1 number c.args.verdict.now c.requires.here none)) tt)

pub origins_with-requires-clause-map : goal.origins_with-requires-clause-map
origins_with-requires-clause-map c =
    subst (IsMapAnswer (judged_given c.args.given.now) c.args.number) c.in-Some.ensures (c.requires.maps.each c.args.number)
