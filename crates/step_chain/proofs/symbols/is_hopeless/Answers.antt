use Rattle.std.proofs.Common.{◌≡◌, true, subst}
use Rattle.std.specs.List.{All}
use Rattle.std.specs.Prelude.{IsTrue, ◌↔◌}
use Rattle.step_chain.proofs.Loops.{on_not}
use Rattle.step_chain.specs.Symbols.{HasPartner}
use Rattle.step_chain.proofs.symbols.is_hopeless.Goals as goal

pub returns-then-needs : goal.returns-then-needs
returns-then-needs c =
    on_not c.all_may_go.result (c.args.needs ≡ true) (All (HasPartner c.args.target.now c.args.rest.now) c.args.middle.now.lits) c.if-needs.true
    (subst (λ z. IsTrue c.all_may_go.result ↔ All (HasPartner c.args.target.now c.args.rest.now) z) c.as_slice.ensures c.all_may_go.ensures)
