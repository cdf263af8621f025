-- Instances and thin trees are over the known symbols.
use Rattle.std.proofs.Common.{List}
use Rattle.dk_syntax.specs.declared.symbol.SymKey.{SymKey}
use Rattle.plan_symbols.proofs.InstancesOver.{instances_over}
use Rattle.plan_symbols.proofs.PremisesOver.{known_over}
use Rattle.plan_symbols.proofs.RowsOver.{every_only}
use Rattle.plan_symbols.proofs.ThinsOver.{thins_over}
use Rattle.plan_symbols.proofs.VerdictsOver.{PutNoOthers}
use Rattle.plan_symbols.specs.Laws.{InstancesAreOver, StepsAreOver, ThinsAreOver}
use Rattle.plan_symbols.specs.Over.{known_symbols}

pub instances_by : StepsAreOver → ((symbols : List SymKey) → PutNoOthers symbols) → InstancesAreOver
instances_by steps put case list origins known root instances h =
    let symbols = known_symbols case.problem origins in
    every_only (λ it w. record { terms = w.terms; lits = w.lits })
    (instances_over symbols case list known.right known.formed (put symbols) (known_over steps case list origins known) root instances h)

pub thins_by : StepsAreOver → ThinsAreOver
thins_by steps case list origins known it thin over h =
    let symbols = known_symbols case.problem origins in
    let w = thins_over symbols case list known.right known.formed (known_over steps case list origins known) it thin over.terms h in
    record { terms = w.terms; skolems = w.skolems }
