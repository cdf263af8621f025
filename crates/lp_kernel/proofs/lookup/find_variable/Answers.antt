use Rattle.std.proofs.Common.{arith}
use Rattle.lp_kernel.proofs.StepLaws.{variable_past, variable_found}
use Rattle.lp_kernel.proofs.lookup.find_variable.Goals as goal

pub returns-then-types-back : goal.returns-then-types-back
returns-then-types-back c = variable_past c.args.types.now c.args.number c.args.node (omega arith)

pub returns : goal.returns
returns c = variable_found c.args.types.now c.args.number c.args.node c.in_ok-up.up _ c.index-types-at.result c.in_ok-of.of (omega arith) (omega arith) c.index-types-at.is c.in_ok-of.ensures
