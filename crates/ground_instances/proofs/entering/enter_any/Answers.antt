use Rattle.dk_syntax.specs.declared.term.Term.TheVariants.{Any}
use Rattle.ground_instances.proofs.Growth.{entered_numbered}
use Rattle.ground_instances.proofs.entering.enter_any.Goals as goal

pub returns : goal.returns
returns c = entered_numbered c.args.table.now c.any.new.self Any c.in_ok-number.number c.in_ok-number.ensures.ok
