use Rattle.dk_syntax.specs.declared.term.Term.TheVariants.{App}
use Rattle.ground_instances.specs.Rows.{terms_by}
use Rattle.ground_instances.proofs.Growth.{entered_numbered}
use Rattle.ground_instances.proofs.entering.enter_app.Goals as goal

pub returns : goal.returns
returns c =
    entered_numbered c.args.table.now c.add.new.self (App c.args.symbol.now (terms_by c.args.table.now c.args.args.now)) c.in_ok-number.number c.in_ok-number.ensures.ok
