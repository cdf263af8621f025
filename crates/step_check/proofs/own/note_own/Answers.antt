use Rattle.step_check.proofs.TableLaws.{right_put}
use Rattle.step_check.specs.Notes.{case_given, IsOwn}
use Rattle.step_check.proofs.own.note_own.Goals as goal

pub returns-clause-right : goal.returns-clause-right
returns-clause-right c =
    right_put (IsOwn (case_given c.args.given.now)) c.args.owns.now c.put.new.self c.args.number c.in_ok-own.own c.requires c.in_ok-own.ensures c.in_ok-put.ensures.there c.in_ok-put.ensures.others
