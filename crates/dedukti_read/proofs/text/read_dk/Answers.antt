use Rattle.std.proofs.Common.{Result, sym, subst}
use Rattle.lp_term.specs.declared.Dev.{Dev}
use Rattle.dedukti_read.specs.declared.fault.DkFault.{DkFault}
use Rattle.dedukti_read.specs.ReadingText.{Answers}
use Rattle.dedukti_read.specs.Text.{IsReadDkAnswer}
use Rattle.dedukti_read.proofs.AnswerLaws.{answers, only_answer}
use Rattle.dedukti_read.proofs.text.read_dk.Goals as goal

pub returns-clause-answer : goal.returns-clause-answer
returns-clause-answer c = subst (IsReadDkAnswer c.args.bytes.now) (sym c.developed.ensures) (answers c.args.bytes.now c.all_commands.result c.all_commands.ensures)

pub returns-clause-only : goal.returns-clause-only
returns-clause-only c = λ answer h told.
    subst (λ (r : Result Dev DkFault). Answers (λ x. x) r answer) (sym c.developed.ensures) (only_answer c.args.bytes.now c.all_commands.result answer c.all_commands.ensures h told)
