use Rattle.std.proofs.Common.{Result, sym, subst}
use Rattle.lp_term.specs.declared.Dev.{Dev}
use Rattle.lp_read.specs.declared.fault.LpFault.{LpFault}
use Rattle.lp_read.specs.ReadingText.{Answers}
use Rattle.lp_read.specs.Text.{IsReadAnswer}
use Rattle.lp_read.proofs.AnswerLaws.{answers, only_answer}
use Rattle.lp_read.proofs.text.read_dev.Goals as goal

pub returns-clause-answer : goal.returns-clause-answer
returns-clause-answer c = subst (IsReadAnswer c.args.bytes.now) (sym c.developed.ensures) (answers c.args.bytes.now c.all_commands.result c.all_commands.ensures)

pub returns-clause-only : goal.returns-clause-only
returns-clause-only c = λ answer h told.
    subst (λ (r : Result Dev LpFault). Answers (λ x. x) r answer) (sym c.developed.ensures) (only_answer c.args.bytes.now c.all_commands.result answer c.all_commands.ensures h told)
