use Rattle.std.proofs.Common.{ap}
use Rattle.dk_cli.specs.Commands.{convert, expansion, generate}
use Rattle.dk_cli.specs.Steps.{answer_view}
use Rattle.dk_cli.specs.Views.{command_view, names_view, output_view}
use Rattle.dk_cli.proofs.GenerationLaws.{generated_answers}
use Rattle.dk_cli.proofs.WordsAnswered.{answers_as, fixed_as}
use Rattle.dk_cli.proofs.answer.command_answer.Goals as goal

pub returns-in-Convert-clause-answers : goal.returns-in-Convert-clause-answers
returns-in-Convert-clause-answers g c =
    answers_as (g.I.Inputs.told c.args.inputs.now) (convert c.in-Convert.syntax (names_view c.in-Convert.names) c.in-Convert.limit) (command_view c.args.command) _ _
    (answer_view c.convert.result) (output_view c.made.result) (ap command_view c.in-Convert.is) c.made.ensures c.convert.ensures.answers

pub returns-in-Expansion-clause-answers : goal.returns-in-Expansion-clause-answers
returns-in-Expansion-clause-answers g c =
    answers_as (g.I.Inputs.told c.args.inputs.now) (expansion (names_view c.in-Expansion.names) c.in-Expansion.limit) (command_view c.args.command) _ _
    (answer_view c.expansion.result) (output_view c.made-in-Expansion.result) (ap command_view c.in-Expansion.is) c.made-in-Expansion.ensures c.expansion.ensures.answers

pub returns-in-Generate-clause-answers : goal.returns-in-Generate-clause-answers
returns-in-Generate-clause-answers g c =
    let told = g.I.Inputs.told c.args.inputs.now in
    let n = g.I.Inputs.faults c.args.inputs.now in
    answers_as told (generate c.in-Generate.number) (command_view c.args.command) n n
    (answer_view c.generated.result) (output_view c.made-in-Generate.result) (ap command_view c.in-Generate.is) c.made-in-Generate.ensures
    (generated_answers told c.in-Generate.number n (answer_view c.generated.result) c.generated.ensures)

pub returns-in-Generate-clause-fixed : goal.returns-in-Generate-clause-fixed
returns-in-Generate-clause-fixed g c =
    fixed_as (generate c.in-Generate.number) (command_view c.args.command) (answer_view c.generated.result) (output_view c.made-in-Generate.result)
    (ap command_view c.in-Generate.is) c.made-in-Generate.ensures c.generated.ensures
