use Rattle.words.specs.Reading.{asks_command}
use Rattle.words.specs.Views.{texts}
use Rattle.dk_cli.proofs.WordsAnswered.{asks_if, memory_fixed, memory_wanted}
use Rattle.dk_cli.proofs.answer.answer.Goals as goal

pub returns-in-Err-clause-answers : goal.returns-in-Err-clause-answers
returns-in-Err-clause-answers g c =
    let line = texts c.args.words.now in
    memory_wanted (g.I.Inputs.told c.args.inputs.now) line (g.I.Inputs.faults c.args.inputs.now)
    (asks_if (asks_command line) c.asked_command.result c.in-Err.field-0 c.in-Err.is c.asked_command.ensures.settled)

pub returns-in-Err-clause-fixed : goal.returns-in-Err-clause-fixed
returns-in-Err-clause-fixed g c =
    let line = texts c.args.words.now in
    memory_fixed line (asks_if (asks_command line) c.asked_command.result c.in-Err.field-0 c.in-Err.is c.asked_command.ensures.settled)
