use Rattle.std.proofs.Common.{◌∙◌, ap, option_and_then}
use Rattle.words.specs.Parser.{Picked, given_found}
use Rattle.words.specs.Reading.{task_of}
use Rattle.words.specs.Views.{texts}
use Rattle.words.proofs.GivenLaws.{generated_is, texts_are}
use Rattle.words.proofs.given.generated_task.Goals as goal

pub returns : goal.returns
returns c =
    c.task_found.ensures
    ∙ (ap (option_and_then (λ (p : Picked). task_of (given_found p))) c.in_ok-found.ensures
    ∙ generated_is (texts c.args.words.now) (texts_are c.args.words.now))
