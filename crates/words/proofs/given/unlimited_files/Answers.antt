use Rattle.std.proofs.Common.{◌∙◌, ap, option_and_then}
use Rattle.words.specs.Parser.{Picked, given_found}
use Rattle.words.specs.Reading.{files_of}
use Rattle.words.specs.Views.{texts}
use Rattle.words.proofs.GivenLaws.{unlimited_is, texts_are}
use Rattle.words.proofs.given.unlimited_files.Goals as goal

pub returns : goal.returns
returns c =
    c.files_found.ensures
    ∙ (ap (option_and_then (λ (p : Picked). files_of (given_found p))) c.in_ok-found.ensures
    ∙ unlimited_is (texts c.args.words.now) (texts_are c.args.words.now))
