use Rattle.std.proofs.Common.{◌∙◌, ap, option_and_then}
use Rattle.words.specs.Parser.{Picked, given_found}
use Rattle.words.specs.Reading.{sole_name}
use Rattle.words.specs.Views.{texts}
use Rattle.words.proofs.GivenLaws.{checked_is, texts_are}
use Rattle.words.proofs.given.checked_file.Goals as goal

pub returns : goal.returns
returns c =
    c.name_found.ensures
    ∙ (ap (option_and_then (λ (p : Picked). sole_name (given_found p).names)) c.in_ok-found.ensures
    ∙ checked_is (texts c.args.words.now) (texts_are c.args.words.now))
