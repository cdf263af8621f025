use Rattle.std.proofs.Common.{◌≡◌, IfOk, subst, option_map}
use Rattle.words.specs.Reading.{command_of}
use Rattle.words.specs.Views.{texts, words_view}
use Rattle.dk_cli.proofs.WordLaws.{has_workers}
use Rattle.dk_cli.proofs.WordsAnswered.{words_read}
use Rattle.dk_cli.proofs.command.asked_command.Goals as goal

pub command_asked-requires : goal.command_asked-requires
command_asked-requires c =
    let line = texts c.args.words.now in
    let read = subst (λ r. IfOk r (λ asked. option_map words_view asked ≡ command_of line)) c.in_ok-read.was c.read_words.ensures.read in
    has_workers line (words_view c.in-Some.asked) (words_read line c.in_ok-read.read c.in-Some.asked c.in-Some.is read)
