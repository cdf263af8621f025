use Rattle.std.proofs.Common.{◌∙◌, ap, option_map}
use Rattle.clap.specs.Words.{is_simple_and_free}
use Rattle.words.specs.Parser.{picked_from, rows_read}
use Rattle.words.specs.Views.{texts}
use Rattle.words.proofs.ParserLaws.{simple_always}
use Rattle.words.proofs.given.found_in.Goals as goal

pub matches_in-requires : goal.matches_in-requires
matches_in-requires c =
    ap is_simple_and_free c.in_ok-parser.ensures ∙ simple_always c.args.takes.second c.args.takes.limit c.args.takes.workers

pub returns : goal.returns
returns c =
    c.picked_in.ensures
    ∙ ap (option_map picked_from) (c.in_ok-matches.ensures ∙ ap (λ a. rows_read a (texts c.args.words.now)) c.in_ok-parser.ensures)
