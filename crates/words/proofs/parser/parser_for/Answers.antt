use Rattle.std.proofs.Common.{◌∙◌, ap, codes, true}
use Rattle.std.proofs.lemmas.Result.{IfOk-weaker}
use Rattle.clap.specs.Words.{App}
use Rattle.words.specs.Parser.{name_if, option_if}
use Rattle.words.proofs.parser.parser_for.Goals as goal

pub returns : goal.returns
returns c =
    let limited = c.in_ok-limited.ensures ∙ ap (λ (a : App). option_if c.args.takes.limit a (codes "limit"))
    (c.in_ok-names.ensures ∙ ap (λ (a : App). name_if c.args.takes.second a (codes "SECOND"))
    (c.in_ok-one_name.ensures ∙ ap (λ (a : App). name_if true a (codes "FIRST")) c.bare_parser.ensures)) in
    IfOk-weaker c.add_option-2.result _ _ (λ r h. h ∙ ap (λ (a : App). option_if c.args.takes.workers a (codes "workers")) limited)
    c.add_option-2.ensures
