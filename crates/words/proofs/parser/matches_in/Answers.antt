use Rattle.std.proofs.Common.{◌∙◌, sym, ap, Some}
use Rattle.clap.specs.Words.{app_of, matches_of, fault_of}
use Rattle.clap.proofs.WalkLemmas.{both}
use Rattle.words.specs.Parser.{rows_if}
use Rattle.words.specs.Views.{texts}
use Rattle.words.proofs.ParserLaws.{refused_rows}
use Rattle.words.proofs.parser.matches_in.Goals as goal

pub returns-in-Ok : goal.returns-in-Ok
returns-in-Ok c =
    ap Some (c.in-Ok.ensures.matches (both _ _ c.requires).0).0
    ∙ sym (ap (λ f. rows_if f (matches_of (app_of c.args.parser) (texts c.args.words.now))) (c.in-Ok.ensures.kinds c.requires))

pub returns : goal.returns
returns c =
    refused_rows (fault_of (app_of c.args.parser) (texts c.args.words.now)) (matches_of (app_of c.args.parser) (texts c.args.words.now))
    c.in-Err.error (c.in-Err.ensures.kinds c.requires) (λ m. c.in_default.not-OutOfMemory (c.kind.ensures ∙ m))
