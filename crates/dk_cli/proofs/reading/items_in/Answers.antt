use Rattle.std.proofs.Common.{subst}
use Rattle.tptp_text.specs.Text.{IsReadAnswer}
use Rattle.dk_cli.specs.Derivations.{IsText}
use Rattle.dk_cli.proofs.StageLaws.{answered}
use Rattle.dk_cli.proofs.reading.items_in.Goals as goal

pub returns : goal.returns
returns c =
    answered (IsText c.args.file c.args.bytes.items) c.told_text.result
    (c.read_items.result, subst (λ bytes. IsReadAnswer bytes c.read_items.result) c.deref.ensures.value c.read_items.ensures.answer, c.told_text.ensures)
