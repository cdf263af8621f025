use Rattle.std.proofs.Common.{sym}
use Rattle.words.proofs.NumberLaws.{number_err}
use Rattle.words.proofs.number.number_to.Goals as goal

pub returns-in-Err : goal.returns-in-Err
returns-in-Err c =
    number_err c.args.most c.args.text.now c.in-Err.field-0 c.ranges.most.fits (sym c.if-not-is_number.ensures) c.in-Err.ensures.value.0
