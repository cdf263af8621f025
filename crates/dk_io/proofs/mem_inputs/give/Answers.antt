use Rattle.std.proofs.Common.{drop, length, arith, ap, ◌∙◌}
use Rattle.std.proofs.lemmas.List.{length-drop, length-take-le}
use Rattle.dk_io.proofs.StoredFiles.{moved}
use Rattle.dk_io.proofs.mem_inputs.give.Goals as goal

pub returns-clause-gives : goal.returns-clause-gives
returns-clause-gives c =
    let file = c.args.file.now in
    let at = c.args.at in
    let n = c.min-count.result in
    let copied = rw c.split_at.ensures.back at c.copy_from_slice.ensures.after in
    let some = rw (c.split_at.ensures.back, length-drop) at c.min.ensures in
    record {
      bytes = moved file at n c.copy_from_slice.new.self (drop n c.args.buf.now) copied (ap length copied ∙ length-take-le n (drop at file) (omega (arith, some, c.min-count.ensures, length-drop at file)));
      end = λ none room. absurd (omega (arith, some, c.min-count.ensures, none, room));
    }
