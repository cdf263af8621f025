use Rattle.std.proofs.Common.{sym, ◌∙◌, arith}
use Rattle.dk_io.proofs.StoredFiles.{named_here}
use Rattle.dk_io.proofs.mem_inputs.place_of.Goals as goal

pub returns-then-eq-clause-found : goal.returns-then-eq-clause-found
returns-then-eq-clause-found c =
    sym c.loop-place.invariant ∙ named_here c.args.files.now c.args.name.now c.loop-place.place c.index-files-place.result (omega arith) c.index-files-place.is
    (rw (← c.as_str.ensures.value) (sym c.eq.ensures ∙ c.if-eq.true))
