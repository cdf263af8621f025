use Rattle.std.proofs.Common.{◌≡◌, take}
use Rattle.tptp_text.proofs.copies.+copy_source.Given as goal

abbrev pub invariant-copy_sources-loop-source : goal.invariant-copy_sources-loop-source
invariant-copy_sources-loop-source l = l.all ≡ take l.source-index l.sources
