-- What is seen, with what is left, makes the whole.
use Rattle.std.proofs.Common.{◌≡◌, drop}
use Rattle.tstp_trace.specs.Names.{each_once, with_names}
use Rattle.tstp_trace.proofs.words.once.Given as goal

abbrev pub invariant-loop-name : goal.invariant-loop-name
invariant-loop-name l = with_names l.seen (drop l.name-index l.names) ≡ each_once l.names
