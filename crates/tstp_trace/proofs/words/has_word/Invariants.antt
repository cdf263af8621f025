use Rattle.std.proofs.Common.{◌≡◌, drop}
use Rattle.tstp_trace.specs.Names.{is_among}
use Rattle.tstp_trace.proofs.words.has_word.Given as goal

abbrev pub invariant-loop-name : goal.invariant-loop-name
invariant-loop-name l = is_among (drop l.name-index l.names) l.word ≡ is_among l.names l.word
