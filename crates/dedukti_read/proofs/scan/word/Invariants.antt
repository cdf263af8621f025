use Rattle.std.proofs.Common.{◌≡◌, ◌++◌, length}
use Rattle.dedukti_read.specs.Scan.{word_in, behind_word}
use Rattle.dedukti_read.proofs.scan.word.Given as goal

abbrev pub decreases-loop-rest : goal.decreases-loop-rest
decreases-loop-rest l = length l.rest

abbrev pub invariant-loop-rest : goal.invariant-loop-rest
invariant-loop-rest l = record { word : l.word.items ++ word_in l.rest ≡ word_in l.bytes; behind : behind_word l.rest ≡ behind_word l.bytes }
