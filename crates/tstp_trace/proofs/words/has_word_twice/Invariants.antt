use Rattle.std.proofs.Common.{◌≡◌, ◌+◌, nat_eq, drop, count_by, if◌then◌else◌}
use Rattle.std.specs.Cmp.Lexicographic.{pointwise}
use Rattle.tstp_trace.proofs.words.has_word_twice.Given as goal

abbrev pub invariant-loop-name : goal.invariant-loop-name
invariant-loop-name l = (if l.found then 1 else 0) + count_by (pointwise nat_eq l.word) (drop l.name-index l.names) ≡ count_by (pointwise nat_eq l.word) l.names
