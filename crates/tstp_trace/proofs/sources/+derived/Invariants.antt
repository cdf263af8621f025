use Rattle.std.proofs.Common.{◌≡◌, drop, map}
use Rattle.std.specs.List.{list_all}
use Rattle.tstp_trace.specs.Sources.{is_derived}
use Rattle.tstp_trace.proofs.sources.+derived.Given as goal

abbrev pub invariant-are_derived-loop-source : goal.invariant-are_derived-loop-source
invariant-are_derived-loop-source l = list_all (λ derived. derived) (map is_derived (drop l.source-index l.sources)) ≡ list_all (λ derived. derived) (map is_derived l.sources)
