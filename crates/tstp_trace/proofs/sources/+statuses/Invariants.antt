use Rattle.std.proofs.Common.{◌≡◌, ◌++◌, drop, map}
use Rattle.dk_syntax.specs.Symbols.{joined}
use Rattle.tstp_trace.specs.Sources.{statuses_in}
use Rattle.tstp_trace.proofs.sources.+statuses.Given as goal

abbrev pub invariant-add_all_statuses-loop-source : goal.invariant-add_all_statuses-loop-source
invariant-add_all_statuses-loop-source l = l.statuses ++ joined (map statuses_in (drop l.source-index l.sources)) ≡ l.fn.statuses ++ joined (map statuses_in l.sources)
