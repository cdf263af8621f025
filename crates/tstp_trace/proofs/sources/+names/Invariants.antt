use Rattle.std.proofs.Common.{◌≡◌, ◌++◌, drop, map}
use Rattle.dk_syntax.specs.Symbols.{joined}
use Rattle.tstp_trace.specs.Sources.{names_in}
use Rattle.tstp_trace.proofs.sources.+names.Given as goal

abbrev pub invariant-add_all_names-loop-source : goal.invariant-add_all_names-loop-source
invariant-add_all_names-loop-source l = l.names ++ joined (map names_in (drop l.source-index l.sources)) ≡ l.fn.names ++ joined (map names_in l.sources)
