use Rattle.std.proofs.Common.{◌≡◌, drop}
use Rattle.std.specs.List.{list_all}
use Rattle.tstp_trace.specs.Sources.{is_known_status}
use Rattle.tstp_trace.proofs.words.all_known.Given as goal

abbrev pub invariant-loop-status : goal.invariant-loop-status
invariant-loop-status l = list_all is_known_status (drop l.status-index l.statuses) ≡ list_all is_known_status l.statuses
