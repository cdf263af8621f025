use Rattle.std.proofs.Common.{◌≡◌, false, ◌∷◌, length}
use Rattle.tptp_tokens.specs.Scan.{quoted_at}
use Rattle.tptp_tokens.proofs.Loops.{with_front}
use Rattle.tptp_tokens.proofs.UnclosedQuotes.{Searched}
use Rattle.tptp_tokens.proofs.quoted.between_quotes.Given as goal

abbrev pub invariant-loop-rest : goal.invariant-loop-rest
invariant-loop-rest l = record { same : with_front l.text.items (quoted_at l.quote l.escaped l.rest) ≡ quoted_at l.quote false l.bytes; searched : Searched l.quote l.escaped l.rest (l.quote ∷ l.bytes) }

abbrev pub decreases-loop-rest : goal.decreases-loop-rest
decreases-loop-rest l = length l.rest
