use Rattle.std.proofs.Common.{◌≡◌, length, ◌+◌, ◌-◌, ◌*◌}
use Rattle.tptp_formulas.specs.Reading.{term_at, terms_at}
use Rattle.tptp_formulas.proofs.Rooms.{with_front}
use Rattle.tptp_formulas.proofs.terms.+term.Given as goal

abbrev pub decreases-read_term : goal.decreases-read_term
decreases-read_term l = 4 * l.room

abbrev pub decreases-read_application : goal.decreases-read_application
decreases-read_application l = 4 * l.room + 3

abbrev pub decreases-read_dollar : goal.decreases-read_dollar
decreases-read_dollar l = 4 * l.room + 3

abbrev pub decreases-read_args : goal.decreases-read_args
decreases-read_args l = 4 * l.room + 2

abbrev pub decreases-read_terms : goal.decreases-read_terms
decreases-read_terms l = 4 * l.room + 1

abbrev pub invariant-read_terms-loop : goal.invariant-read_terms-loop
invariant-read_terms-loop l =
    with_front l.terms (terms_at (length l.tokens - l.counter) (term_at l.room) l.rest) ≡ terms_at (length l.tokens) (term_at l.room) l.tokens
