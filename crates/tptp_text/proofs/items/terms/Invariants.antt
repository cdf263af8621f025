use Rattle.std.proofs.Common.{◌≡◌, ◌-◌, length}
use Rattle.tptp_text.specs.ReadingItems.{terms_at}
use Rattle.tptp_text.proofs.items.terms.Given as goal

abbrev pub invariant-loop : goal.invariant-loop
invariant-loop l = terms_at (length l.tokens - l.counter) l.rest ≡ terms_at (length l.tokens) l.tokens
