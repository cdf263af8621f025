use Rattle.std.proofs.Common.{ℕ, sym, subst}
use Rattle.tptp_tokens.specs.Skipping.{KnowsClosing}
use Rattle.tptp_tokens.proofs.Places.{knows_whole}
use Rattle.tptp_tokens.proofs.unread.Unread.new.Goals as goal

pub invariant_of-result : goal.invariant_of-result
invariant_of-result c = (subst (λ (n : ℕ). KnowsClosing n c.args.bytes.now) (sym c.closing_tail.ensures) (knows_whole c.args.bytes.now), c.new.ensures)
