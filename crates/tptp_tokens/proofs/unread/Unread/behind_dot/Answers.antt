use Rattle.tptp_tokens.proofs.Places.{tail_knows, tail_slice, tail_whole}
use Rattle.tptp_tokens.proofs.UnclosedQuotes.{tail_knows_unclosed}
use Rattle.tptp_tokens.proofs.unread.Unread.behind_dot.Goals as goal

pub invariant_of-result : goal.invariant_of-result
invariant_of-result c =
    let behind = tail_slice _ _ c.in-46.len_at_least (tail_whole c.self.inside.bytes.now) in
    (tail_knows c.self.inside.closing behind c.self.invariant.0, tail_knows_unclosed c.self.inside.unclosed behind c.self.invariant.1)
