use Rattle.std.proofs.Common.{◌≡◌, Some, arith}
use Rattle.tptp_tokens.specs.Chunks.{chunk_from}
use Rattle.tptp_tokens.specs.Scan.{token_at}
use Rattle.tptp_tokens.specs.Skipping.{IsTail}
use Rattle.tptp_tokens.proofs.Places.{places, tail_of_tail}
use Rattle.tptp_tokens.proofs.LongestToken.{token_tail}
use Rattle.tptp_tokens.proofs.UnclosedQuotes.{tail_knows_unclosed}
use Rattle.tptp_tokens.proofs.chunks.tokens_of.Goals as goal

pub next_token-requires : goal.next_token-requires
next_token-requires c = tail_knows_unclosed c.loop.unclosed c.skip_matter-here.ensures.tail c.loop.invariant.knows

pub loop-preserved : goal.loop-preserved
unfolding chunk_from
loop-preserved c =
    let here = c.skip_matter-here.result.now in
    let read : token_at here ≡ Some (c.in-Some.token, c.in-Some.after.now) = grind (arith, places) in
    let behind : IsTail c.in-Some.after.now here = token_tail here c.in-Some.token c.in-Some.after.now read in
    record {
      same = grind (arith, places);
      tail = tail_of_tail behind (tail_of_tail c.skip_matter-here.ensures.tail c.loop.invariant.tail);
      knows = tail_knows_unclosed c.next_token.new.unclosed behind c.in_ok-next_token.ensures.knows;
    }
