use Rattle.tptp_tokens.proofs.Places.{tail_knows, tail_slice}
use Rattle.tptp_tokens.proofs.matter.skip_matter.Goals as goal

pub after_comment-requires : goal.after_comment-requires
after_comment-requires c = tail_knows c.args.closing (tail_slice _ _ c.in-42.len_at_least (tail_slice _ _ c.in-len1-up.len_at_least c.loop-rest.invariant.tail)) c.requires
