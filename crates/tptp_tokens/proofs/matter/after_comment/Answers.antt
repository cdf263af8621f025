use Rattle.std.proofs.Common.{inl, inr}
use Rattle.tptp_tokens.proofs.Places.{known_none}
use Rattle.tptp_tokens.proofs.matter.after_comment.Goals as goal

pub returns-then-closing-eq0-clause-rest : goal.returns-then-closing-eq0-clause-rest
returns-then-closing-eq0-clause-rest c = known_none c.args.closing _ c.requires (inl c.if-closing-eq0.true)

pub returns-then-bytes-closing-clause-rest : goal.returns-then-bytes-closing-clause-rest
returns-then-bytes-closing-clause-rest c = known_none c.args.closing _ c.requires (inr c.if-bytes-closing.true)
