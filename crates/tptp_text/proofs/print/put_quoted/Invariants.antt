use Rattle.std.proofs.Common.{◌≡◌, ◌++◌, drop}
use Rattle.tptp_tokens.specs.Spelling.{quoted_text}
use Rattle.tptp_text.proofs.print.put_quoted.Given as goal

-- with the text of what is left the text is the one that the loop makes
abbrev pub invariant-loop-b : goal.invariant-loop-b
invariant-loop-b l = l.out.items ++ quoted_text 39 (drop l.b-index l.name) ≡ l.initial.out.items ++ quoted_text 39 l.name
