use Rattle.std.proofs.Common.{◌≡◌, ◌++◌, drop, string_bytes}
use Rattle.dk_cli.specs.Refusals.{in_line}
use Rattle.dk_cli.proofs.lines.line_with.Given as goal

-- What is written, joined with what is left, is the whole.
abbrev pub invariant-loop-byte : goal.invariant-loop-byte
invariant-loop-byte l = string_bytes l.line ++ in_line (drop l.byte-index l.text) ≡ l.front ++ in_line l.text
