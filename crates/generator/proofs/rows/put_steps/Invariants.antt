use Rattle.std.proofs.Common.{◌≡◌, ◌++◌}
use Rattle.generator.specs.Files.{step_lines, term_text}
use Rattle.generator.proofs.rows.put_steps.Given as goal

abbrev pub invariant-loop-i : goal.invariant-loop-i
invariant-loop-i l =
    (l.out.items ≡ l.initial.out.items ++ step_lines l.i) × (l.term.items ≡ term_text l.i)
