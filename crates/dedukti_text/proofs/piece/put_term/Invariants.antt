use Rattle.std.proofs.Common.{◌≡◌, ◌++◌}
use Rattle.lp_text.specs.Levels.{bodies_over}
use Rattle.dedukti_text.specs.Pieces.{pieces_over, pieces_text, pieces_weight}
use Rattle.dedukti_text.specs.Print.{dk_term_text as term_text}
use Rattle.dedukti_text.proofs.piece.put_term.Given as goal

abbrev pub invariant-loop-piece : goal.invariant-loop-piece
invariant-loop-piece l = record {
  text : l.out.items ++ pieces_text l.rest.items ≡ l.initial.out.items ++ term_text l.fn.t l.fn.level;
  over : pieces_over l.rest.items ≡ bodies_over l.fn.t l.fn.level;
}

abbrev pub decreases-loop-piece : goal.decreases-loop-piece
decreases-loop-piece l = pieces_weight l.rest.items
