-- What the proofs on texts share.
use Rattle.std.proofs.Common.{◌≡◌, ℕ, ◌+◌, ◌<◌, ◌^◌, List, [], ◌∷◌, ◌++◌, append_assoc, append-nil, refl, arith}
use Rattle.std.proofs.lemmas.Bool.{lt-ltb}
use Rattle.std.proofs.lemmas.Grind.{common_steps}
use Rattle.lp_term.specs.declared.Lp.{the_lemmas as of_terms}
use Rattle.std.specs.Borrow.{Bor}
use Rattle.lp_term.specs.declared.Lp.{Lp}
use Rattle.lp_text.specs.Levels.{over}
use Rattle.dedukti_text.proofs.Names.{with_names-append}
use Rattle.dedukti_text.specs.Patterns.{patterns_in}
use Rattle.dedukti_text.specs.Walks.{rest_patterns, rest_weight}
use Rattle.dedukti_text.specs.Pieces.{piece_over, piece_text, piece_weight, pieces_over, pieces_text, pieces_weight, term_weight}
use Rattle.dedukti_text.specs.declared.piece.Piece.{Piece}

-- what is pushed comes first
pub pieces_text-push : (pieces : List Piece) (piece : Piece) → pieces_text (pieces ++ piece ∷ []) ≡ piece_text piece ++ pieces_text pieces
pieces_text-push [] piece = simp append-nil
pieces_text-push (below ∷ pieces) piece = rw (pieces_text-push pieces piece) (append_assoc (piece_text piece) (pieces_text pieces) (piece_text below))

pub pieces_weight-push : (pieces : List Piece) (piece : Piece) → pieces_weight (pieces ++ piece ∷ []) ≡ piece_weight piece + pieces_weight pieces
pieces_weight-push [] piece = omega arith
pieces_weight-push (below ∷ pieces) piece = omega (arith, pieces_weight-push pieces piece)

pub pieces_over-push : (pieces : List Piece) (piece : Piece) → pieces_over (pieces ++ piece ∷ []) ≡ piece_over piece + pieces_over pieces
pieces_over-push [] piece = omega arith
pieces_over-push (below ∷ pieces) piece = omega (arith, pieces_over-push pieces piece)

-- a level that a machine word holds
pub over_none : (level : ℕ) → level < 2 ^ 32 → over level ≡ 0
over_none level few = rw (lt-ltb level (2 ^ 32) few) refl

pub rest_patterns-push : (rest : List (Bor Lp)) (t : Bor Lp) → rest_patterns (rest ++ t ∷ []) ≡ patterns_in t.now ++ rest_patterns rest
rest_patterns-push [] t = simp append-nil
rest_patterns-push (below ∷ rest) t = rw (rest_patterns-push rest t) (append_assoc (patterns_in t.now) (rest_patterns rest) (patterns_in below.now))

pub rest_weight-push : (rest : List (Bor Lp)) (t : Bor Lp) → rest_weight (rest ++ t ∷ []) ≡ term_weight t.now + rest_weight rest
rest_weight-push [] t = omega arith
rest_weight-push (below ∷ rest) t = omega (arith, rest_weight-push rest t)

pub ruleset text_steps = (
  common_steps,
  append_assoc,
  of_terms,
  pieces_text-push,
  pieces_weight-push,
  pieces_over-push,
  over_none,
  rest_patterns-push,
  rest_weight-push,
  with_names-append,
)
