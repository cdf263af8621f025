-- The stack of what is still to be printed: the last piece comes first. It mirrors the code, and private contracts alone cite it.
use Rattle.std.specs.Prelude.{ℕ, ◌+◌, List, [], ◌∷◌, ◌++◌}
use Rattle.lp_term.specs.declared.Lp.{Lp, Lp-F, fold-Lp}
use Rattle.lp_term.specs.declared.Lp.TheOpen.{Sort, Sym, Var, Pat, App, Lam, Pi}
use Rattle.lp_text.specs.Levels.{bodies_over}
use Rattle.lp_text.specs.Print.{argument_text, operand_text}
use Rattle.dedukti_text.specs.Print.{dk_printed, dk_term_text}
use Rattle.dedukti_text.specs.declared.piece.Piece.{Piece}
use Rattle.dedukti_text.specs.declared.piece.Piece.TheVariants.{Bytes, Bare, Operand, Argument}

abbrev pub piece_text : Piece → List ℕ
piece_text (Bytes bytes) = bytes.now
piece_text (Bare t level) = dk_term_text t.now level
piece_text (Operand t level) = operand_text (dk_printed t.now) level
piece_text (Argument t level) = argument_text (dk_printed t.now) level

abbrev pub pieces_text : List Piece → List ℕ
pieces_text [] = []
pieces_text (piece ∷ above) = pieces_text above ++ piece_text piece

-- more than the weights of the pieces that a term is printed by
abbrev pub weight_at : Lp-F ℕ → ℕ
weight_at Sort = 1
weight_at (Sym name) = 1
weight_at (Var number) = 1
weight_at (Pat name) = 1
weight_at (App function argument) = 9 + function + argument
weight_at (Lam domain body) = 8 + domain + body
weight_at (Pi domain body) = 8 + domain + body

abbrev pub term_weight : Lp → ℕ
term_weight = fold-Lp ℕ weight_at

abbrev pub piece_weight : Piece → ℕ
piece_weight (Bytes bytes) = 1
piece_weight (Bare t level) = term_weight t.now
piece_weight (Operand t level) = 3 + term_weight t.now
piece_weight (Argument t level) = 3 + term_weight t.now

abbrev pub pieces_weight : List Piece → ℕ
pieces_weight [] = 0
pieces_weight (piece ∷ above) = pieces_weight above + piece_weight piece

-- how many bodies of the pieces stand below too many binders
abbrev pub piece_over : Piece → ℕ
piece_over (Bytes bytes) = 0
piece_over (Bare t level) = bodies_over t.now level
piece_over (Operand t level) = bodies_over t.now level
piece_over (Argument t level) = bodies_over t.now level

abbrev pub pieces_over : List Piece → ℕ
pieces_over [] = 0
pieces_over (piece ∷ above) = pieces_over above + piece_over piece
