-- The text of a `let` without its body.
use Rattle.std.specs.Prelude.{◌≡◌, ℕ, ◌+◌, List, ◌++◌, codes}
use Rattle.lp_term.specs.declared.Lp.{Lp}
use Rattle.lp_term.specs.declared.Lp.TheVariants.{App, Lam}
use Rattle.dk_syntax.specs.declared.boxed.Boxed.{Boxed}
use Rattle.lp_text.specs.Print.{define_mark, term_text, variable_text}
use Rattle.lp_text.specs.declared.lets.LetPiece.{LetPiece}

-- let v : type ≔ value in, and a newline
abbrev pub let_line : LetPiece → List ℕ
let_line piece =
    codes "let " ++ (variable_text piece.level ++ (codes " : " ++ (term_text piece.ty piece.level
    ++ (codes " " ++ (define_mark ++ (codes " " ++ (term_text piece.term piece.level ++ codes " in\n")))))))

-- an abstraction applied is printed as the line and then the body, one level deeper
abbrev pub LetsAreLines : Type 0
LetsAreLines = (piece : LetPiece) (body : Lp)
    → term_text (App (Lam piece.ty body) piece.term) piece.level ≡ let_line piece ++ term_text body (piece.level + 1)
