-- What a parallel chain of lets collects.
use Rattle.std.proofs.Common.{◌≡◌, ℕ, List, [], ◌∷◌, Ok, Err, map, refl, ap₂, IfOk, MatchResult, Contains}
use Rattle.std.specs.List.{AllZip}
use Rattle.std.specs.declared.result.Result.{Result}
use Rattle.std.specs.declared.vec.Vec.{Vec}
use Rattle.std.specs.declared.alloc.Global.{Global}
use Rattle.dk_syntax.specs.declared.memory.NoMemory.{NoMemory}
use Rattle.lp_text.specs.Lets.{let_line}
use Rattle.lp_text.specs.declared.lets.LetPiece.{LetPiece}

abbrev pub IsLine : LetPiece → Result (List ℕ) NoMemory → Type 0
IsLine piece text = IfOk text (λ line. line ≡ let_line piece)

lines_of : (lets : List LetPiece) (texts : List (List ℕ)) → AllZip IsLine lets (map Ok texts) → texts ≡ map let_line lets
lines_of [] [] h = refl
lines_of [] (t ∷ texts) h = absurd h
lines_of (piece ∷ lets) [] h = absurd h
lines_of (piece ∷ lets) (t ∷ texts) h = ap₂ ◌∷◌ h.0 (lines_of lets texts h.1)

pub collected : (texts : Result (Vec (List ℕ) Global) NoMemory) (lets : List LetPiece) (all : List (Result (List ℕ) NoMemory)) → AllZip IsLine lets all
    → MatchResult texts (λ c. (ys : List (List ℕ)) × (all ≡ map Ok ys) × (c.items ≡ ys)) (λ e. Contains all (Err e))
    → IfOk texts (λ v. v.items ≡ map let_line lets)
collected (Ok v) lets all each c = rw c.2 (lines_of lets c.0 (rw (c.1) at each))
collected (Err e) lets all each c = tt
