-- Opaque terms: one or more tokens with balanced brackets, without a full stop, and without a comma outside the brackets.
-- `IsOpaque in_parent before after` says that such a term stands between the tokens `before` and `after`.
use Rattle.std.specs.Prelude.{◌≡◌, Bool, false, List, ◌∷◌}
use Rattle.tptp_tokens.specs.declared.Token.{Token}
use Rattle.tptp_tokens.specs.declared.Token.TheVariants as t

-- A token that is no bracket, no comma and no full stop.
abbrev pub IsPlain : Token → Type 0
IsPlain t.OpenRound = ⊥
IsPlain t.CloseRound = ⊥
IsPlain t.OpenSquare = ⊥
IsPlain t.CloseSquare = ⊥
IsPlain t.Comma = ⊥
IsPlain t.Dot = ⊥
IsPlain token = Unit {0}

mutual
  -- One plain token, or a group in brackets.
  pub data IsPiece : List Token → List Token → Type 0 where
    OneToken : (token : Token) (rest : List Token) → IsPlain token → IsPiece (token ∷ rest) rest
    RoundGroup : (ts rest : List Token) → IsInside ts (t.CloseRound ∷ rest) → IsPiece (t.OpenRound ∷ ts) rest
    SquareGroup : (ts rest : List Token) → IsInside ts (t.CloseSquare ∷ rest) → IsPiece (t.OpenSquare ∷ ts) rest

  -- Pieces and commas in any order, or nothing.
  pub data IsInside : List Token → List Token → Type 0 where
    NoMore : (rest : List Token) → IsInside rest rest
    CommaFirst : (ts rest : List Token) → IsInside ts rest → IsInside (t.Comma ∷ ts) rest
    PieceFirst : (ts mid rest : List Token) → IsPiece ts mid → IsInside mid rest → IsInside ts rest

-- No `:` stands first, where the term is the source of a parent.
abbrev pub MayStand : Bool → List Token → Type 0
MayStand in_parent (t.Colon ∷ ts) = in_parent ≡ false
MayStand in_parent ts = Unit {0}

-- One or more pieces, in the source of a parent without a `:` outside brackets.
pub data IsOpaque (in_parent : Bool) : List Token → List Token → Type 0 where
  LastPiece : (ts rest : List Token) → MayStand in_parent ts → IsPiece ts rest → IsOpaque in_parent ts rest
  MorePieces : (ts mid rest : List Token) → MayStand in_parent ts → IsPiece ts mid → IsOpaque in_parent mid rest → IsOpaque in_parent ts rest
