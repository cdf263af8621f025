-- What is read as an opaque term is one, and each opaque term is read.
use Rattle.std.proofs.Common.{◌≡◌, ◌⊎◌, inl, inr, ◌+◌, ◌<◌, Bool, true, false, List, [], ◌∷◌, length, Option, Some, None, refl, sym, subst, ◌∙◌, arith}
use Rattle.tptp_tokens.specs.declared.Token.{Token}
use Rattle.tptp_tokens.specs.declared.Token.TheVariants as t
use Rattle.tptp_formulas.specs.Reading.{◌>>=◌}
use Rattle.tptp_text.specs.Opaque.{IsPlain, IsPiece, OneToken, RoundGroup, SquareGroup, IsInside, NoMore, CommaFirst, PieceFirst, MayStand, IsOpaque, LastPiece, MorePieces}
use Rattle.tptp_text.specs.Reading.{stopped, opaque_at, stops}

some_same : {A : Type 0} {x y : A} → Some x ≡ Some y → x ≡ y
some_same e = cc

-- ---- what is read is so

-- what is left of an opaque term inside these open brackets, the inmost first
abbrev Left : Bool → List Bool → Bool → List Token → List Token → Type 0
Left p [] false ts rest = IsOpaque p ts rest
Left p [] true ts rest = (ts ≡ rest) ⊎ IsOpaque p ts rest
Left p (true ∷ around) some ts rest = (mid : List Token) × IsInside ts (t.CloseRound ∷ mid) × Left p around true mid rest
Left p (false ∷ around) some ts rest = (mid : List Token) × IsInside ts (t.CloseSquare ∷ mid) × Left p around true mid rest

last_or_more : (p : Bool) (ts mid rest : List Token) → MayStand p ts → IsPiece ts mid → (mid ≡ rest) ⊎ IsOpaque p mid rest → IsOpaque p ts rest
last_or_more p ts mid rest may piece (inl e) = subst (λ (x : List Token). IsOpaque p ts x) e (LastPiece ts mid may piece)
last_or_more p ts mid rest may piece (inr o) = MorePieces ts mid rest may piece o

with_piece : (p : Bool) (around : List Bool) (some : Bool) (ts mid rest : List Token) → (around ≡ [] → MayStand p ts) → IsPiece ts mid → Left p around true mid rest → Left p around some ts rest
with_piece p [] false ts mid rest may piece left = last_or_more p ts mid rest (may refl) piece left
with_piece p [] true ts mid rest may piece left = inr (last_or_more p ts mid rest (may refl) piece left)
with_piece p (true ∷ around) some ts mid rest may piece left = (left.0, PieceFirst ts mid (t.CloseRound ∷ left.0) piece left.1, left.2)
with_piece p (false ∷ around) some ts mid rest may piece left = (left.0, PieceFirst ts mid (t.CloseSquare ∷ left.0) piece left.1, left.2)

at_stop : (p some : Bool) (ts rest : List Token) → stopped some ts ≡ Some rest → Left p [] some ts rest
at_stop p true ts rest e = inl (some_same e)
at_stop p false ts rest e = absurd cc

opaque_left : (p : Bool) (around : List Bool) (some : Bool) (ts rest : List Token) → opaque_at p around some ts ≡ Some rest → Left p around some ts rest
unfolding opaque_at
opaque_left p around some [] rest e = absurd cc
opaque_left p around some (t.OpenRound ∷ ts) rest e =
    let l = opaque_left p (true ∷ around) true ts rest e in with_piece p around some (t.OpenRound ∷ ts) l.0 rest (λ _. tt) (RoundGroup ts l.0 l.1) l.2
opaque_left p around some (t.OpenSquare ∷ ts) rest e =
    let l = opaque_left p (false ∷ around) true ts rest e in with_piece p around some (t.OpenSquare ∷ ts) l.0 rest (λ _. tt) (SquareGroup ts l.0 l.1) l.2
opaque_left p [] some (t.CloseRound ∷ ts) rest e = at_stop p some (t.CloseRound ∷ ts) rest e
opaque_left p (true ∷ around) some (t.CloseRound ∷ ts) rest e = (ts, NoMore (t.CloseRound ∷ ts), opaque_left p around true ts rest e)
opaque_left p (false ∷ around) some (t.CloseRound ∷ ts) rest e = absurd cc
opaque_left p [] some (t.CloseSquare ∷ ts) rest e = at_stop p some (t.CloseSquare ∷ ts) rest e
opaque_left p (true ∷ around) some (t.CloseSquare ∷ ts) rest e = absurd cc
opaque_left p (false ∷ around) some (t.CloseSquare ∷ ts) rest e = (ts, NoMore (t.CloseSquare ∷ ts), opaque_left p around true ts rest e)
opaque_left p [] some (t.Comma ∷ ts) rest e = at_stop p some (t.Comma ∷ ts) rest e
opaque_left p (true ∷ around) some (t.Comma ∷ ts) rest e = let l = opaque_left p (true ∷ around) true ts rest e in (l.0, CommaFirst ts (t.CloseRound ∷ l.0) l.1, l.2)
opaque_left p (false ∷ around) some (t.Comma ∷ ts) rest e = let l = opaque_left p (false ∷ around) true ts rest e in (l.0, CommaFirst ts (t.CloseSquare ∷ l.0) l.1, l.2)
opaque_left true [] some (t.Colon ∷ ts) rest e = at_stop true some (t.Colon ∷ ts) rest e
opaque_left false [] some (t.Colon ∷ ts) rest e = with_piece false [] some (t.Colon ∷ ts) ts rest (λ _. refl) (OneToken t.Colon ts tt) (opaque_left false [] true ts rest e)
opaque_left p (round ∷ around) some (t.Colon ∷ ts) rest e = with_piece p (round ∷ around) some (t.Colon ∷ ts) ts rest (λ d. absurd cc) (OneToken t.Colon ts tt) (opaque_left p (round ∷ around) true ts rest e)
opaque_left p [] some (t.Dot ∷ ts) rest e = absurd cc
opaque_left p (round ∷ around) some (t.Dot ∷ ts) rest e = absurd cc
opaque_left p [] some (token ∷ ts) rest e = with_piece p [] some (token ∷ ts) ts rest (λ _. tt) (OneToken token ts tt) (opaque_left p [] true ts rest e)
opaque_left p (round ∷ around) some (token ∷ ts) rest e = with_piece p (round ∷ around) some (token ∷ ts) ts rest (λ _. tt) (OneToken token ts tt) (opaque_left p (round ∷ around) true ts rest e)

pub opaque_so : (p : Bool) (ts rest : List Token) → opaque_at p [] false ts ≡ Some rest → IsOpaque p ts rest
opaque_so p ts rest e = opaque_left p [] false ts rest e

stopped_stops : (p some : Bool) (ts rest : List Token) → stops p ts ≡ true → stopped some ts ≡ Some rest → stops p rest ≡ true
stopped_stops p true ts rest s e = subst (λ (x : List Token). stops p x ≡ true) (some_same e) s
stopped_stops p false ts rest s e = absurd cc

pub opaque_stops : (p : Bool) (around : List Bool) (some : Bool) (ts rest : List Token) → opaque_at p around some ts ≡ Some rest → stops p rest ≡ true
unfolding opaque_at
opaque_stops p around some [] rest e = absurd cc
opaque_stops p around some (t.OpenRound ∷ ts) rest e = opaque_stops p (true ∷ around) true ts rest e
opaque_stops p around some (t.OpenSquare ∷ ts) rest e = opaque_stops p (false ∷ around) true ts rest e
opaque_stops p [] some (t.CloseRound ∷ ts) rest e = stopped_stops p some (t.CloseRound ∷ ts) rest refl e
opaque_stops p (true ∷ around) some (t.CloseRound ∷ ts) rest e = opaque_stops p around true ts rest e
opaque_stops p (false ∷ around) some (t.CloseRound ∷ ts) rest e = absurd cc
opaque_stops p [] some (t.CloseSquare ∷ ts) rest e = stopped_stops p some (t.CloseSquare ∷ ts) rest refl e
opaque_stops p (true ∷ around) some (t.CloseSquare ∷ ts) rest e = absurd cc
opaque_stops p (false ∷ around) some (t.CloseSquare ∷ ts) rest e = opaque_stops p around true ts rest e
opaque_stops p [] some (t.Comma ∷ ts) rest e = stopped_stops p some (t.Comma ∷ ts) rest refl e
opaque_stops p (round ∷ around) some (t.Comma ∷ ts) rest e = opaque_stops p (round ∷ around) true ts rest e
opaque_stops true [] some (t.Colon ∷ ts) rest e = stopped_stops true some (t.Colon ∷ ts) rest refl e
opaque_stops false [] some (t.Colon ∷ ts) rest e = opaque_stops false [] true ts rest e
opaque_stops p (round ∷ around) some (t.Colon ∷ ts) rest e = opaque_stops p (round ∷ around) true ts rest e
opaque_stops p [] some (t.Dot ∷ ts) rest e = absurd cc
opaque_stops p (round ∷ around) some (t.Dot ∷ ts) rest e = absurd cc
opaque_stops p [] some (token ∷ ts) rest e = opaque_stops p [] true ts rest e
opaque_stops p (round ∷ around) some (token ∷ ts) rest e = opaque_stops p (round ∷ around) true ts rest e

-- ---- and nothing else is

plain_step : (p : Bool) (around : List Bool) (some : Bool) (token : Token) (ts : List Token) → IsPlain token → (around ≡ [] → MayStand p (token ∷ ts)) → opaque_at p around some (token ∷ ts) ≡ opaque_at p around true ts
unfolding opaque_at
plain_step p around some t.OpenRound ts plain may = absurd plain
plain_step p around some t.CloseRound ts plain may = absurd plain
plain_step p around some t.OpenSquare ts plain may = absurd plain
plain_step p around some t.CloseSquare ts plain may = absurd plain
plain_step p around some t.Comma ts plain may = absurd plain
plain_step p around some t.Dot ts plain may = absurd plain
plain_step true [] some t.Colon ts plain may = let never = may refl in absurd cc
plain_step false [] some t.Colon ts plain may = refl
plain_step p (round ∷ around) some t.Colon ts plain may = refl
plain_step p [] some _ ts plain may = refl
plain_step p (round ∷ around) some _ ts plain may = refl

mutual
  unfolding opaque_at

  piece_step : {ts mid : List Token} → IsPiece ts mid → (p : Bool) (around : List Bool) (some : Bool) → (around ≡ [] → MayStand p ts) → opaque_at p around some ts ≡ opaque_at p around true mid
  piece_step (OneToken token rest plain) p around some may = plain_step p around some token rest plain may
  piece_step (RoundGroup ts rest inside) p around some may = inside_step inside p true around
  piece_step (SquareGroup ts rest inside) p around some may = inside_step inside p false around

  inside_step : {ts mid : List Token} → IsInside ts mid → (p round : Bool) (around : List Bool) → opaque_at p (round ∷ around) true ts ≡ opaque_at p (round ∷ around) true mid
  inside_step (NoMore rest) p round around = refl
  inside_step (CommaFirst ts rest inside) p round around = inside_step inside p round around
  inside_step (PieceFirst ts mid rest piece inside) p round around = piece_step piece p (round ∷ around) true (λ d. absurd cc) ∙ inside_step inside p round around

stop_here : (p : Bool) (rest : List Token) → stops p rest ≡ true → opaque_at p [] true rest ≡ Some rest
unfolding opaque_at
stop_here p [] s = absurd cc
stop_here p (t.Comma ∷ rest) s = refl
stop_here p (t.CloseRound ∷ rest) s = refl
stop_here p (t.CloseSquare ∷ rest) s = refl
stop_here p (t.Colon ∷ rest) s = rw s refl
stop_here p (_ ∷ rest) s = absurd cc

pub opaque_only : {p : Bool} {ts rest : List Token} → IsOpaque p ts rest → stops p rest ≡ true → (some : Bool) → opaque_at p [] some ts ≡ Some rest
opaque_only {p} (LastPiece ts rest may piece) s some = piece_step piece p [] some (λ _. may) ∙ stop_here p rest s
opaque_only {p} (MorePieces ts mid rest may piece o) s some = piece_step piece p [] some (λ _. may) ∙ opaque_only o s true

-- an opaque term ends at one place
pub opaque_ends_once : {p : Bool} {ts a b : List Token} → IsOpaque p ts a → stops p a ≡ true → IsOpaque p ts b → stops p b ≡ true → a ≡ b
opaque_ends_once {p} {ts} {a} {b} x s y u = some_same (sym (opaque_only x s false) ∙ opaque_only y u false)

-- ---- its length, and what it is inside brackets

mutual
  piece_shorter : {ts rest : List Token} → IsPiece ts rest → length rest < length ts
  piece_shorter (OneToken token rest plain) = omega arith
  piece_shorter (RoundGroup ts rest inside) = let k = inside_shorter inside in omega arith
  piece_shorter (SquareGroup ts rest inside) = let k = inside_shorter inside in omega arith

  inside_shorter : {ts rest : List Token} → IsInside ts rest → length rest < length ts + 1
  inside_shorter (NoMore rest) = omega arith
  inside_shorter (CommaFirst ts rest inside) = let k = inside_shorter inside in omega arith
  inside_shorter (PieceFirst ts mid rest piece inside) = let k = piece_shorter piece in let j = inside_shorter inside in omega arith

pub opaque_shorter : {p : Bool} {ts rest : List Token} → IsOpaque p ts rest → length rest < length ts
opaque_shorter (LastPiece ts rest may piece) = piece_shorter piece
opaque_shorter (MorePieces ts mid rest may piece o) = let k = piece_shorter piece in let j = opaque_shorter o in omega arith

pub opaque_inside : {p : Bool} {ts mid rest : List Token} → IsOpaque p ts mid → IsInside mid rest → IsInside ts rest
opaque_inside {rest = rest} (LastPiece ts mid may piece) inside = PieceFirst ts mid rest piece inside
opaque_inside {rest = rest} (MorePieces ts next mid may piece o) inside = PieceFirst ts next rest piece (opaque_inside o inside)

-- ---- a step of reading behind an opaque term

from_option : {B : Type 0} (Good : Option B → Type 0) (p : Bool) (ts : List Token) (f : List Token → Option B) (o : Option (List Token)) → opaque_at p [] false ts ≡ o
    → Good None → ((rest : List Token) → IsOpaque p ts rest → stops p rest ≡ true → Good (f rest)) → Good (o >>= f)
from_option Good p ts f None e none some = none
from_option Good p ts f (Some rest) e none some = some rest (opaque_so p ts rest e) (opaque_stops p [] false ts rest e)

pub behind_opaque : {B : Type 0} (Good : Option B → Type 0) (p : Bool) (ts : List Token) (f : List Token → Option B)
    → Good None → ((rest : List Token) → IsOpaque p ts rest → stops p rest ≡ true → Good (f rest)) → Good (opaque_at p [] false ts >>= f)
behind_opaque Good p ts f none some = from_option Good p ts f (opaque_at p [] false ts) refl none some
