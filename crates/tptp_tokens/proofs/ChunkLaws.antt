-- The tokens that are taken up to a full stop are those of the definition.
use Rattle.std.proofs.Common.{◌≡◌, ◌≢◌, ℕ, zero, suc, ◌≤◌, ◌<◌, Bool, false, List, [], ◌∷◌, length, Option, Some, None, refl, sym, ap, ◌∙◌, arith, length-append}
use Rattle.std.proofs.lemmas.List.{nil_from_length}
use Rattle.tptp_tokens.specs.declared.token.Token.{Token}
use Rattle.tptp_tokens.specs.declared.token.Token.TheVariants.{Dot}
use Rattle.tptp_tokens.specs.Scan.{token_at}
use Rattle.tptp_tokens.specs.Spelling.{spelling, Longest}
use Rattle.tptp_tokens.proofs.LongestToken.{reads_longest, longest_reads, first_is_long}
use Rattle.tptp_tokens.specs.Skipping.{Between, skip}
use Rattle.tptp_tokens.specs.Chunks.{chunk_from, chunk}
use Rattle.tptp_tokens.specs.Matter.{Skips, Nothing, White, LineComment, LastComment, BlockComment}
use Rattle.tptp_tokens.specs.TokenLists.{Stops, AreTokens, NoToken, MoreTokens}
use Rattle.tptp_tokens.proofs.SkippedMatter.{skips_only, skips_so}

pub skips_shorter : {start : Bool} {bytes rest : List ℕ} → Skips start bytes rest → length rest ≤ length bytes
skips_shorter (Nothing start bytes firm) = omega arith
skips_shorter (White start b bytes rest white h) = let k = skips_shorter h in omega arith
skips_shorter (LineComment start b text bytes rest dark opening line h) = let k = skips_shorter h in omega (arith, length-append text (10 ∷ bytes))
skips_shorter (LastComment start b text dark opening line) = omega arith
skips_shorter (BlockComment start text bytes rest inside h) = let k = skips_shorter h in omega (arith, length-append text (42 ∷ 47 ∷ bytes))

token_shorter : {here : List ℕ} {t : Token} {rest : List ℕ} → Longest here t rest → length rest < length here
token_shorter {here} {t} {rest} h = let one = first_is_long t h.is in let whole = ap length h.front in omega (arith, length-append (spelling t) rest)

-- ---- what is taken is so

no_token : (here : List ℕ) → token_at here ≡ None → Stops here
no_token here e t rest h = absurd (let s = sym (longest_reads here t rest h) ∙ e in cc)

some_token : {A : Type 0} (x y : A) → Some x ≡ Some y → x ≡ y
some_token x y e = cc

full_stop : (here after : List ℕ) → token_at here ≡ Some (Dot, after) → Stops here
full_stop here after e t rest h = ap (λ (x : Token × List ℕ). x.0) (some_token {A = Token × List ℕ} (t, rest) (Dot, after) (sym (longest_reads here t rest h) ∙ e))

one_more : (more : List ℕ → List Token × List ℕ) (bytes here : List ℕ) (t : Token) (rest : List ℕ) → Skips false bytes here → token_at here ≡ Some (t, rest) → t ≢ Dot
    → ((after : List ℕ) → length after < length here → AreTokens after (more after).0 (more after).1) → AreTokens bytes (t ∷ (more rest).0) (more rest).1
one_more more bytes here t rest s e differs k = let l = reads_longest here t rest e in MoreTokens bytes here t rest (more rest).0 (more rest).1 s l differs (k rest (token_shorter l))

from_so : (more : List ℕ → List Token × List ℕ) (bytes here : List ℕ) (o : Option (Token × List ℕ)) → Skips false bytes here → token_at here ≡ o
    → ((after : List ℕ) → length after < length here → AreTokens after (more after).0 (more after).1) → AreTokens bytes (chunk_from more here o).0 (chunk_from more here o).1
unfolding chunk_from
from_so more bytes here None s e k = NoToken bytes here s (no_token here e)
from_so more bytes here (Some (Dot, rest)) s e k = NoToken bytes here s (full_stop here rest e)
from_so more bytes here (Some (t, rest)) s e k = one_more more bytes here t rest s e (λ d. cc) k

empty_stops : Stops []
unfolding token_at
empty_stops = no_token [] refl

pub chunk_so : (n : ℕ) (bytes : List ℕ) → length bytes ≤ n → AreTokens bytes (chunk n bytes).0 (chunk n bytes).1
unfolding chunk
chunk_so zero [] le = NoToken [] [] (Nothing false [] tt) empty_stops
chunk_so zero (b ∷ bytes) le = absurd (omega arith)
chunk_so (suc n) bytes le =
    let s = skips_so false bytes in
    let few = skips_shorter s in
    from_so (chunk n) bytes (skip (Between false) bytes) (token_at (skip (Between false) bytes)) s refl (λ after lt. chunk_so n after (omega arith))

-- ---- and nothing else is

from_none : (more : List ℕ → List Token × List ℕ) (here : List ℕ) (o : Option (Token × List ℕ)) → token_at here ≡ o → Stops here → chunk_from more here o ≡ ([], here)
unfolding chunk_from
from_none more here None e stops = refl
from_none more here (Some (Dot, rest)) e stops = refl
from_none more here (Some (t, rest)) e stops = absurd (let d = stops t rest (reads_longest here t rest e) in cc)

from_more : (more : List ℕ → List Token × List ℕ) (here : List ℕ) (t : Token) (rest : List ℕ) → t ≢ Dot → chunk_from more here (Some (t, rest)) ≡ (t ∷ (more rest).0, (more rest).1)
unfolding chunk_from
from_more more here Dot rest differs = absurd (differs refl)
from_more more here _ rest differs = refl

nothing_left : (bytes here : List ℕ) → Skips false bytes here → length bytes ≤ 0 → (let x : List Token × List ℕ = ([], bytes) in x) ≡ ([], here)
nothing_left [] here s le = let k = skips_shorter s in ap (λ (x : List ℕ). (let y : List Token × List ℕ = ([], x) in y)) (sym (nil_from_length here (omega arith)))
nothing_left (b ∷ bytes) here s le = absurd (omega arith)

pub chunk_only : {bytes : List ℕ} {ts : List Token} {stop : List ℕ} → AreTokens bytes ts stop → (n : ℕ) → length bytes ≤ n → chunk n bytes ≡ (ts, stop)
unfolding chunk
chunk_only (NoToken bytes here s stops) zero le = nothing_left bytes here s (omega arith)
chunk_only (NoToken bytes here s stops) (suc n) le = rw (skips_only s) (from_none (chunk n) here (token_at here) refl stops)
chunk_only (MoreTokens bytes here t rest ts stop s l differs h) zero le = absurd (let a = skips_shorter s in let b = token_shorter l in omega arith)
chunk_only (MoreTokens bytes here t rest ts stop s l differs h) (suc n) le =
    let a = skips_shorter s in let b = token_shorter l in
    rw (skips_only s, longest_reads here t rest l) (from_more (chunk n) here t rest differs ∙ ap (λ (x : List Token × List ℕ). (let y : List Token × List ℕ = (t ∷ x.0, x.1) in y)) (chunk_only h n (omega arith)))

pub stop_shorter : {bytes : List ℕ} {ts : List Token} {stop : List ℕ} → AreTokens bytes ts stop → length stop ≤ length bytes
stop_shorter (NoToken bytes here s stops) = skips_shorter s
stop_shorter (MoreTokens bytes here t rest ts stop s l differs h) = let a = skips_shorter s in let b = token_shorter l in let c = stop_shorter h in omega arith

pub one_chunk : {bytes : List ℕ} {ts us : List Token} {stop other : List ℕ} → AreTokens bytes ts stop → AreTokens bytes us other → (ts ≡ us) × (stop ≡ other)
one_chunk {bytes} {ts} {us} {stop} {other} h k =
    let n : length bytes ≤ length bytes = omega arith in
    let e : (let x : List Token × List ℕ = (ts, stop) in x) ≡ (us, other) = sym (chunk_only h (length bytes) n) ∙ chunk_only k (length bytes) n in
    (ap (λ (x : List Token × List ℕ). x.0) e, ap (λ (x : List Token × List ℕ). x.1) e)
