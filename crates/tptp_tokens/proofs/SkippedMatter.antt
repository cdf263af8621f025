-- What is skipped byte by byte is what the definition skips.
use Rattle.std.proofs.Common.{◌≡◌, ℕ, Bool, true, false, ◌&&◌, ◌||◌, eqb, List, [], ◌∷◌, ◌++◌, ◌⊎◌, inl, inr, refl, sym, ap, subst, ◌∙◌}
use Rattle.std.proofs.lemmas.Bool.{cond_both, eqb-true, and_parts, or_parts, cases_Bool}
use Rattle.tptp_tokens.specs.Bytes.{is_white}
use Rattle.tptp_tokens.specs.Skipping.{Place, Between, InLine, OnStar, InBlock, OnSlash, skip}
use Rattle.tptp_tokens.specs.Matter.{begins, closes, opens, opens_line, IsInLine, IsFirm, Skips, Nothing, White, LineComment, LastComment, BlockComment}

-- ---- what the definition skips is skipped

in_line : (text bytes : List ℕ) → IsInLine text → skip InLine (text ++ 10 ∷ bytes) ≡ skip (Between true) bytes
unfolding skip
in_line [] bytes h = refl
in_line (b ∷ text) bytes h = rw h.0 (in_line text bytes h.1)

in_last : (text : List ℕ) → IsInLine text → skip InLine text ≡ []
unfolding skip
in_last [] h = refl
in_last (b ∷ text) h = rw h.0 (in_last text h.1)

or_true : (b : Bool) → (b || true) ≡ true
or_true true = refl
or_true false = refl

and_false : (b : Bool) → (b && false) ≡ false
and_false true = refl
and_false false = refl

closes_there : (text bytes : List ℕ) → closes (text ++ 42 ∷ 47 ∷ bytes) ≡ true
closes_there [] bytes = refl
closes_there (b ∷ text) bytes = rw (closes_there text bytes) (or_true (eqb b 42 && begins 47 (text ++ 42 ∷ 47 ∷ bytes)))

begins_same : (text bytes : List ℕ) → begins 47 (text ++ 42 ∷ 47 ∷ bytes) ≡ begins 47 (text ++ 42 ∷ [])
begins_same [] bytes = refl
begins_same (b ∷ text) bytes = refl

in_block : (text bytes : List ℕ) → closes (text ++ 42 ∷ []) ≡ false → skip InBlock (text ++ 42 ∷ 47 ∷ bytes) ≡ skip (Between false) bytes
unfolding skip
in_block [] bytes h = refl
in_block (b ∷ text) bytes h = let parts = or_parts (eqb b 42 && begins 47 (text ++ 42 ∷ [])) (closes (text ++ 42 ∷ [])) h in rw (begins_same text bytes, parts.0) (in_block text bytes parts.1)

firm_stays : (start : Bool) (bytes : List ℕ) → IsFirm start bytes → skip (Between start) bytes ≡ bytes
unfolding skip
firm_stays start [] h = refl
firm_stays start (b ∷ bytes) h = rw (h.0, h.1, h.2) refl

pub skips_only : {start : Bool} {bytes rest : List ℕ} → Skips start bytes rest → skip (Between start) bytes ≡ rest
unfolding skip
skips_only (Nothing start bytes firm) = firm_stays start bytes firm
skips_only (White start b bytes rest white h) = rw white (skips_only h)
skips_only (LineComment start b text bytes rest dark opening line h) = rw (dark, opening) (in_line text bytes line ∙ skips_only h)
skips_only (LastComment start b text dark opening line) = rw (dark, opening) (in_last text line)
skips_only (BlockComment start text bytes rest inside h) = rw (closes_there text bytes, and_false start) (in_block text bytes inside ∙ skips_only h)

-- ---- what is skipped is what the definition skips

record LineSplit (bytes rest : List ℕ) : Type 0 where
  text : List ℕ
  more : List ℕ
  line : IsInLine text
  is : bytes ≡ text ++ 10 ∷ more
  next : Skips true more rest

record BlockSplit (bytes rest : List ℕ) : Type 0 where
  text : List ℕ
  more : List ℕ
  inside : closes (text ++ 42 ∷ []) ≡ false
  is : bytes ≡ text ++ 42 ∷ 47 ∷ more
  next : Skips false more rest

abbrev Reaches : Place → List ℕ → List ℕ → Type 0
Reaches (Between start) bytes rest = Skips start bytes rest
Reaches InLine bytes rest = LineSplit bytes rest ⊎ (IsInLine bytes × (rest ≡ []))
Reaches OnStar [] rest = Unit {0}
Reaches OnStar (b ∷ bytes) rest = closes bytes ≡ true → BlockSplit bytes rest
Reaches InBlock bytes rest = closes bytes ≡ true → BlockSplit bytes rest
Reaches OnSlash [] rest = Unit {0}
Reaches OnSlash (b ∷ bytes) rest = Skips false bytes rest

from_line : (start : Bool) (b : ℕ) (bytes rest : List ℕ) → is_white b ≡ false → opens_line start b ≡ true → Reaches InLine bytes rest → Skips start (b ∷ bytes) rest
from_line start b bytes rest dark opening (inl s) = subst (λ (x : List ℕ). Skips start (b ∷ x) rest) (sym s.is) (LineComment start b s.text s.more rest dark opening s.line s.next)
from_line start b bytes rest dark opening (inr s) = subst (λ (x : List ℕ). Skips start (b ∷ bytes) x) (sym s.1) (LastComment start b bytes dark opening s.0)

from_star : (start : Bool) (b : ℕ) (bytes rest : List ℕ) → b ≡ 47 → opens bytes ≡ true → Reaches OnStar bytes rest → Skips start (b ∷ bytes) rest
from_star start b [] rest e o h = absurd cc
from_star start b (c ∷ inside) rest e o h =
    let p = and_parts (eqb c 42) (closes inside) o in
    let s = h p.1 in
    rw (e, eqb-true c 42 p.0, s.is) (BlockComment start s.text s.more rest s.inside s.next)

from_slash : (b : ℕ) (bytes rest : List ℕ) → b ≡ 42 → begins 47 bytes ≡ true → Reaches OnSlash bytes rest → BlockSplit (b ∷ bytes) rest
from_slash b [] rest e o h = absurd cc
from_slash b (c ∷ more) rest e o h = record { text = []; more = more; inside = refl; is = rw (e, eqb-true c 47 o) refl; next = h }

longer_block : (b : ℕ) (bytes rest : List ℕ) → (eqb b 42 && begins 47 bytes) ≡ false → BlockSplit bytes rest → BlockSplit (b ∷ bytes) rest
longer_block b bytes rest dull s = record {
  text = b ∷ s.text;
  more = s.more;
  inside = (let same : begins 47 (s.text ++ 42 ∷ []) ≡ begins 47 bytes = sym (begins_same s.text s.more) ∙ ap (begins 47) (sym s.is) in rw (same, dull) s.inside);
  is = ap (λ (x : List ℕ). b ∷ x) s.is;
  next = s.next;
}

longer_line : (b : ℕ) (bytes rest : List ℕ) → eqb b 10 ≡ false → Reaches InLine bytes rest → Reaches InLine (b ∷ bytes) rest
longer_line b bytes rest dull (inl s) = inl (record { text = b ∷ s.text; more = s.more; line = (dull, s.line); is = ap (λ (x : List ℕ). b ∷ x) s.is; next = s.next })
longer_line b bytes rest dull (inr s) = inr ((dull, s.0), s.1)

reaches : (place : Place) (bytes : List ℕ) → Reaches place bytes (skip place bytes)
unfolding skip
reaches (Between start) [] = Nothing start [] tt
reaches InLine [] = inr (tt, refl)
reaches OnStar [] = tt
reaches InBlock [] = λ e. absurd cc
reaches OnSlash [] = tt
reaches (Between start) (b ∷ bytes) = elim (cases_Bool (is_white b)) [
  | inl w ↦ rw w (White start b bytes _ w (reaches (Between (eqb b 10)) bytes))
  | inr dark ↦ elim (cases_Bool (opens_line start b)) [
    | inl opening ↦ rw (dark, opening) (from_line start b bytes _ dark opening (reaches InLine bytes))
    | inr plain ↦ elim (cases_Bool (eqb b 47 && opens bytes)) [
      | inl star ↦ rw (dark, plain, star) (let p = and_parts (eqb b 47) (opens bytes) star in from_star start b bytes _ (eqb-true b 47 p.0) p.1 (reaches OnStar bytes))
      | inr n ↦ rw (dark, plain, n) (Nothing start (b ∷ bytes) (dark, plain, n))
    ]
  ]
]
reaches InLine (b ∷ bytes) = cond_both (eqb b 10) (skip (Between true) bytes) (skip InLine bytes) (Reaches InLine (b ∷ bytes))
    (λ ending. inl (record { text = []; more = bytes; line = tt; is = ap (λ (x : ℕ). x ∷ bytes) (eqb-true b 10 ending); next = reaches (Between true) bytes }))
    (λ dull. longer_line b bytes (skip InLine bytes) dull (reaches InLine bytes))
reaches OnStar (b ∷ bytes) = reaches InBlock bytes
reaches InBlock (b ∷ bytes) = elim (cases_Bool (eqb b 42 && begins 47 bytes)) [
  | inl end ↦ rw end (λ e. let p = and_parts (eqb b 42) (begins 47 bytes) end in from_slash b bytes _ (eqb-true b 42 p.0) p.1 (reaches OnSlash bytes))
  | inr goes ↦ rw goes (λ e. longer_block b bytes _ goes (reaches InBlock bytes e))
]
reaches OnSlash (b ∷ bytes) = reaches (Between false) bytes

pub skips_so : (start : Bool) (bytes : List ℕ) → Skips start bytes (skip (Between start) bytes)
skips_so start bytes = reaches (Between start) bytes

pub one_rest : {start : Bool} {bytes rest other : List ℕ} → Skips start bytes rest → Skips start bytes other → rest ≡ other
one_rest h k = sym (skips_only h) ∙ skips_only k
