-- What is skipped byte by byte is what the definition skips.
use Rattle.std.proofs.Common.{◌≡◌, ℕ, ◌≤◌, Bool, true, false, ◌&&◌, eqb, List, [], ◌∷◌, ◌++◌, length, ◌⊎◌, inl, inr, refl, sym, ap, subst, ◌∙◌, arith, length-append}
use Rattle.std.proofs.lemmas.Bool.{cond_both, eqb-true, and_parts, cases_Bool}
use Rattle.lp_read.specs.Matter.{is_white, begins_with_slash, IsInLine, IsFirm, Skips, Nothing, White, Comment, LastComment}
use Rattle.lp_read.specs.Scan.{skip}

-- ---- what the definition skips is skipped

in_line : (text bytes : List ℕ) → IsInLine text → skip true (text ++ 10 ∷ bytes) ≡ skip false bytes
unfolding skip
in_line [] bytes h = refl
in_line (b ∷ text) bytes h = rw h.0 (in_line text bytes h.1)

in_last : (text : List ℕ) → IsInLine text → skip true text ≡ []
unfolding skip
in_last [] h = refl
in_last (b ∷ text) h = rw h.0 (in_last text h.1)

firm_stays : (bytes : List ℕ) → IsFirm bytes → skip false bytes ≡ bytes
unfolding skip
firm_stays [] h = refl
firm_stays (b ∷ bytes) h = rw (h.0, h.1) refl

pub skips_only : {bytes rest : List ℕ} → Skips bytes rest → skip false bytes ≡ rest
unfolding skip
skips_only (Nothing bytes firm) = firm_stays bytes firm
skips_only (White b bytes rest white h) = rw white (skips_only h)
skips_only (Comment text bytes rest line h) = in_line text bytes line ∙ skips_only h
skips_only (LastComment text line) = in_last text line

-- ---- what is skipped is what the definition skips

record LineSplit (bytes rest : List ℕ) : Type 0 where
  text : List ℕ
  more : List ℕ
  line : IsInLine text
  is : bytes ≡ text ++ 10 ∷ more
  next : Skips more rest

abbrev Reaches : Bool → List ℕ → List ℕ → Type 0
Reaches false bytes rest = Skips bytes rest
Reaches true bytes rest = LineSplit bytes rest ⊎ (IsInLine bytes × (rest ≡ []))

longer_line : (b : ℕ) (bytes rest : List ℕ) → eqb b 10 ≡ false → Reaches true bytes rest → Reaches true (b ∷ bytes) rest
longer_line b bytes rest dull (inl s) = inl (record { text = b ∷ s.text; more = s.more; line = (dull, s.line); is = ap (λ (x : List ℕ). b ∷ x) s.is; next = s.next })
longer_line b bytes rest dull (inr s) = inr ((dull, s.0), s.1)

head_same : {x y : ℕ} {xs ys : List ℕ} → x ∷ xs ≡ y ∷ ys → x ≡ y
head_same e = cc

tail_same : {x y : ℕ} {xs ys : List ℕ} → x ∷ xs ≡ y ∷ ys → xs ≡ ys
tail_same e = cc

from_text : (text more inside rest : List ℕ) → IsInLine text → 47 ∷ inside ≡ text ++ 10 ∷ more → Skips more rest → Skips (47 ∷ 47 ∷ inside) rest
from_text [] more inside rest line is h = absurd (let e = head_same is in omega arith)
from_text (d ∷ text) more inside rest line is h = subst (λ (x : List ℕ). Skips (47 ∷ 47 ∷ x) rest) (sym (tail_same is)) (Comment text more rest line.1 h)

from_slashes : (inside rest : List ℕ) → Reaches true (47 ∷ inside) rest → Skips (47 ∷ 47 ∷ inside) rest
from_slashes inside rest (inl s) = from_text s.text s.more inside rest s.line s.is s.next
from_slashes inside rest (inr s) = subst (λ (x : List ℕ). Skips (47 ∷ 47 ∷ inside) x) (sym s.1) (LastComment inside s.0.1)

from_slash : (b : ℕ) (bytes rest : List ℕ) → b ≡ 47 → begins_with_slash bytes ≡ true → Reaches true bytes rest → Skips (b ∷ bytes) rest
from_slash b [] rest e o h = absurd cc
from_slash b (c ∷ inside) rest e o h =
    let same = eqb-true c 47 o in
    rw (e, same) (from_slashes inside rest (subst (λ (x : ℕ). Reaches true (x ∷ inside) rest) same h))

reaches : (inside : Bool) (bytes : List ℕ) → Reaches inside bytes (skip inside bytes)
unfolding skip
reaches false [] = Nothing [] tt
reaches true [] = inr (tt, refl)
reaches false (b ∷ bytes) = elim (cases_Bool (is_white b)) [
  | inl w ↦ rw w (White b bytes _ w (reaches false bytes))
  | inr dark ↦ elim (cases_Bool (eqb b 47 && begins_with_slash bytes)) [
    | inl opens ↦ rw (dark, opens) (let p = and_parts (eqb b 47) (begins_with_slash bytes) opens in from_slash b bytes _ (eqb-true b 47 p.0) p.1 (reaches true bytes))
    | inr plain ↦ rw (dark, plain) (Nothing (b ∷ bytes) (dark, plain))
  ]
]
reaches true (b ∷ bytes) = cond_both (eqb b 10) (skip false bytes) (skip true bytes) (Reaches true (b ∷ bytes))
    (λ ending. inl (record { text = []; more = bytes; line = tt; is = ap (λ (x : ℕ). x ∷ bytes) (eqb-true b 10 ending); next = reaches false bytes }))
    (λ dull. longer_line b bytes (skip true bytes) dull (reaches true bytes))

pub skips_so : (bytes : List ℕ) → Skips bytes (skip false bytes)
skips_so bytes = reaches false bytes

pub one_rest : {bytes rest other : List ℕ} → Skips bytes rest → Skips bytes other → rest ≡ other
one_rest h k = sym (skips_only h) ∙ skips_only k

pub skips_shorter : {bytes rest : List ℕ} → Skips bytes rest → length rest ≤ length bytes
skips_shorter (Nothing bytes firm) = omega arith
skips_shorter (White b bytes rest white h) = let k = skips_shorter h in omega arith
skips_shorter (Comment text bytes rest line h) = let k = skips_shorter h in let e = length-append text (10 ∷ bytes) in omega arith
skips_shorter (LastComment text line) = omega arith
