-- Tails of texts, and the last comment's end in them.
use Rattle.std.proofs.Common.{◌≡◌, ℕ, zero, suc, ◌-◌, ◌+◌, ◌<◌, ◌≤◌, ◌++◌, true, false, Bool, cond, leb, eqb, ◌&&◌, ◌||◌, List, [], ◌∷◌, length, take, drop, refl, sym, ap, subst, ◌∙◌, ◌⊎◌, inl, inr, arith, length-append, append_assoc, append-nil}
use Rattle.std.proofs.lemmas.Bool.{cond_both, cases_Bool, eqb-true, leb-false, lt-leb, le-leb, and_parts}
use Rattle.std.proofs.lemmas.Grind.{common_steps}
use Rattle.tptp_tokens.specs.Matter.{begins, closes}
use Rattle.tptp_tokens.specs.Skipping.{last_closing, KnowsClosing, IsTail, Whole, Behind, Between, skip}
use Rattle.tptp_tokens.specs.Scan.{token_at}
use Rattle.tptp_tokens.specs.Chunks.{chunk_from, chunk}

pub tail_next : {b : ℕ} {next bytes : List ℕ} → IsTail (b ∷ next) bytes → IsTail next bytes
tail_next {b} {next} (Whole _) = Behind next b next (Whole next)
tail_next {b} {next} (Behind _ c bytes h) = Behind next c bytes (tail_next h)

pub tail_shorter : {rest bytes : List ℕ} → IsTail rest bytes → length rest ≤ length bytes
tail_shorter (Whole _) = omega arith
tail_shorter (Behind _ c bytes h) = let k = tail_shorter h in omega arith

pub tail_of_tail : {rest bytes whole : List ℕ} → IsTail rest bytes → IsTail bytes whole → IsTail rest whole
tail_of_tail h (Whole _) = h
tail_of_tail {rest} h (Behind _ c whole k) = Behind rest c whole (tail_of_tail h k)

pub tail_behind : (front rest : List ℕ) → IsTail rest (front ++ rest)
tail_behind [] rest = Whole rest
tail_behind (b ∷ front) rest = Behind rest b (front ++ rest) (tail_behind front rest)

last_is_in : (bytes : List ℕ) → last_closing bytes ≤ length bytes
last_is_in [] = omega arith
last_is_in (b ∷ bytes) = cond_both (eqb (last_closing bytes) 0 && (eqb b 42 && begins 47 bytes)) (suc (length bytes)) (last_closing bytes) (λ x. x ≤ length (b ∷ bytes)) (λ e. omega arith) (λ e. let k = last_is_in bytes in omega arith)

pub knows_whole : (bytes : List ℕ) → KnowsClosing (last_closing bytes) bytes
unfolding KnowsClosing
knows_whole bytes = rw (le-leb (last_closing bytes) (length bytes) (last_is_in bytes)) refl

-- what a test on numbers decides
below : (c n : ℕ) → n < c → cond (leb c n) c 0 ≡ 0
below c n lt = rw (lt-leb c n lt) refl

pub knows_next : (c b : ℕ) (bytes : List ℕ) → KnowsClosing c (b ∷ bytes) → KnowsClosing c bytes
unfolding KnowsClosing
knows_next c b bytes h =
    let inside = last_is_in bytes in
    let test : Bool = eqb (last_closing bytes) 0 && (eqb b 42 && begins 47 bytes) in
    elim (cases_Bool (eqb (last_closing bytes) 0 && (eqb b 42 && begins 47 bytes))) [
      | inl e ↦
          let none : last_closing bytes ≡ 0 = eqb-true (last_closing bytes) 0 ((and_parts (eqb (last_closing bytes) 0) (eqb b 42 && begins 47 bytes) e).0) in
          let is : suc (length bytes) ≡ cond (leb c (suc (length bytes))) c 0 = ap (λ (x : Bool). cond x (suc (length bytes)) (last_closing bytes)) (sym e) ∙ h in
          elim (cases_Bool (leb c (suc (length bytes)))) [
            | inl l ↦ let same : suc (length bytes) ≡ c = is ∙ ap (λ (x : Bool). cond x c 0) l in none ∙ sym (below c (length bytes) (omega arith))
            | inr l ↦ let same : suc (length bytes) ≡ 0 = is ∙ ap (λ (x : Bool). cond x c 0) l in absurd (omega arith)
          ]
      | inr e ↦
          let is : last_closing bytes ≡ cond (leb c (suc (length bytes))) c 0 = ap (λ (x : Bool). cond x (suc (length bytes)) (last_closing bytes)) (sym e) ∙ h in
          elim (cases_Bool (leb c (suc (length bytes)))) [
            | inl l ↦ let same : last_closing bytes ≡ c = is ∙ ap (λ (x : Bool). cond x c 0) l in rw (le-leb c (length bytes) (omega arith)) same
            | inr l ↦ let far = leb-false c (suc (length bytes)) l in (is ∙ ap (λ (x : Bool). cond x c 0) l) ∙ sym (below c (length bytes) (omega arith))
          ]
    ]

pub tail_knows : {rest bytes : List ℕ} (c : ℕ) → IsTail rest bytes → KnowsClosing c bytes → KnowsClosing c rest
tail_knows c (Whole _) k = k
tail_knows c (Behind _ b bytes h) k = tail_knows c h (knows_next c b bytes k)

none_closes : (bytes : List ℕ) → last_closing bytes ≡ 0 → closes bytes ≡ false
none_closes [] e = refl
none_closes (b ∷ bytes) e = elim (cases_Bool (eqb (last_closing bytes) 0 && (eqb b 42 && begins 47 bytes))) [
  | inl t ↦ let wrong : suc (length bytes) ≡ 0 = ap (λ (x : Bool). cond x (suc (length bytes)) (last_closing bytes)) (sym t) ∙ e in absurd (omega arith)
  | inr t ↦
      let none : last_closing bytes ≡ 0 = ap (λ (x : Bool). cond x (suc (length bytes)) (last_closing bytes)) (sym t) ∙ e in
      let not_here : (eqb b 42 && begins 47 bytes) ≡ false = rw none at t in
      rw (not_here, none_closes bytes none) refl
]

pub known_none : (c : ℕ) (bytes : List ℕ) → KnowsClosing c bytes → (c ≡ 0) ⊎ (length bytes < c) → closes bytes ≡ false
unfolding KnowsClosing
known_none c bytes k (inl zero_tail) = none_closes bytes (k ∙ elim (cases_Bool (leb c (length bytes))) [ inl l ↦ ap (λ (x : Bool). cond x c 0) l ∙ zero_tail | inr l ↦ ap (λ (x : Bool). cond x c 0) l ])
known_none c bytes k (inr far) = none_closes bytes (k ∙ below c (length bytes) far)

-- the slice behind the first byte
pub tail_slice : (rest bytes : List ℕ) → 1 ≤ length rest → IsTail rest bytes → IsTail (take (length rest - 1) (drop 1 rest)) bytes
tail_slice [] bytes some h = absurd (omega arith)
tail_slice (b ∷ next) bytes some h = let whole : take (length (b ∷ next) - 1) (drop 1 (b ∷ next)) ≡ next = grind (arith, common_steps) in subst (λ (x : List ℕ). IsTail x bytes) (sym whole) (tail_next h)

pub tail_whole : (bytes : List ℕ) → IsTail bytes bytes
tail_whole bytes = Whole bytes

pub chunk_layer : (n i : ℕ) (bytes : List ℕ) → i < n → chunk (n - i) bytes ≡ chunk_from (chunk (n - (i + 1))) (skip (Between false) bytes) (token_at (skip (Between false) bytes))
unfolding chunk
chunk_layer n i bytes lt = let e : n - i ≡ suc (n - (i + 1)) = omega arith in ap (λ (k : ℕ). chunk k bytes) e

pub chunk_none : (n i : ℕ) (bytes : List ℕ) → n ≤ i → chunk (n - i) bytes ≡ ([], bytes)
unfolding chunk
chunk_none n i bytes le = let e : n - i ≡ 0 = omega arith in ap (λ (k : ℕ). chunk k bytes) e

-- what was read before, and what is still read
abbrev pub with_tokens : {A : Type 0} → List A → List A × List ℕ → List A × List ℕ
with_tokens front x = (front ++ x.0, x.1)

pub ruleset places = (common_steps, tail_whole, chunk_layer, chunk_none, append_assoc, append-nil, tail_slice, tail_of_tail, tail_shorter, tail_knows)
