-- Quotes that nothing closes: what is known of them, and what a search that ends in vain tells.
use Rattle.std.proofs.Common.{◌≡◌, ℕ, ◌-◌, ◌≤◌, Bool, true, false, List, [], ◌∷◌, length, take, drop, get_or, None, ◌⊎◌, inl, inr, refl, sym, ap, subst, ◌∙◌, arith}
use Rattle.std.proofs.lemmas.Bool.{cond_both, cases_lt, eq-eqb, ne_eqb}
use Rattle.std.proofs.lemmas.Grind.{common_steps}
use Rattle.tptp_tokens.specs.Bytes.{is_printable, is_escaped}
use Rattle.tptp_tokens.specs.Scan.{with_byte, quoted_at}
use Rattle.tptp_tokens.specs.Skipping.{IsTail, Whole, Behind}
use Rattle.tptp_tokens.specs.Quotes.{NoneCloses, KnowsUnclosed}
use Rattle.tptp_tokens.specs.declared.quoted.Unclosed.{Unclosed}
use Rattle.tptp_tokens.proofs.Places.{tail_next, tail_shorter, tail_of_tail}

-- ---- what is known

-- no quote of the bytes has as many behind it
pub none_at_first : (quote : ℕ) (bytes : List ℕ) → NoneCloses quote (length bytes) bytes
unfolding NoneCloses
none_at_first quote bytes rest tail far = absurd (let k = tail_shorter tail in omega arith)

none_in_tail : (quote left : ℕ) {rest bytes : List ℕ} → IsTail rest bytes → NoneCloses quote left bytes → NoneCloses quote left rest
unfolding NoneCloses
none_in_tail quote left h none = λ r tail far. none r (tail_of_tail tail h) far

pub tail_knows_unclosed : {rest bytes : List ℕ} (u : Unclosed) → IsTail rest bytes → KnowsUnclosed u bytes → KnowsUnclosed u rest
tail_knows_unclosed u h k = (none_in_tail 39 u.single h k.0, none_in_tail 34 u.double h k.1)

-- the quote in front is one of them
pub none_closes_first : (quote left : ℕ) (bytes : List ℕ) → NoneCloses quote left (quote ∷ bytes) → left ≤ length bytes → quoted_at quote false bytes ≡ None
unfolding NoneCloses
none_closes_first quote left bytes none far = none bytes (Whole (quote ∷ bytes)) far

-- ---- what a search tells

same_tail : {rest other bytes : List ℕ} → IsTail rest bytes → IsTail other bytes → length rest ≡ length other → rest ≡ other
same_tail (Whole _) (Whole _) e = refl
same_tail (Whole _) (Behind _ c bytes k) e = absurd (let few = tail_shorter k in omega arith)
same_tail (Behind _ c bytes h) (Whole _) e = absurd (let few = tail_shorter h in omega arith)
same_tail (Behind _ c bytes h) (Behind _ _ _ k) e = same_tail h k e

here_or_before : {b quote : ℕ} {next rest bytes : List ℕ} → IsTail (b ∷ next) bytes → IsTail (quote ∷ rest) bytes → length next ≤ length rest → (quote ∷ rest ≡ b ∷ next) ⊎ (length (b ∷ next) ≤ length rest)
here_or_before {b} {quote} {next} {rest} h k far = elim (cases_lt (length next) (length rest)) [
  | inl before ↦ inr (omega arith)
  | inr few ↦ inl (same_tail k h (omega arith))
]

-- A search that has come to the rest, in this state: where it ends in vain, none closes a quote that it met.
pub record Searched (quote : ℕ) (escaped : Bool) (rest bytes : List ℕ) : Type 0 where
  pub tail : IsTail rest bytes
  pub none : quoted_at quote escaped rest ≡ None → NoneCloses quote (length rest) bytes

searched_next : (quote b : ℕ) (was is : Bool) (next bytes : List ℕ) → (quote ≡ b → is ≡ false) → (quoted_at quote is next ≡ None → quoted_at quote was (b ∷ next) ≡ None) → Searched quote was (b ∷ next) bytes → Searched quote is next bytes
unfolding NoneCloses
searched_next quote b was is next bytes at_quote back s = record {
  tail = tail_next s.tail;
  none = λ e rest tail far. elim (here_or_before s.tail tail far) [
    | inl here ↦
        let same : rest ≡ next = cc in
        let plain : is ≡ false = at_quote cc in
        subst (λ (x : List ℕ). quoted_at quote false x ≡ None) (sym same) (subst (λ (x : Bool). quoted_at quote x next ≡ None) plain e)
    | inr before ↦ s.none (back e) rest tail before
  ];
}

escaped_none : (quote b : ℕ) (bytes : List ℕ) → quoted_at quote false bytes ≡ None → quoted_at quote true (b ∷ bytes) ≡ None
escaped_none quote b bytes e = cond_both (is_escaped quote b) (with_byte b (quoted_at quote false bytes)) None (λ o. o ≡ None) (λ _. ap (with_byte b) e) (λ _. refl)

slash_none : (quote b : ℕ) (bytes : List ℕ) → (b ≡ quote → ⊥) → b ≡ 92 → quoted_at quote true bytes ≡ None → quoted_at quote false (b ∷ bytes) ≡ None
slash_none quote b bytes no_quote slash e = rw (ne_eqb b quote no_quote, eq-eqb b 92 slash) e

plain_none : (quote b : ℕ) (bytes : List ℕ) → (b ≡ quote → ⊥) → (b ≡ 92 → ⊥) → quoted_at quote false bytes ≡ None → quoted_at quote false (b ∷ bytes) ≡ None
plain_none quote b bytes no_quote no_slash e =
    rw (ne_eqb b quote no_quote, ne_eqb b 92 no_slash)
    (cond_both (is_printable b) (with_byte b (quoted_at quote false bytes)) None (λ o. o ≡ None) (λ _. ap (with_byte b) e) (λ _. refl))

-- the first quote counts as one that is escaped
pub searched_first : (quote : ℕ) (bytes : List ℕ) → Searched quote false bytes (quote ∷ bytes)
searched_first quote bytes = searched_next quote quote true false bytes (quote ∷ bytes) (λ e. refl) (escaped_none quote quote bytes) (record { tail = Whole (quote ∷ bytes); none = λ e. none_at_first quote (quote ∷ bytes) })

-- the same of the slice behind the first byte
behind_first : (quote : ℕ) (was is : Bool) (rest bytes : List ℕ) → 1 ≤ length rest → (quote ≡ get_or rest 0 0 → is ≡ false) → ((b : ℕ) (next : List ℕ) → b ≡ get_or rest 0 0 → quoted_at quote is next ≡ None → quoted_at quote was (b ∷ next) ≡ None)
    → Searched quote was rest bytes → Searched quote is (take (length rest - 1) (drop 1 rest)) bytes
behind_first quote was is [] bytes some at_quote back s = absurd (omega arith)
behind_first quote was is (b ∷ next) bytes some at_quote back s =
    let whole : take (length (b ∷ next) - 1) (drop 1 (b ∷ next)) ≡ next = grind (arith, common_steps) in
    subst (λ (x : List ℕ). Searched quote is x bytes) (sym whole) (searched_next quote b was is next bytes at_quote (back b next refl) s)

pub searched_escaped : (quote : ℕ) (was : Bool) (rest bytes : List ℕ) → 1 ≤ length rest → was ≡ true → Searched quote was rest bytes → Searched quote false (take (length rest - 1) (drop 1 rest)) bytes
searched_escaped quote was rest bytes some is s =
    behind_first quote true false rest bytes some (λ e. refl) (λ b next is. escaped_none quote b next) (subst (λ (x : Bool). Searched quote x rest bytes) is s)

pub searched_slash : (quote : ℕ) (was : Bool) (rest bytes : List ℕ) → 1 ≤ length rest → was ≡ false → (get_or rest 0 0 ≡ quote → ⊥) → get_or rest 0 0 ≡ 92 → Searched quote was rest bytes → Searched quote true (take (length rest - 1) (drop 1 rest)) bytes
searched_slash quote was rest bytes some is no_quote slash s =
    behind_first quote false true rest bytes some (λ e. absurd (no_quote (sym e))) (λ b next same. slash_none quote b next (λ e. no_quote (sym same ∙ e)) (same ∙ slash)) (subst (λ (x : Bool). Searched quote x rest bytes) is s)

pub searched_plain : (quote : ℕ) (was : Bool) (rest bytes : List ℕ) → 1 ≤ length rest → was ≡ false → (get_or rest 0 0 ≡ quote → ⊥) → (get_or rest 0 0 ≡ 92 → ⊥) → Searched quote was rest bytes → Searched quote was (take (length rest - 1) (drop 1 rest)) bytes
searched_plain quote was rest bytes some is no_quote no_slash s =
    let next = take (length rest - 1) (drop 1 rest) in
    let plain : Searched quote false next bytes = behind_first quote false false rest bytes some (λ e. refl) (λ b next same. plain_none quote b next (λ e. no_quote (sym same ∙ e)) (λ e. no_slash (sym same ∙ e))) (subst (λ (x : Bool). Searched quote x rest bytes) is s) in
    subst (λ (x : Bool). Searched quote x next bytes) (sym is) plain
