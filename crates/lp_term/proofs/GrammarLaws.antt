-- Identifiers of symbols are identifiers of the grammar.
use Rattle.std.proofs.Common.{◌≡◌, ◌≢◌, refl, ◌∙◌, ℕ, zero, suc, ◌+◌, ◌/◌, ◌%◌, ◌<◌, ◌≤◌, ◌^◌, Bool, true, false, ◌&&◌, ◌||◌, ◌⊎◌, inl, inr, ◌==◌, if◌then◌else◌, List, [], ◌∷◌, ◌++◌, slice_index_or, codes, decimal, arith}
use Rattle.std.specs.Char.{is_ascii_lowercase}
use Rattle.std.specs.Int.{is_in_range}
use Rattle.std.specs.List.{list_all}
use Rattle.std.proofs.lemmas.Fmt.{decimal_by_steps}
use Rattle.std.proofs.lemmas.List.Folds.{list_all-append}
use Rattle.hex.specs.Hex.{IsBytes, encode_lower, encode_with, lower_digits}
use Rattle.dk_syntax.specs.declared.Kind.{Kind}
use Rattle.dk_syntax.specs.declared.Kind.TheVariants.{Function, Predicate}
use Rattle.dk_syntax.specs.declared.SymKey.{SymKey}
use Rattle.lp_term.specs.Identifiers.{identifier_of, kind_letter, lower_word, name_text, word_byte}
use Rattle.lp_term.specs.Reserved.{IsGrammarName, IsSymbol}

both : (a b : Bool) → a && b ≡ true → (a ≡ true) × (b ≡ true)
both true true e = (refl, refl)
both true false e = (refl, e)
both false b e = (e, cc)

lt_or_same : (d n : ℕ) → d < suc n → (d < n) ⊎ (d ≡ n)
lt_or_same d n h = grind arith

-- the test passes each number below the bound
passes_below : (ℕ → Bool) → ℕ → Bool
passes_below test zero = true
passes_below test (suc n) = test n && passes_below test n

passes_at : (test : ℕ → Bool) (n d : ℕ) → passes_below test n ≡ true → d < n → test d ≡ true
unfolding passes_below
passes_at test zero d e h = absurd (omega arith)
passes_at test (suc n) d e h =
    let parts = both (test n) (passes_below test n) e in
    elim (lt_or_same d n h) [
      | inl below ↦ passes_at test n d parts.1 below
      | inr same ↦ rw same parts.0
    ]

digit_is_word : (d : ℕ) → d < 10 → word_byte (48 + d) ≡ true
unfolding passes_below
digit_is_word d h = passes_at (λ k. word_byte (48 + k)) 10 d refl h

words-decimal : (n : ℕ) → n < 2 ^ 64 → list_all word_byte (decimal n) ≡ true
words-decimal n small = decimal_by_steps (λ m ds. list_all word_byte ds ≡ true) one more n small
  where
    one : (m : ℕ) → m < 10 → list_all word_byte ((48 + m) ∷ []) ≡ true
    one m h = rw (digit_is_word m h) refl

    more : (m : ℕ) (ds : List ℕ) → 10 ≤ m → list_all word_byte ds ≡ true → list_all word_byte (ds ++ ((48 + m % 10) ∷ [])) ≡ true
    more m ds h known =
        let last : m % 10 < 10 = omega arith in
        list_all-append word_byte ds ((48 + m % 10) ∷ []) ∙ rw (known, digit_is_word (m % 10) last) refl

hex_digit_is_word : (d : ℕ) → d < 16 → word_byte (slice_index_or lower_digits d 0) ≡ true
unfolding passes_below
hex_digit_is_word d h = passes_at (λ k. word_byte (slice_index_or lower_digits k 0)) 16 d refl h

words-encode_lower : (bytes : List ℕ) → IsBytes bytes → list_all word_byte (encode_lower bytes) ≡ true
unfolding encode_with
words-encode_lower [] h = refl
words-encode_lower (b ∷ rest) h =
    let byte : b < 256 = h 0 in
    let high : b / 16 < 16 = omega arith in
    let low : b % 16 < 16 = omega arith in
    rw (hex_digit_is_word (b / 16) high, hex_digit_is_word (b % 16) low) (words-encode_lower rest (λ k. h (suc k)))

lower_is_word : (digits capitals lowercase underscore : Bool) → lowercase ≡ true → ((digits || capitals) || lowercase) || underscore ≡ true
lower_is_word true c l u e = refl
lower_is_word false true l u e = refl
lower_is_word false false true u e = refl
lower_is_word false false false u e = cc

words-lower_word : (name : List ℕ) → lower_word name ≡ true → list_all word_byte name ≡ true
words-lower_word [] e = cc
words-lower_word (first ∷ rest) e =
    let parts = both (is_ascii_lowercase first) (list_all word_byte rest) e in
    let here : word_byte first ≡ true = lower_is_word (is_in_range 48 57 first) (is_in_range 65 90 first) (is_ascii_lowercase first) (first == 95) parts.0 in
    rw (here, parts.1) refl

words_by_case : (i : Bool) (name : List ℕ) → lower_word name ≡ i → IsBytes name
    → list_all word_byte (if i then name else codes "Q" ++ encode_lower name) ≡ true
words_by_case true name e h = words-lower_word name e
words_by_case false name e h = words-encode_lower name h

words-name_text : (name : List ℕ) → IsBytes name → list_all word_byte (name_text name) ≡ true
words-name_text name h = words_by_case (lower_word name) name refl h

words_after : (letter : ℕ) (digits name : List ℕ) → word_byte letter ≡ true → list_all word_byte digits ≡ true
    → list_all word_byte name ≡ true → list_all word_byte (letter ∷ (digits ++ (95 ∷ name))) ≡ true
words_after letter digits name a b c =
    let rest : list_all word_byte (digits ++ (95 ∷ name)) ≡ true = list_all-append word_byte digits (95 ∷ name) ∙ rw (b, c) refl in
    rw (a, rest) refl

same_heads : (c d : ℕ) (r s : List ℕ) → c ∷ r ≡ d ∷ s → c ≡ d
same_heads c d r s e = cc

no_lone_underscore_f : (rest : List ℕ) → 102 ∷ rest ≢ 95 ∷ []
no_lone_underscore_f rest e = omega (arith, same_heads 102 95 rest [] e)

no_lone_underscore_p : (rest : List ℕ) → 112 ∷ rest ≢ 95 ∷ []
no_lone_underscore_p rest e = omega (arith, same_heads 112 95 rest [] e)

named : (k : Kind) (digits name : List ℕ) → list_all word_byte digits ≡ true → list_all word_byte name ≡ true
    → IsGrammarName (kind_letter k ∷ (digits ++ (95 ∷ name)))
named Function digits name a b = record {
  not_empty = λ e. cc;
  word_bytes = words_after 102 digits name refl a b;
  no_digit_first = refl;
  no_lone_underscore = no_lone_underscore_f (digits ++ (95 ∷ name));
}
named Predicate digits name a b = record {
  not_empty = λ e. cc;
  word_bytes = words_after 112 digits name refl a b;
  no_digit_first = refl;
  no_lone_underscore = no_lone_underscore_p (digits ++ (95 ∷ name));
}

pub identifier_of-grammar : (s : SymKey) → IsSymbol s → IsGrammarName (identifier_of s)
identifier_of-grammar s h =
    named s.kind (decimal s.arity) (name_text s.name) (words-decimal s.arity (omega (arith, h.arity_fits))) (words-name_text s.name h.name_is_bytes)
