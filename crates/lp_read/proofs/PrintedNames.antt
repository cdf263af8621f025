-- The names of printed variables.
use Rattle.std.proofs.Common.{◌≡◌, ◌≢◌, refl, sym, ap, subst, ◌∙◌, ℕ, zero, suc, ◌+◌, ◌-◌, ◌/◌, ◌%◌, ◌<◌, ◌≤◌, ◌^◌, Bool, true, false, ◌&&◌, ◌||◌, eqb, ◌⊎◌, inl, inr, List, [], ◌∷◌, ◌++◌, length, Option, Some, None, codes, decimal, arith}
use Rattle.std.specs.Prelude.{◌==◌, nat_eq, option_map, IsTrue}
use Rattle.std.specs.Char.{is_ascii_digit, is_ascii_lowercase}
use Rattle.std.specs.Cmp.Lexicographic.{pointwise, same_text}
use Rattle.std.specs.Int.{is_in_range}
use Rattle.std.specs.List.{list_all}
use Rattle.std.proofs.lemmas.Bool.{cases_Bool, and_parts, eqb-true}
use Rattle.std.proofs.lemmas.Fmt.{decimal_by_steps, decimal_injective}
use Rattle.std.proofs.lemmas.List.Folds.{list_all-append}
use Rattle.lp_term.specs.Identifiers.{word_byte}
use Rattle.lp_term.specs.Reserved.{IsVariableName, begins_with_digit}
use Rattle.lp_term.specs.declared.Lp.{Lp}
use Rattle.lp_term.specs.declared.Lp.TheVariants as lp
use Rattle.lp_text.specs.Print.{variable_text}
use Rattle.lp_read.specs.Scopes.{Scope, binder_of, is_bound, meaning}
use Rattle.lp_read.specs.Tokens.{IsIdentifier}

-- ---- decimal digits

passes_below : (ℕ → Bool) → ℕ → Bool
passes_below test zero = true
passes_below test (suc n) = test n && passes_below test n

lt_or_same : (d n : ℕ) → d < suc n → (d < n) ⊎ (d ≡ n)
lt_or_same d n h = grind arith

passes_at : (test : ℕ → Bool) (n d : ℕ) → passes_below test n ≡ true → d < n → test d ≡ true
unfolding passes_below
passes_at test zero d e h = absurd (omega arith)
passes_at test (suc n) d e h =
    let parts = and_parts (test n) (passes_below test n) e in
    elim (lt_or_same d n h) [
      | inl below ↦ passes_at test n d parts.1 below
      | inr same ↦ rw same parts.0
    ]

digit_is : (d : ℕ) → d < 10 → is_ascii_digit (48 + d) ≡ true
unfolding passes_below
digit_is d h = passes_at (λ k. is_ascii_digit (48 + k)) 10 d refl h

digits-decimal : (n : ℕ) → n < 2 ^ 64 → list_all is_ascii_digit (decimal n) ≡ true
digits-decimal n small = decimal_by_steps (λ m ds. list_all is_ascii_digit ds ≡ true) one more n small
  where
    one : (m : ℕ) → m < 10 → list_all is_ascii_digit ((48 + m) ∷ []) ≡ true
    one m h = rw (digit_is m h) refl

    more : (m : ℕ) (ds : List ℕ) → 10 ≤ m → list_all is_ascii_digit ds ≡ true → list_all is_ascii_digit (ds ++ ((48 + m % 10) ∷ [])) ≡ true
    more m ds h known =
        let last : m % 10 < 10 = omega arith in
        list_all-append is_ascii_digit ds ((48 + m % 10) ∷ []) ∙ rw (known, digit_is (m % 10) last) refl

digit_word_at : (digits capitals lowercase underscore : Bool) → digits ≡ true → ((digits || capitals) || lowercase) || underscore ≡ true
digit_word_at true c l u e = refl
digit_word_at false c l u e = absurd cc

digits_are_words : (bytes : List ℕ) → list_all is_ascii_digit bytes ≡ true → list_all word_byte bytes ≡ true
digits_are_words [] e = refl
digits_are_words (b ∷ bytes) e =
    let p = and_parts (is_ascii_digit b) (list_all is_ascii_digit bytes) e in
    let here : word_byte b ≡ true = digit_word_at (is_in_range 48 57 b) (is_in_range 65 90 b) (is_ascii_lowercase b) (b == 95) p.0 in
    rw here (digits_are_words bytes p.1)

-- ---- a variable's name

pub heads_same : {c d : ℕ} {r s : List ℕ} → c ∷ r ≡ d ∷ s → c ≡ d
heads_same e = cc

tails_same : {c d : ℕ} {r s : List ℕ} → c ∷ r ≡ d ∷ s → r ≡ s
tails_same e = cc

-- no word of the grammar begins with `v`
no_word : (digits : List ℕ) (first : ℕ) (others : List ℕ) → eqb 118 first ≡ false → 118 ∷ digits ≢ first ∷ others
no_word digits first others differs e = let same = heads_same e in absurd (let c : eqb 118 118 ≡ false = subst (λ (n : ℕ). eqb 118 n ≡ false) (sym same) differs in cc)

pub variable_identifier : (level : ℕ) → level < 2 ^ 64 → IsIdentifier (variable_text level)
variable_identifier level small = record {
  grammar = record {
    not_empty = λ (e : 118 ∷ decimal level ≡ []). absurd cc;
    word_bytes = (let digits = digits_are_words (decimal level) (digits-decimal level small) in rw digits refl);
    no_digit_first = refl;
    no_lone_underscore = no_word (decimal level) 95 [] refl;
  };
  free = (no_word _ _ _ refl, (no_word _ _ _ refl, (no_word _ _ _ refl, (no_word _ _ _ refl, (no_word _ _ _ refl, (no_word _ _ _ refl, tt))))));
}

variable_name : (level : ℕ) → level < 2 ^ 64 → IsVariableName (variable_text level)
variable_name level small = (decimal level, refl, (let digits = digits-decimal level small in rw digits refl))

variable_same : (a b : ℕ) → a < 2 ^ 64 → b < 2 ^ 64 → variable_text a ≡ variable_text b → a ≡ b
variable_same a b small few e = decimal_injective a b small few (tails_same e)

-- ---- the scopes of printed terms

-- each binder that has a name has the variable's of its level
abbrev pub IsEntry : ℕ → Option (List ℕ) → Type 0
IsEntry level None = Unit {0}
IsEntry level (Some name) = name ≡ variable_text level

abbrev pub IsCanonical : Scope → Type 0
IsCanonical [] = Unit {0}
IsCanonical (entry ∷ scope) = IsEntry (length scope) entry × IsCanonical scope

-- whether the binder of that number is there and has a name
abbrev pub has_name : Scope → ℕ → Bool
has_name [] number = false
has_name (None ∷ scope) zero = false
has_name (Some name ∷ scope) zero = true
has_name (entry ∷ scope) (suc number) = has_name scope number

named_inside : (scope : Scope) (number : ℕ) → has_name scope number ≡ true → number < length scope
named_inside [] number e = absurd cc
named_inside (None ∷ scope) zero e = absurd cc
named_inside (Some name ∷ scope) zero e = omega arith
named_inside (None ∷ scope) (suc number) e = let k = named_inside scope number e in omega arith
named_inside (Some name ∷ scope) (suc number) e = let k = named_inside scope number e in omega arith

same_name : (name : List ℕ) → pointwise nat_eq name name ≡ true
same_name [] = refl
same_name (b ∷ name) = rw (same_name name) (grind arith)

other_name : (a b : List ℕ) → a ≢ b → pointwise nat_eq a b ≡ false
other_name a b differs = elim (cases_Bool (pointwise nat_eq a b)) [ inl e ↦ absurd (differs (same_text a b (sym e))) | inr e ↦ e ]

-- an entry whose name is another is passed
passed_entry : (entry : Option (List ℕ)) (level : ℕ) (name : List ℕ) → IsEntry level entry → variable_text level ≢ name → is_bound entry name ≡ false
passed_entry None level name is differs = refl
passed_entry (Some bound) level name is differs = other_name bound name (λ e. differs (sym is ∙ e))

pub variable_found : (scope : Scope) (number : ℕ) → length scope < 2 ^ 64 → IsCanonical scope → has_name scope number ≡ true → binder_of scope (variable_text (length scope - 1 - number)) ≡ Some number
variable_found [] number small is e = absurd cc
variable_found (None ∷ scope) zero small is e = absurd cc
variable_found (Some name ∷ scope) zero small is e =
    let level : length (Some name ∷ scope) - 1 - 0 ≡ length scope = omega arith in
    rw level (rw (sym is.0) (rw (same_name name) refl))
variable_found (entry ∷ scope) (suc number) small is e =
    let inside = named_inside scope number e in
    let level : length (entry ∷ scope) - 1 - suc number ≡ length scope - 1 - number = omega arith in
    let differs : variable_text (length scope) ≢ variable_text (length scope - 1 - number) = λ same. (let k = variable_same (length scope) (length scope - 1 - number) (omega arith) (omega arith) same in omega arith) in
    rw level (rw (passed_entry entry (length scope) (variable_text (length scope - 1 - number)) is.0 differs) (ap (option_map suc) (variable_found scope number (omega arith) is.1 e)))

pub symbol_found : (scope : Scope) (name : List ℕ) → length scope < 2 ^ 64 → IsCanonical scope → ¬ IsVariableName name → binder_of scope name ≡ None
symbol_found [] name small is free = refl
symbol_found (entry ∷ scope) name small is free =
    let differs : variable_text (length scope) ≢ name = λ same. free (subst IsVariableName same (variable_name (length scope) (omega arith))) in
    rw (passed_entry entry (length scope) name is.0 differs) (ap (option_map suc) (symbol_found scope name (omega arith) is.1 free))
