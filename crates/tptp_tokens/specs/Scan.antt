-- A token read from left to right. The laws in proofs/LongestToken say that this is the longest one.
use Rattle.std.specs.Prelude.{ℕ, ◌-◌, Bool, true, false, List, [], ◌∷◌, length, take, Option, Some, None, ◌==◌, ◌&&◌, ◌||◌, if◌then◌else◌, option_map}
use Rattle.tptp_tokens.specs.Bytes.{is_lower, is_upper, is_digit, is_word, is_sign, is_exponent_mark, is_printable, is_visible, is_escaped}
use Rattle.tptp_tokens.specs.Spelling.{mark_of}
use Rattle.tptp_tokens.specs.declared.token.Token.{Token}
use Rattle.tptp_tokens.specs.declared.token.Token.TheVariants as t

-- the bytes before the rest
abbrev pub before : List ℕ → List ℕ → List ℕ
before bytes rest = take (length bytes - length rest) bytes

-- behind the bytes in front that pass the test
abbrev pub after : (ℕ → Bool) → List ℕ → List ℕ
after p [] = []
after p (b ∷ bytes) = if p b then after p bytes else b ∷ bytes

-- behind a lower word
abbrev pub after_lower : List ℕ → Option (List ℕ)
after_lower [] = None
after_lower (b ∷ bytes) = if is_lower b then Some (after is_word bytes) else None

-- behind a dollar word whose first `$` stands before the bytes
abbrev pub after_dollar : List ℕ → Option (List ℕ)
after_dollar [] = None
after_dollar (b ∷ bytes) = if b == 36 then after_lower bytes else after_lower (b ∷ bytes)

abbrev pub after_digits : List ℕ → Option (List ℕ)
after_digits [] = None
after_digits (b ∷ bytes) = if is_digit b then Some (after is_digit bytes) else None

abbrev pub after_sign : List ℕ → List ℕ
after_sign [] = []
after_sign (b ∷ bytes) = if is_sign b then bytes else b ∷ bytes

-- what is left, or all the bytes where nothing is read
abbrev pub or_all : List ℕ → Option (List ℕ) → List ℕ
or_all bytes None = bytes
or_all bytes (Some rest) = rest

abbrev pub after_exponent : List ℕ → List ℕ
after_exponent [] = []
after_exponent (b ∷ bytes) = if is_exponent_mark b then or_all (b ∷ bytes) (after_digits (after_sign bytes)) else b ∷ bytes

abbrev pub after_fraction : List ℕ → Option (List ℕ) → List ℕ
after_fraction bytes None = bytes
after_fraction bytes (Some rest) = after_exponent rest

abbrev pub after_tail : List ℕ → List ℕ
after_tail [] = []
after_tail (b ∷ bytes) = if b == 47 then or_all (b ∷ bytes) (after_digits bytes) else (if b == 46 then after_fraction (b ∷ bytes) (after_digits bytes) else after_exponent (b ∷ bytes))

abbrev pub after_number : List ℕ → Option (List ℕ)
after_number bytes = option_map after_tail (after_digits (after_sign bytes))

-- a byte before what is read between quotes
abbrev pub with_byte : ℕ → Option (List ℕ × List ℕ) → Option (List ℕ × List ℕ)
with_byte b None = None
with_byte b (Some found) = Some (b ∷ found.0, found.1)

-- what stands between quotes, and the bytes behind the second one; the flag says that a `\` stands before the bytes
abbrev pub quoted_at : ℕ → Bool → List ℕ → Option (List ℕ × List ℕ)
quoted_at quote escaped [] = None
quoted_at quote true (b ∷ bytes) = if is_escaped quote b then with_byte b (quoted_at quote false bytes) else None
quoted_at quote false (b ∷ bytes) = if b == quote then Some ([], bytes) else (if b == 92 then quoted_at quote true bytes else (if is_printable b then with_byte b (quoted_at quote false bytes) else None))

-- a name in quotes, or a lone quote
abbrev pub quoted_or : List ℕ → Option (List ℕ × List ℕ) → Token × List ℕ
quoted_or bytes None = (t.Other 39, bytes)
quoted_or bytes (Some ([], rest)) = (t.Other 39, bytes)
quoted_or bytes (Some (b ∷ text, rest)) = (t.Quoted (b ∷ text), rest)

-- a distinct object, or a lone quote
abbrev pub distinct_or : List ℕ → Option (List ℕ × List ℕ) → Token × List ℕ
distinct_or bytes None = (t.Other 34, bytes)
distinct_or bytes (Some found) = (t.Distinct found.0, found.1)

-- a dollar word, or a lone `$`, which stands before the bytes
abbrev pub dollar_or : List ℕ → Option (List ℕ) → Token × List ℕ
dollar_or bytes None = (t.Other 36, bytes)
dollar_or bytes (Some rest) = (t.Dollar (before (36 ∷ bytes) rest), rest)

-- a number, or a lone sign
abbrev pub number_or : ℕ → List ℕ → Option (List ℕ) → Token × List ℕ
number_or b bytes None = (t.Other b, bytes)
number_or b bytes (Some rest) = (t.Number (before (b ∷ bytes) rest), rest)

-- the byte, unless it begins no token
abbrev pub other_at : ℕ → List ℕ → Option (Token × List ℕ)
other_at b bytes = if is_visible b then Some (t.Other b, bytes) else None

abbrev pub single_or : Option Token → ℕ → List ℕ → Option (Token × List ℕ)
single_or None b bytes = other_at b bytes
single_or (Some mark) b bytes = Some (mark, bytes)

abbrev pub single_at : ℕ → List ℕ → Option (Token × List ℕ)
single_at b bytes = single_or (mark_of b) b bytes

-- `<=>`, `<~>`, `<=` or `<`, behind the `<`
abbrev pub less_at : List ℕ → Token × List ℕ
less_at [] = (t.Other 60, [])
less_at (b ∷ []) = if b == 61 then (t.ImpliedBy, []) else (t.Other 60, b ∷ [])
less_at (b ∷ c ∷ bytes) = if b == 61 && c == 62 then (t.Iff, bytes) else (if b == 126 && c == 62 then (t.Differs, bytes) else (if b == 61 then (t.ImpliedBy, c ∷ bytes) else (t.Other 60, b ∷ c ∷ bytes)))

-- `=>` or `=`, behind the `=`
abbrev pub equal_at : List ℕ → Token × List ℕ
equal_at [] = (t.Equal, [])
equal_at (b ∷ bytes) = if b == 62 then (t.Implies, bytes) else (t.Equal, b ∷ bytes)

-- `!=` or `!`, behind the `!`
abbrev pub bang_at : List ℕ → Token × List ℕ
bang_at [] = (t.ForAll, [])
bang_at (b ∷ bytes) = if b == 61 then (t.Unequal, bytes) else (t.ForAll, b ∷ bytes)

-- `~|`, `~&` or `~`, behind the `~`
abbrev pub tilde_at : List ℕ → Token × List ℕ
tilde_at [] = (t.Not, [])
tilde_at (b ∷ bytes) = if b == 124 then (t.Nor, bytes) else (if b == 38 then (t.Nand, bytes) else (t.Not, b ∷ bytes))

-- a token that begins with a mark, or a byte of its own
abbrev pub mark_at : ℕ → List ℕ → Option (Token × List ℕ)
mark_at b bytes = if b == 60 then Some (less_at bytes) else (if b == 61 then Some (equal_at bytes) else (if b == 33 then Some (bang_at bytes) else (if b == 126 then Some (tilde_at bytes) else single_at b bytes)))

-- the token in front, and the bytes behind it
unfoldable pub token_at : List ℕ → Option (Token × List ℕ)
token_at [] = None
token_at (b ∷ bytes) = if is_lower b then Some (t.Lower (before (b ∷ bytes) (after is_word bytes)), after is_word bytes) else (if is_upper b then Some (t.Upper (before (b ∷ bytes) (after is_word bytes)), after is_word bytes) else (if is_digit b || is_sign b then Some (number_or b bytes (after_number (b ∷ bytes))) else (if b == 39 then Some (quoted_or bytes (quoted_at 39 false bytes)) else (if b == 34 then Some (distinct_or bytes (quoted_at 34 false bytes)) else (if b == 36 then Some (dollar_or bytes (after_dollar bytes)) else mark_at b bytes)))))

-- what code hands out, without where it lies
abbrev pub seen : {A B : Type 0} → (A → B) → Option A → Option B
seen f None = None
seen f (Some x) = Some (f x)
