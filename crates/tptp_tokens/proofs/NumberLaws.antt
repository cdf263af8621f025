-- Words and numbers, read in front of bytes: what is read is one, and where one stands in front no less is read.
use Rattle.std.proofs.Common.{◌≡◌, ℕ, ◌-◌, ◌≤◌, Bool, true, false, cond, ◌||◌, eqb, leb, List, [], ◌∷◌, ◌++◌, length, take_at, Option, Some, None, inl, inr, refl, sym, ap, subst, ◌∙◌, append_assoc, append-nil, arith, length-append}
use Rattle.std.specs.Prelude.{option_map}
use Rattle.std.proofs.lemmas.Bool.{cond_both, eqb-true, leb-true, lt-leb, and_parts, or_cases, cases_Bool, and_left}
use Rattle.tptp_tokens.specs.Bytes.{is_lower, is_upper, is_digit, is_word, is_sign, is_exponent_mark, EachByte, IsWord, IsDigits}
use Rattle.tptp_tokens.specs.Numbers.{IsSign, IsExponent, NoExponent, Exponent, IsNumberTail, Denominator, Fraction, Whole, IsNumber, Digits}
use Rattle.tptp_tokens.specs.Spelling.{IsDollar, OneSign, TwoSigns}
use Rattle.tptp_tokens.specs.Scan.{before, after, after_lower, after_dollar, after_digits, after_sign, or_all, after_exponent, after_fraction, after_tail, after_number}

-- ---- parts of bytes

-- the bytes are something of the kind, and the rest
abbrev pub Split : (List ℕ → Type 0) → List ℕ → List ℕ → Type 0
Split Is bytes rest = (w : List ℕ) × Is w × (bytes ≡ w ++ rest)

abbrev pub SplitWhere : (List ℕ → Type 0) → List ℕ → Option (List ℕ) → Type 0
SplitWhere Is bytes None = Unit {0}
SplitWhere Is bytes (Some rest) = Split Is bytes rest

pub before_is : (w rest : List ℕ) → before (w ++ rest) rest ≡ w
before_is w rest = take_at w rest (length (w ++ rest) - length rest) (omega (arith, length-append w rest))

pub before_fine : (Is : List ℕ → Type 0) (bytes rest : List ℕ) → Split Is bytes rest → Is (before bytes rest) × (bytes ≡ before bytes rest ++ rest)
before_fine Is bytes rest s =
    let e : before bytes rest ≡ s.0 = ap (λ (x : List ℕ). before x rest) s.2 ∙ before_is s.0 rest in
    subst (λ (x : List ℕ). Is x × (bytes ≡ x ++ rest)) (sym e) (s.1, s.2)

pub before_all : (w : List ℕ) → before w [] ≡ w
before_all w = ap (λ (x : List ℕ). before x []) (sym (append-nil w)) ∙ before_is w []

pub split_shorter : (Is : List ℕ → Type 0) (bytes rest : List ℕ) → Split Is bytes rest → length rest ≤ length bytes
split_shorter Is bytes rest s = let whole = ap length s.2 in omega (arith, length-append s.0 rest)

joined : (bytes a mid b rest : List ℕ) → bytes ≡ a ++ mid → mid ≡ b ++ rest → bytes ≡ (a ++ b) ++ rest
joined bytes a mid b rest e f = e ∙ ap (λ (x : List ℕ). a ++ x) f ∙ sym (append_assoc a b rest)

-- ---- bytes

digit_range : (b : ℕ) → is_digit b ≡ true → (48 ≤ b) × (b ≤ 57)
digit_range b h = let p = and_parts (leb 48 b) (leb b 57) h in (leb-true 48 b p.0, leb-true b 57 p.1)

ne_number : (b n : ℕ) → (b ≡ n → ⊥) → eqb b n ≡ false
ne_number b n differs = elim (cases_Bool (eqb b n)) [ inl e ↦ absurd (differs (eqb-true b n e)) | inr e ↦ e ]

digit_no_sign : (b : ℕ) → is_digit b ≡ true → is_sign b ≡ false
digit_no_sign b h = let r = digit_range b h in rw (ne_number b 43 (λ e. omega arith), ne_number b 45 (λ e. omega arith)) refl

pub digit_no_lower : (b : ℕ) → is_digit b ≡ true → is_lower b ≡ false
digit_no_lower b h = let r = digit_range b h in and_left (leb 97 b) (leb b 122) (lt-leb 97 b (omega arith))

pub digit_no_upper : (b : ℕ) → is_digit b ≡ true → is_upper b ≡ false
digit_no_upper b h = let r = digit_range b h in and_left (leb 65 b) (leb b 90) (lt-leb 65 b (omega arith))

lower_no_dollar : (b : ℕ) → is_lower b ≡ true → eqb b 36 ≡ false
lower_no_dollar b h = let p = and_parts (leb 97 b) (leb b 122) h in let low = leb-true 97 b p.0 in ne_number b 36 (λ e. omega arith)

-- a fact on both signs
pub on_signs : (P : ℕ → Type 0) → P 43 → P 45 → (b : ℕ) → is_sign b ≡ true → P b
on_signs P plus minus b h = elim (or_cases (eqb b 43) (eqb b 45) h) [ inl e ↦ subst P (sym (eqb-true b 43 e)) plus | inr e ↦ subst P (sym (eqb-true b 45 e)) minus ]

on_marks : (P : ℕ → Type 0) → P 101 → P 69 → (b : ℕ) → is_exponent_mark b ≡ true → P b
on_marks P small great b h = elim (or_cases (eqb b 101) (eqb b 69) h) [ inl e ↦ subst P (sym (eqb-true b 101 e)) small | inr e ↦ subst P (sym (eqb-true b 69 e)) great ]

-- ---- what was read stands there

pub run_fine : (p : ℕ → Bool) (bytes : List ℕ) → Split (EachByte p) bytes (after p bytes)
run_fine p [] = ([], tt, refl)
run_fine p (b ∷ bytes) = elim (cases_Bool (p b)) [
  | inl h ↦ let more = run_fine p bytes in rw h (b ∷ more.0, (h, more.1), ap (λ (x : List ℕ). b ∷ x) more.2)
  | inr h ↦ rw h ([], tt, refl)
]

pub word_fine : (p : ℕ → Bool) (b : ℕ) (bytes : List ℕ) → p b ≡ true → Split (IsWord p) (b ∷ bytes) (after is_word bytes)
word_fine p b bytes h = let s = run_fine is_word bytes in (b ∷ s.0, (h, s.1), ap (λ (x : List ℕ). b ∷ x) s.2)

lower_fine : (bytes : List ℕ) → SplitWhere (IsWord is_lower) bytes (after_lower bytes)
lower_fine [] = tt
lower_fine (b ∷ bytes) = cond_both (is_lower b) (Some (after is_word bytes)) None (SplitWhere (IsWord is_lower) (b ∷ bytes)) (λ h. word_fine is_lower b bytes h) (λ n. tt)

one_sign : (bytes : List ℕ) (o : Option (List ℕ)) → SplitWhere (IsWord is_lower) bytes o → SplitWhere IsDollar (36 ∷ bytes) o
one_sign bytes None s = tt
one_sign bytes (Some rest) s = (36 ∷ s.0, OneSign s.0 s.1, ap (λ (x : List ℕ). 36 ∷ x) s.2)

two_signs : (b : ℕ) (bytes : List ℕ) (o : Option (List ℕ)) → b ≡ 36 → SplitWhere (IsWord is_lower) bytes o → SplitWhere IsDollar (36 ∷ b ∷ bytes) o
two_signs b bytes None e s = tt
two_signs b bytes (Some rest) e s = (36 ∷ 36 ∷ s.0, TwoSigns s.0 s.1, rw e (ap (λ (x : List ℕ). 36 ∷ 36 ∷ x) s.2))

pub dollar_fine : (bytes : List ℕ) → SplitWhere IsDollar (36 ∷ bytes) (after_dollar bytes)
dollar_fine [] = tt
dollar_fine (b ∷ bytes) = cond_both (eqb b 36) (after_lower bytes) (after_lower (b ∷ bytes)) (SplitWhere IsDollar (36 ∷ b ∷ bytes))
    (λ e. two_signs b bytes (after_lower bytes) (eqb-true b 36 e) (lower_fine bytes))
    (λ e. one_sign (b ∷ bytes) (after_lower (b ∷ bytes)) (lower_fine (b ∷ bytes)))

digits_fine : (bytes : List ℕ) → SplitWhere IsDigits bytes (after_digits bytes)
digits_fine [] = tt
digits_fine (b ∷ bytes) = cond_both (is_digit b) (Some (after is_digit bytes)) None (SplitWhere IsDigits (b ∷ bytes))
    (λ h. let s = run_fine is_digit bytes in (b ∷ s.0, (h, s.1), ap (λ (x : List ℕ). b ∷ x) s.2)) (λ n. tt)

sign_fine : (bytes : List ℕ) → Split IsSign bytes (after_sign bytes)
sign_fine [] = ([], tt, refl)
sign_fine (b ∷ bytes) = cond_both (is_sign b) bytes (b ∷ bytes) (Split IsSign (b ∷ bytes)) (λ h. (b ∷ [], h, refl)) (λ n. ([], tt, refl))

marked_fine : (b : ℕ) (bytes : List ℕ) (o : Option (List ℕ)) → is_exponent_mark b ≡ true → Split IsSign bytes (after_sign bytes) → SplitWhere IsDigits (after_sign bytes) o → Split IsExponent (b ∷ bytes) (or_all (b ∷ bytes) o)
marked_fine b bytes None h s d = ([], NoExponent, refl)
marked_fine b bytes (Some rest) h s d = (b ∷ (s.0 ++ d.0), Exponent b s.0 d.0 h s.1 d.1, ap (λ (x : List ℕ). b ∷ x) (joined bytes s.0 (after_sign bytes) d.0 rest s.2 d.2))

exponent_fine : (bytes : List ℕ) → Split IsExponent bytes (after_exponent bytes)
exponent_fine [] = ([], NoExponent, refl)
exponent_fine (b ∷ bytes) = cond_both (is_exponent_mark b) (or_all (b ∷ bytes) (after_digits (after_sign bytes))) (b ∷ bytes) (Split IsExponent (b ∷ bytes))
    (λ h. marked_fine b bytes (after_digits (after_sign bytes)) h (sign_fine bytes) (digits_fine (after_sign bytes))) (λ n. ([], NoExponent, refl))

denominator_fine : (b : ℕ) (bytes : List ℕ) (o : Option (List ℕ)) → b ≡ 47 → SplitWhere IsDigits bytes o → Split IsNumberTail (b ∷ bytes) (or_all (b ∷ bytes) o)
denominator_fine b bytes None e d = ([], Whole [] NoExponent, refl)
denominator_fine b bytes (Some rest) e d = (47 ∷ d.0, Denominator d.0 d.1, rw e (ap (λ (x : List ℕ). 47 ∷ x) d.2))

fraction_fine : (b : ℕ) (bytes : List ℕ) (o : Option (List ℕ)) → b ≡ 46 → SplitWhere IsDigits bytes o → Split IsNumberTail (b ∷ bytes) (after_fraction (b ∷ bytes) o)
fraction_fine b bytes None e d = ([], Whole [] NoExponent, refl)
fraction_fine b bytes (Some rest) e d = let x = exponent_fine rest in
    (46 ∷ (d.0 ++ x.0), Fraction d.0 x.0 d.1 x.1, rw e (ap (λ (y : List ℕ). 46 ∷ y) (joined bytes d.0 rest x.0 (after_exponent rest) d.2 x.2)))

tail_fine : (bytes : List ℕ) → Split IsNumberTail bytes (after_tail bytes)
tail_fine [] = ([], Whole [] NoExponent, refl)
tail_fine (b ∷ bytes) = cond_both (eqb b 47) (or_all (b ∷ bytes) (after_digits bytes)) (cond (eqb b 46) (after_fraction (b ∷ bytes) (after_digits bytes)) (after_exponent (b ∷ bytes))) (Split IsNumberTail (b ∷ bytes))
    (λ e. denominator_fine b bytes (after_digits bytes) (eqb-true b 47 e) (digits_fine bytes))
    (λ n. cond_both (eqb b 46) (after_fraction (b ∷ bytes) (after_digits bytes)) (after_exponent (b ∷ bytes)) (Split IsNumberTail (b ∷ bytes))
    (λ e. fraction_fine b bytes (after_digits bytes) (eqb-true b 46 e) (digits_fine bytes))
    (λ m. let x = exponent_fine (b ∷ bytes) in (x.0, Whole x.0 x.1, x.2)))

numbered : (bytes : List ℕ) (o : Option (List ℕ)) → Split IsSign bytes (after_sign bytes) → SplitWhere IsDigits (after_sign bytes) o → SplitWhere IsNumber bytes (option_map after_tail o)
numbered bytes None s d = tt
numbered bytes (Some rest) s d = let x = tail_fine rest in
    (s.0 ++ (d.0 ++ x.0), Digits s.0 d.0 x.0 s.1 d.1 x.1, joined bytes s.0 (after_sign bytes) (d.0 ++ x.0) (after_tail rest) s.2 (joined (after_sign bytes) d.0 rest x.0 (after_tail rest) d.2 x.2))

pub number_fine : (bytes : List ℕ) → SplitWhere IsNumber bytes (after_number bytes)
number_fine bytes = numbered bytes (after_digits (after_sign bytes)) (sign_fine bytes) (digits_fine (after_sign bytes))

-- ---- what stands there is read

pub run_all : (p : ℕ → Bool) (w others : List ℕ) → EachByte p w → after p (w ++ others) ≡ after p others
run_all p [] others h = refl
run_all p (b ∷ w) others h = rw h.0 (run_all p w others h.1)

pub run_shorter : (p : ℕ → Bool) (bytes : List ℕ) → length (after p bytes) ≤ length bytes
run_shorter p bytes = split_shorter (EachByte p) bytes (after p bytes) (run_fine p bytes)

-- something that is left, and no more than the others
abbrev pub Leaves : Option (List ℕ) → List ℕ → Type 0
Leaves o others = (rest : List ℕ) × (o ≡ Some rest) × (length rest ≤ length others)

lower_leaves : (w others : List ℕ) → IsWord is_lower w → Leaves (after_lower (w ++ others)) others
lower_leaves [] others h = absurd h
lower_leaves (b ∷ w) others h = (after is_word others, rw (h.0, run_all is_word w others h.1) refl, run_shorter is_word others)

pub one_leaves : (w others : List ℕ) → IsWord is_lower w → Leaves (after_dollar (w ++ others)) others
one_leaves [] others h = absurd h
one_leaves (b ∷ w) others h = let more = lower_leaves (b ∷ w) others h in (more.0, rw (lower_no_dollar b h.0) more.1, more.2)

pub two_leaves : (w others : List ℕ) → IsWord is_lower w → Leaves (after_dollar (36 ∷ (w ++ others))) others
two_leaves w others h = lower_leaves w others h

digits_read : (ds others : List ℕ) → IsDigits ds → after_digits (ds ++ others) ≡ Some (after is_digit others)
digits_read [] others h = absurd h
digits_read (b ∷ ds) others h = rw (h.0, run_all is_digit ds others h.1) refl

-- a sign or none before digits
sign_read : (sign ds others : List ℕ) → IsSign sign → IsDigits ds → after_sign (sign ++ (ds ++ others)) ≡ ds ++ others
sign_read sign [] others s d = absurd d
sign_read [] (b ∷ ds) others s d = rw (digit_no_sign b d.0) refl
sign_read (c ∷ []) (b ∷ ds) others s d = rw s refl
sign_read (c ∷ e ∷ sign) (b ∷ ds) others s d = absurd s

exponent_shorter : (bytes : List ℕ) → length (after_exponent bytes) ≤ length bytes
exponent_shorter bytes = split_shorter IsExponent bytes (after_exponent bytes) (exponent_fine bytes)

tail_shorter : (bytes : List ℕ) → length (after_tail bytes) ≤ length bytes
tail_shorter bytes = split_shorter IsNumberTail bytes (after_tail bytes) (tail_fine bytes)

exponent_read : (x others : List ℕ) → IsExponent x → length (after_exponent (x ++ others)) ≤ length others
exponent_read _ others NoExponent = exponent_shorter others
exponent_read _ others (Exponent mark sign ds m s d) =
    rw (m, append_assoc sign ds others, sign_read sign ds others s d, digits_read ds others d) (run_shorter is_digit others)

mark_no_digit : (b : ℕ) → is_exponent_mark b ≡ true → is_digit b ≡ false
mark_no_digit = on_marks (λ (b : ℕ). is_digit b ≡ false) refl refl

mark_no_tail : (b : ℕ) → is_exponent_mark b ≡ true → (eqb b 47 ≡ false) × (eqb b 46 ≡ false)
mark_no_tail = on_marks (λ (b : ℕ). (eqb b 47 ≡ false) × (eqb b 46 ≡ false)) (refl, refl) (refl, refl)

exponent_behind : (x others : List ℕ) → IsExponent x → length (after_exponent (after is_digit (x ++ others))) ≤ length others
exponent_behind _ others NoExponent = let a = exponent_shorter (after is_digit others) in let b = run_shorter is_digit others in omega arith
exponent_behind _ others (Exponent mark sign ds m s d) = rw (mark_no_digit mark m) (exponent_read (mark ∷ (sign ++ ds)) others (Exponent mark sign ds m s d))

tail_read : (x others : List ℕ) → IsNumberTail x → length (after_tail (x ++ others)) ≤ length others
tail_read _ others (Denominator ds d) = rw (digits_read ds others d) (run_shorter is_digit others)
tail_read _ others (Fraction ds x d e) = rw (append_assoc ds x others, digits_read ds (x ++ others) d) (exponent_behind x others e)
tail_read _ others (Whole _ NoExponent) = tail_shorter others
tail_read _ others (Whole _ (Exponent mark sign ds m s d)) = let n = mark_no_tail mark m in rw (n.0, n.1) (exponent_read (mark ∷ (sign ++ ds)) others (Exponent mark sign ds m s d))

tail_behind : (x others : List ℕ) → IsNumberTail x → length (after_tail (after is_digit (x ++ others))) ≤ length others
tail_behind _ others (Denominator ds d) = tail_read (47 ∷ ds) others (Denominator ds d)
tail_behind _ others (Fraction ds x d e) = tail_read (46 ∷ (ds ++ x)) others (Fraction ds x d e)
tail_behind _ others (Whole _ NoExponent) = let a = tail_shorter (after is_digit others) in let b = run_shorter is_digit others in omega arith
tail_behind _ others (Whole _ (Exponent mark sign ds m s d)) = rw (mark_no_digit mark m) (tail_read (mark ∷ (sign ++ ds)) others (Whole (mark ∷ (sign ++ ds)) (Exponent mark sign ds m s d)))

pub number_leaves : (w others : List ℕ) → IsNumber w → Leaves (after_number (w ++ others)) others
number_leaves _ others (Digits sign ds x s d t) = (
  after_tail (after is_digit (x ++ others)),
  rw (append_assoc sign (ds ++ x) others, append_assoc ds x others, sign_read sign ds (x ++ others) s d, digits_read ds (x ++ others) d) refl,
  tail_behind x others t,
)

-- how a number begins
abbrev pub IsNumberByte : ℕ → Type 0
IsNumberByte b = (is_lower b ≡ false) × (is_upper b ≡ false) × ((is_digit b || is_sign b) ≡ true)

or_true : (b : Bool) → (b || true) ≡ true
or_true true = refl
or_true false = refl

first_of_number : (sign ds x : List ℕ) → IsSign sign → IsDigits ds → (b : ℕ) × (v : List ℕ) × (sign ++ (ds ++ x) ≡ b ∷ v) × IsNumberByte b
first_of_number sign [] x s d = absurd d
first_of_number [] (b ∷ ds) x s d = (b, ds ++ x, refl, (digit_no_lower b d.0, digit_no_upper b d.0, rw d.0 refl))
first_of_number (b ∷ []) (c ∷ ds) x s d = (b, c ∷ (ds ++ x), refl, on_signs IsNumberByte (refl, refl, refl) (refl, refl, refl) b s)
first_of_number (b ∷ e ∷ sign) (c ∷ ds) x s d = absurd s

pub number_first : (w : List ℕ) → IsNumber w → (b : ℕ) × (v : List ℕ) × (w ≡ b ∷ v) × IsNumberByte b
number_first _ (Digits sign ds x s d t) = first_of_number sign ds x s d

-- a byte that may begin a number and begins none is a sign
pub lone_sign : (P : ℕ → Type 0) → P 43 → P 45 → (b : ℕ) (bytes : List ℕ) → (is_digit b || is_sign b) ≡ true → after_number (b ∷ bytes) ≡ None → P b
lone_sign P plus minus b bytes h e = elim (or_cases (is_digit b) (is_sign b) h) [
  | inl d ↦ let read : after_number (b ∷ bytes) ≡ Some (after_tail (after is_digit bytes)) = rw (digit_no_sign b d, d) refl in absurd (let c = sym read ∙ e in cc)
  | inr s ↦ on_signs P plus minus b s
]
