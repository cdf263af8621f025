-- Reading gives the longest token, and nothing else.
use Rattle.std.proofs.Common.{◌≡◌, ℕ, ◌≤◌, ◌<◌, Bool, true, false, cond, ◌&&◌, ◌||◌, eqb, leb, List, [], ◌∷◌, ◌++◌, length, take, drop, ◌≢◌, ap₂, take_at, drop_at, Option, Some, None, MatchOption, Result, Ok, Err, IfOk, inl, inr, refl, sym, ap, subst, ◌∙◌, append-nil, arith, length-append}
use Rattle.std.proofs.lemmas.List.{nil_from_length}
use Rattle.std.proofs.lemmas.Bool.{cond_both, eqb-true, eq-eqb, leb-true, lt-leb, and_parts, or_parts, or_cases, cases_Bool, and_left}
use Rattle.tptp_tokens.specs.Bytes.{is_lower, is_upper, is_digit, is_word, is_sign, is_printable, is_visible, is_escaped, EachByte, IsWord}
use Rattle.tptp_tokens.specs.Numbers.{IsNumber}
use Rattle.tptp_tokens.specs.Spelling.{quoted_text, spelling, mark_of, IsDollar, OneSign, TwoSigns, IsOther, IsToken, Longest, IsTokenless}
use Rattle.tptp_tokens.specs.Scan.{before, after, after_dollar, after_number, with_byte, quoted_at, quoted_or, distinct_or, dollar_or, number_or, single_or, less_at, equal_at, bang_at, tilde_at, mark_at, token_at, seen}
use Rattle.tptp_tokens.specs.declared.token.Token.{Token}
use Rattle.tptp_tokens.specs.declared.token.Token.TheVariants as t
use Rattle.tptp_tokens.specs.Skipping.{IsTail}
use Rattle.tptp_tokens.proofs.Places.{tail_behind}
use Rattle.tptp_tokens.proofs.NumberLaws.{SplitWhere, before_is, before_fine, before_all, word_fine, dollar_fine, number_fine, run_all, run_shorter, Leaves, one_leaves, two_leaves, number_leaves, IsNumberByte, number_first, lone_sign, on_signs}

-- ---- what was read stands there

-- what was read between quotes
abbrev QuotedFine : ℕ → Bool → List ℕ → Option (List ℕ × List ℕ) → Type 0
QuotedFine q escaped bytes None = Unit {0}
QuotedFine q true bytes (Some x) = (92 ∷ bytes ≡ quoted_text q x.0 ++ x.1) × EachByte is_printable x.0
QuotedFine q false bytes (Some x) = (bytes ≡ quoted_text q x.0 ++ x.1) × EachByte is_printable x.0

escaped_printable : (q b : ℕ) → is_printable q ≡ true → is_escaped q b ≡ true → is_printable b ≡ true
escaped_printable q b p e = elim (or_cases (eqb b q) (eqb b 92) e) [
  | inl h ↦ rw (eqb-true b q h) p
  | inr h ↦ rw (eqb-true b 92 h) refl
]

after_escape : (q b : ℕ) (bytes : List ℕ) (o : Option (List ℕ × List ℕ)) → is_printable q ≡ true → is_escaped q b ≡ true → QuotedFine q false bytes o → QuotedFine q true (b ∷ bytes) (with_byte b o)
after_escape q b bytes None p e h = tt
after_escape q b bytes (Some x) p e h = (rw e (ap (λ (y : List ℕ). 92 ∷ b ∷ y) h.0), (escaped_printable q b p e, h.1))

plain_byte : (q b : ℕ) (bytes : List ℕ) (o : Option (List ℕ × List ℕ)) → is_escaped q b ≡ false → is_printable b ≡ true → QuotedFine q false bytes o → QuotedFine q false (b ∷ bytes) (with_byte b o)
plain_byte q b bytes None e f h = tt
plain_byte q b bytes (Some x) e f h = (rw e (ap (λ (y : List ℕ). b ∷ y) h.0), (f, h.1))

backslash : (q b : ℕ) (bytes : List ℕ) (o : Option (List ℕ × List ℕ)) → b ≡ 92 → QuotedFine q true bytes o → QuotedFine q false (b ∷ bytes) o
backslash q b bytes None e h = tt
backslash q b bytes (Some x) e h = (rw e h.0, h.1)

quoted_fine : (q : ℕ) (escaped : Bool) (bytes : List ℕ) → is_printable q ≡ true → QuotedFine q escaped bytes (quoted_at q escaped bytes)
quoted_fine q true [] p = tt
quoted_fine q false [] p = tt
quoted_fine q true (b ∷ bytes) p = cond_both (is_escaped q b) (with_byte b (quoted_at q false bytes)) None (QuotedFine q true (b ∷ bytes))
    (λ e. after_escape q b bytes (quoted_at q false bytes) p e (quoted_fine q false bytes p)) (λ e. tt)
quoted_fine q false (b ∷ bytes) p = cond_both (eqb b q) (Some ([], bytes)) (cond (eqb b 92) (quoted_at q true bytes) (cond (is_printable b) (with_byte b (quoted_at q false bytes)) None)) (QuotedFine q false (b ∷ bytes))
    (λ e. (ap (λ (x : ℕ). x ∷ bytes) (eqb-true b q e), tt))
    (λ no_quote. cond_both (eqb b 92) (quoted_at q true bytes) (cond (is_printable b) (with_byte b (quoted_at q false bytes)) None) (QuotedFine q false (b ∷ bytes))
    (λ e. backslash q b bytes (quoted_at q true bytes) (eqb-true b 92 e) (quoted_fine q true bytes p))
    (λ no_slash. cond_both (is_printable b) (with_byte b (quoted_at q false bytes)) None (QuotedFine q false (b ∷ bytes))
    (λ e. plain_byte q b bytes (quoted_at q false bytes) (rw (no_quote, no_slash) refl) e (quoted_fine q false bytes p))
    (λ e. tt)))

-- what was read in front
abbrev pub Fine : List ℕ → Option (Token × List ℕ) → Type 0
Fine bytes None = Unit {0}
Fine bytes (Some x) = IsToken x.0 × (bytes ≡ spelling x.0 ++ x.1)

abbrev FineMark : ℕ → Option Token → Type 0
FineMark b None = Unit {0}
FineMark b (Some t) = IsToken t × (spelling t ≡ b ∷ [])

one_mark : (b n : ℕ) (t : Token) (others : Option Token) → IsToken t → spelling t ≡ n ∷ [] → FineMark b others → FineMark b (cond (eqb b n) (Some t) others)
one_mark b n t others is spelled fine = cond_both (eqb b n) (Some t) others (FineMark b) (λ e. (is, spelled ∙ ap (λ (x : ℕ). x ∷ []) (sym (eqb-true b n e)))) (λ e. fine)

mark_fine : (b : ℕ) → FineMark b (mark_of b)
mark_fine b = one_mark b 40 t.OpenRound _ tt refl (one_mark b 41 t.CloseRound _ tt refl (one_mark b 91 t.OpenSquare _ tt refl (one_mark b 93 t.CloseSquare _ tt refl (one_mark b 44 t.Comma _ tt refl (one_mark b 46 t.Dot _ tt refl (one_mark b 58 t.Colon _ tt refl (one_mark b 126 t.Not _ tt refl (one_mark b 38 t.And _ tt refl (one_mark b 124 t.Or _ tt refl (one_mark b 33 t.ForAll _ tt refl (one_mark b 63 t.Exists _ tt refl (one_mark b 61 t.Equal _ tt refl tt))))))))))))

less_fine : (bytes : List ℕ) → Fine (60 ∷ bytes) (Some (less_at bytes))
less_fine [] = ((refl, refl, refl, refl, refl), refl)
less_fine (b ∷ []) = cond_both (eqb b 61) (t.ImpliedBy, []) (t.Other 60, b ∷ []) (λ x. Fine (60 ∷ b ∷ []) (Some x))
    (λ e. (tt, rw (eqb-true b 61 e) refl)) (λ e. ((refl, refl, refl, refl, refl), refl))
less_fine (b ∷ c ∷ bytes) = cond_both (eqb b 61 && eqb c 62) (t.Iff, bytes) (cond (eqb b 126 && eqb c 62) (t.Differs, bytes) (cond (eqb b 61) (t.ImpliedBy, c ∷ bytes) (t.Other 60, b ∷ c ∷ bytes))) (λ x. Fine (60 ∷ b ∷ c ∷ bytes) (Some x))
    (λ e. let h = and_parts (eqb b 61) (eqb c 62) e in (tt, rw (eqb-true b 61 h.0, eqb-true c 62 h.1) refl))
    (λ n. cond_both (eqb b 126 && eqb c 62) (t.Differs, bytes) (cond (eqb b 61) (t.ImpliedBy, c ∷ bytes) (t.Other 60, b ∷ c ∷ bytes)) (λ x. Fine (60 ∷ b ∷ c ∷ bytes) (Some x))
    (λ e. let h = and_parts (eqb b 126) (eqb c 62) e in (tt, rw (eqb-true b 126 h.0, eqb-true c 62 h.1) refl))
    (λ m. cond_both (eqb b 61) (t.ImpliedBy, c ∷ bytes) (t.Other 60, b ∷ c ∷ bytes) (λ x. Fine (60 ∷ b ∷ c ∷ bytes) (Some x))
    (λ e. (tt, rw (eqb-true b 61 e) refl)) (λ e. ((refl, refl, refl, refl, refl), refl))))

equal_fine : (bytes : List ℕ) → Fine (61 ∷ bytes) (Some (equal_at bytes))
equal_fine [] = (tt, refl)
equal_fine (b ∷ bytes) = cond_both (eqb b 62) (t.Implies, bytes) (t.Equal, b ∷ bytes) (λ x. Fine (61 ∷ b ∷ bytes) (Some x)) (λ e. (tt, rw (eqb-true b 62 e) refl)) (λ e. (tt, refl))

bang_fine : (bytes : List ℕ) → Fine (33 ∷ bytes) (Some (bang_at bytes))
bang_fine [] = (tt, refl)
bang_fine (b ∷ bytes) = cond_both (eqb b 61) (t.Unequal, bytes) (t.ForAll, b ∷ bytes) (λ x. Fine (33 ∷ b ∷ bytes) (Some x)) (λ e. (tt, rw (eqb-true b 61 e) refl)) (λ e. (tt, refl))

tilde_fine : (bytes : List ℕ) → Fine (126 ∷ bytes) (Some (tilde_at bytes))
tilde_fine [] = (tt, refl)
tilde_fine (b ∷ bytes) = cond_both (eqb b 124) (t.Nor, bytes) (cond (eqb b 38) (t.Nand, bytes) (t.Not, b ∷ bytes)) (λ x. Fine (126 ∷ b ∷ bytes) (Some x)) (λ e. (tt, rw (eqb-true b 124 e) refl))
    (λ n. cond_both (eqb b 38) (t.Nand, bytes) (t.Not, b ∷ bytes) (λ x. Fine (126 ∷ b ∷ bytes) (Some x)) (λ e. (tt, rw (eqb-true b 38 e) refl)) (λ e. (tt, refl)))

name_fine : (bytes : List ℕ) (o : Option (List ℕ × List ℕ)) → QuotedFine 39 false bytes o → Fine (39 ∷ bytes) (Some (quoted_or bytes o))
name_fine bytes None h = ((refl, refl, refl, refl, refl), refl)
name_fine bytes (Some ([], rest)) h = ((refl, refl, refl, refl, refl), refl)
name_fine bytes (Some (b ∷ name, rest)) h = (h.1, ap (λ (x : List ℕ). 39 ∷ x) h.0)

distinct_fine : (bytes : List ℕ) (o : Option (List ℕ × List ℕ)) → QuotedFine 34 false bytes o → Fine (34 ∷ bytes) (Some (distinct_or bytes o))
distinct_fine bytes None h = ((refl, refl, refl, refl, refl), refl)
distinct_fine bytes (Some x) h = (h.1, ap (λ (y : List ℕ). 34 ∷ y) h.0)

dollar_or_fine : (bytes : List ℕ) (o : Option (List ℕ)) → SplitWhere IsDollar (36 ∷ bytes) o → Fine (36 ∷ bytes) (Some (dollar_or bytes o))
dollar_or_fine bytes None s = ((refl, refl, refl, refl, refl), refl)
dollar_or_fine bytes (Some rest) s = before_fine IsDollar (36 ∷ bytes) rest s

number_or_fine : (b : ℕ) (bytes : List ℕ) (o : Option (List ℕ)) → (is_digit b || is_sign b) ≡ true → after_number (b ∷ bytes) ≡ o → SplitWhere IsNumber (b ∷ bytes) o → Fine (b ∷ bytes) (Some (number_or b bytes o))
number_or_fine b bytes None h e s = lone_sign (λ (x : ℕ). Fine (x ∷ bytes) (Some (t.Other x, bytes))) ((refl, refl, refl, refl, refl), refl) ((refl, refl, refl, refl, refl), refl) b bytes h e
number_or_fine b bytes (Some rest) h e s = before_fine IsNumber (b ∷ bytes) rest s

single_fine : (b : ℕ) (bytes : List ℕ) (o : Option Token) → mark_of b ≡ o → FineMark b o → is_lower b ≡ false → is_upper b ≡ false → is_digit b ≡ false → Fine (b ∷ bytes) (single_or o b bytes)
single_fine b bytes (Some t) e h l u d = (h.0, ap (λ (x : List ℕ). x ++ bytes) (sym h.1))
single_fine b bytes None e h l u d = cond_both (is_visible b) (Some (t.Other b, bytes)) None (Fine (b ∷ bytes)) (λ v. ((v, l, u, d, e), refl)) (λ v. tt)

mark_at_fine : (b : ℕ) (bytes : List ℕ) → is_lower b ≡ false → is_upper b ≡ false → is_digit b ≡ false → Fine (b ∷ bytes) (mark_at b bytes)
mark_at_fine b bytes l u d =
    cond_both (eqb b 60) _ _ (Fine (b ∷ bytes)) (λ e. subst (λ (x : ℕ). Fine (x ∷ bytes) (Some (less_at bytes))) (sym (eqb-true b 60 e)) (less_fine bytes)) (λ no_less.
    cond_both (eqb b 61) _ _ (Fine (b ∷ bytes)) (λ e. subst (λ (x : ℕ). Fine (x ∷ bytes) (Some (equal_at bytes))) (sym (eqb-true b 61 e)) (equal_fine bytes)) (λ no_equal.
    cond_both (eqb b 33) _ _ (Fine (b ∷ bytes)) (λ e. subst (λ (x : ℕ). Fine (x ∷ bytes) (Some (bang_at bytes))) (sym (eqb-true b 33 e)) (bang_fine bytes)) (λ no_bang.
    cond_both (eqb b 126) _ _ (Fine (b ∷ bytes)) (λ e. subst (λ (x : ℕ). Fine (x ∷ bytes) (Some (tilde_at bytes))) (sym (eqb-true b 126 e)) (tilde_fine bytes)) (λ no_tilde.
    single_fine b bytes (mark_of b) refl (mark_fine b) l u d))))

pub token_fine : (bytes : List ℕ) → Fine bytes (token_at bytes)
unfolding token_at
token_fine [] = tt
token_fine (b ∷ bytes) = cond_both (is_lower b) _ _ (Fine (b ∷ bytes)) (λ e. before_fine (IsWord is_lower) (b ∷ bytes) (after is_word bytes) (word_fine is_lower b bytes e)) (λ no_lower.
    cond_both (is_upper b) _ _ (Fine (b ∷ bytes)) (λ e. before_fine (IsWord is_upper) (b ∷ bytes) (after is_word bytes) (word_fine is_upper b bytes e)) (λ no_upper.
    cond_both (is_digit b || is_sign b) _ _ (Fine (b ∷ bytes)) (λ e. number_or_fine b bytes (after_number (b ∷ bytes)) e refl (number_fine (b ∷ bytes))) (λ no_number.
    cond_both (eqb b 39) _ _ (Fine (b ∷ bytes)) (λ e. subst (λ (x : ℕ). Fine (x ∷ bytes) (Some (quoted_or bytes (quoted_at 39 false bytes)))) (sym (eqb-true b 39 e)) (name_fine bytes (quoted_at 39 false bytes) (quoted_fine 39 false bytes refl))) (λ no_quote.
    cond_both (eqb b 34) _ _ (Fine (b ∷ bytes)) (λ e. subst (λ (x : ℕ). Fine (x ∷ bytes) (Some (distinct_or bytes (quoted_at 34 false bytes)))) (sym (eqb-true b 34 e)) (distinct_fine bytes (quoted_at 34 false bytes) (quoted_fine 34 false bytes refl))) (λ no_double.
    cond_both (eqb b 36) _ _ (Fine (b ∷ bytes)) (λ e. subst (λ (x : ℕ). Fine (x ∷ bytes) (Some (dollar_or bytes (after_dollar bytes)))) (sym (eqb-true b 36 e)) (dollar_or_fine bytes (after_dollar bytes) (dollar_fine bytes))) (λ no_dollar.
    mark_at_fine b bytes no_lower no_upper ((or_parts (is_digit b) (is_sign b) no_number).0)))))))

-- what is read leaves a tail
pub token_tail : (here : List ℕ) (token : Token) (rest : List ℕ) → token_at here ≡ Some (token, rest) → IsTail rest here
token_tail here token rest e =
    let f : Fine here (Some (token, rest)) = subst (Fine here) e (token_fine here) in
    subst (IsTail rest) (sym f.1) (tail_behind (spelling token) rest)

-- ---- what stands there is read

not_both : (q b : ℕ) → is_escaped q b ≡ false → (eqb b q ≡ false) × (eqb b 92 ≡ false)
not_both q b e = or_parts (eqb b q) (eqb b 92) e

eqb_self : (n : ℕ) → eqb n n ≡ true
eqb_self n = eq-eqb n n refl

quoted_again : (q : ℕ) (text others : List ℕ) → eqb 92 q ≡ false → EachByte is_printable text → quoted_at q false (quoted_text q text ++ others) ≡ Some (text, others)
quoted_again q [] others n h = rw (eqb_self q) refl
quoted_again q (b ∷ text) others n h = elim (cases_Bool (is_escaped q b)) [
  | inl e ↦ rw e (rw (n, e, quoted_again q text others n h.1) refl)
  | inr e ↦ rw e (let m = not_both q b e in rw (m.0, m.1, h.0, quoted_again q text others n h.1) refl)
]

upper_no_lower : (b : ℕ) → is_upper b ≡ true → is_lower b ≡ false
upper_no_lower b e =
    let h = and_parts (leb 65 b) (leb b 90) e in
    let above : b < 97 = omega (arith, leb-true b 90 h.1) in
    and_left (leb 97 b) (leb b 122) (lt-leb 97 b above)

-- a token in front is read again, or a longer one in its place
pub record Again (u : Token) (others : List ℕ) : Type 0 where
  pub token : Token
  pub rest : List ℕ
  pub is : token_at (spelling u ++ others) ≡ Some (token, rest)
  pub long : length (spelling u) ≤ length (spelling token)

-- what leaves no more than the others is as long
by_rest : (u : Token) (others : List ℕ) (token : Token) (rest : List ℕ) → token_at (spelling u ++ others) ≡ Some (token, rest) → length rest ≤ length others → Again u others
by_rest u others token rest e few =
    let f : Fine (spelling u ++ others) (Some (token, rest)) = subst (Fine (spelling u ++ others)) e (token_fine (spelling u ++ others)) in
    let whole = ap length f.1 in
    record { token = token; rest = rest; is = e; long = omega (arith, length-append (spelling u) others, length-append (spelling token) rest) }

number_some : (w : List ℕ) → IsNumber w → 1 ≤ length w
number_some w h = let f = number_first w h in let e = ap length f.2 in omega arith

-- each token has a byte
pub first_is_long : (u : Token) → IsToken u → 1 ≤ length (spelling u)
first_is_long (t.Lower []) h = absurd h
first_is_long (t.Lower (b ∷ w)) h = omega arith
first_is_long (t.Upper []) h = absurd h
first_is_long (t.Upper (b ∷ w)) h = omega arith
first_is_long (t.Dollar _) (OneSign w k) = omega arith
first_is_long (t.Dollar _) (TwoSigns w k) = omega arith
first_is_long (t.Number w) h = number_some w h
first_is_long _ h = omega arith

-- what is read has a byte or more
at_least_one : (u : Token) (others : List ℕ) (x : Token × List ℕ) → length (spelling u) ≡ 1 → token_at (spelling u ++ others) ≡ Some x → Again u others
at_least_one u others x one e =
    let f : Fine (spelling u ++ others) (Some x) = subst (Fine (spelling u ++ others)) e (token_fine (spelling u ++ others)) in
    record { token = x.0; rest = x.1; is = e; long = (let g = first_is_long x.0 f.0 in omega arith) }

-- a byte that is no mark isn't that one
no_mark : (n : ℕ) (mark : Token) → mark_of n ≡ Some mark → (b : ℕ) → mark_of b ≡ None → eqb b n ≡ false
no_mark n mark is b e = elim (cases_Bool (eqb b n)) [ inl same ↦ (let wrong : mark_of b ≡ Some mark = ap mark_of (eqb-true b n same) ∙ is in absurd (let c = sym wrong ∙ e in cc)) | inr differs ↦ differs ]

other_read : (b : ℕ) (bytes : List ℕ) → IsOther b → (x : Token × List ℕ) × (token_at (b ∷ bytes) ≡ Some x)
unfolding token_at
other_read b bytes h = elim (cases_Bool (is_sign b)) [
  | inl s ↦ (number_or b bytes (after_number (b ∷ bytes)), rw (h.1, h.2, h.3, s) refl)
  | inr s ↦ elim (cases_Bool (eqb b 39)) [
    | inl q ↦ (quoted_or bytes (quoted_at 39 false bytes), rw (h.1, h.2, h.3, s, q) refl)
    | inr q ↦ elim (cases_Bool (eqb b 34)) [
      | inl d ↦ (distinct_or bytes (quoted_at 34 false bytes), rw (h.1, h.2, h.3, s, q, d) refl)
      | inr d ↦ elim (cases_Bool (eqb b 36)) [
        | inl w ↦ (dollar_or bytes (after_dollar bytes), rw (h.1, h.2, h.3, s, q, d, w) refl)
        | inr w ↦ elim (cases_Bool (eqb b 60)) [
          | inl l ↦ (less_at bytes, rw (h.1, h.2, h.3, s, q, d, w, l) refl)
          | inr l ↦ ((t.Other b, bytes), rw (h.4, h.1, h.2, h.3, s, q, d, w, l, no_mark 61 t.Equal refl b h.4, no_mark 33 t.ForAll refl b h.4, no_mark 126 t.Not refl b h.4, h.0) refl)
        ]
      ]
    ]
  ]
]

-- what one byte leaves, where nothing longer begins with it
alone_other : (b : ℕ) → IsOther b → token_at (b ∷ []) ≡ Some (t.Other b, [])
unfolding token_at
alone_other b h = elim (cases_Bool (is_sign b)) [
  | inl s ↦ on_signs (λ (x : ℕ). token_at (x ∷ []) ≡ Some (t.Other x, [])) refl refl b s
  | inr s ↦ elim (cases_Bool (eqb b 39)) [
    | inl q ↦ rw (eqb-true b 39 q) refl
    | inr q ↦ elim (cases_Bool (eqb b 34)) [
      | inl d ↦ rw (eqb-true b 34 d) refl
      | inr d ↦ elim (cases_Bool (eqb b 36)) [
        | inl w ↦ rw (eqb-true b 36 w) refl
        | inr w ↦ elim (cases_Bool (eqb b 60)) [
          | inl l ↦ rw (eqb-true b 60 l) refl
          | inr l ↦ rw (h.4, h.1, h.2, h.3, s, q, d, w, l, no_mark 61 t.Equal refl b h.4, no_mark 33 t.ForAll refl b h.4, no_mark 126 t.Not refl b h.4, h.0) refl
        ]
      ]
    ]
  ]
]

-- a word or a number in front, with what it leaves
word_read : (w others : List ℕ) → IsWord is_lower w → (token_at (w ++ others) ≡ Some (t.Lower (before (w ++ others) (after is_word others)), after is_word others))
unfolding token_at
word_read [] others h = absurd h
word_read (b ∷ w) others h = rw (h.0, run_all is_word w others h.1) refl

upper_read : (w others : List ℕ) → IsWord is_upper w → (token_at (w ++ others) ≡ Some (t.Upper (before (w ++ others) (after is_word others)), after is_word others))
unfolding token_at
upper_read [] others h = absurd h
upper_read (b ∷ w) others h = rw (upper_no_lower b h.0, h.0, run_all is_word w others h.1) refl

number_here : (b : ℕ) (v others rest : List ℕ) → IsNumberByte b → after_number ((b ∷ v) ++ others) ≡ Some rest → token_at ((b ∷ v) ++ others) ≡ Some (t.Number (before ((b ∷ v) ++ others) rest), rest)
unfolding token_at
number_here b v others rest is e = rw (is.0, is.1, is.2, e) refl

number_read : (w others rest : List ℕ) → IsNumber w → after_number (w ++ others) ≡ Some rest → token_at (w ++ others) ≡ Some (t.Number (before (w ++ others) rest), rest)
number_read w others rest h =
    let f = number_first w h in
    subst (λ (x : List ℕ). after_number (x ++ others) ≡ Some rest → token_at (x ++ others) ≡ Some (t.Number (before (x ++ others) rest), rest)) (sym f.2) (number_here f.0 f.1 others rest f.3)

dollar_read : (bytes rest : List ℕ) → after_dollar bytes ≡ Some rest → token_at (36 ∷ bytes) ≡ Some (t.Dollar (before (36 ∷ bytes) rest), rest)
unfolding token_at
dollar_read bytes rest e = rw e refl

dollar_again : (w others : List ℕ) → IsDollar w → Again (t.Dollar w) others
dollar_again _ others (OneSign w h) = let k = one_leaves w others h in by_rest (t.Dollar (36 ∷ w)) others _ k.0 (dollar_read (w ++ others) k.0 k.1) k.2
dollar_again _ others (TwoSigns w h) = let k = two_leaves w others h in by_rest (t.Dollar (36 ∷ 36 ∷ w)) others _ k.0 (dollar_read (36 ∷ (w ++ others)) k.0 k.1) k.2

implied_again : (others : List ℕ) → Again t.ImpliedBy others
unfolding token_at
implied_again [] = by_rest t.ImpliedBy [] t.ImpliedBy [] refl (omega arith)
implied_again (c ∷ others) = elim (cases_Bool (eqb c 62)) [
  | inl e ↦ by_rest t.ImpliedBy (c ∷ others) t.Iff others (rw e refl) (omega arith)
  | inr e ↦ by_rest t.ImpliedBy (c ∷ others) t.ImpliedBy (c ∷ others) (rw e refl) (omega arith)
]

-- the mark stands there alone, since nothing longer begins with it
exact : (u : Token) (others : List ℕ) → token_at (spelling u ++ others) ≡ Some (u, others) → Again u others
exact u others e = by_rest u others u others e (omega arith)

pub again : (u : Token) (others : List ℕ) → IsToken u → Again u others
unfolding token_at
again (t.Lower w) others h = by_rest (t.Lower w) others _ (after is_word others) (word_read w others h) (run_shorter is_word others)
again (t.Upper w) others h = by_rest (t.Upper w) others _ (after is_word others) (upper_read w others h) (run_shorter is_word others)
again (t.Dollar w) others h = dollar_again w others h
again (t.Quoted []) others h = absurd h
again (t.Quoted (b ∷ name)) others h = exact (t.Quoted (b ∷ name)) others (rw (quoted_again 39 (b ∷ name) others refl h) refl)
again (t.Distinct name) others h = exact (t.Distinct name) others (rw (quoted_again 34 name others refl h) refl)
again (t.Number w) others h = let k = number_leaves w others h in by_rest (t.Number w) others _ k.0 (number_read w others k.0 h k.1) k.2
again t.OpenRound others h = exact t.OpenRound others refl
again t.CloseRound others h = exact t.CloseRound others refl
again t.OpenSquare others h = exact t.OpenSquare others refl
again t.CloseSquare others h = exact t.CloseSquare others refl
again t.Comma others h = exact t.Comma others refl
again t.Dot others h = exact t.Dot others refl
again t.Colon others h = exact t.Colon others refl
again t.Not others h = at_least_one t.Not others (tilde_at others) refl refl
again t.And others h = exact t.And others refl
again t.Or others h = exact t.Or others refl
again t.Implies others h = exact t.Implies others refl
again t.ImpliedBy others h = implied_again others
again t.Iff others h = exact t.Iff others refl
again t.Differs others h = exact t.Differs others refl
again t.Nor others h = exact t.Nor others refl
again t.Nand others h = exact t.Nand others refl
again t.ForAll others h = at_least_one t.ForAll others (bang_at others) refl refl
again t.Exists others h = exact t.Exists others refl
again t.Equal others h = at_least_one t.Equal others (equal_at others) refl refl
again t.Unequal others h = exact t.Unequal others refl
again (t.Other b) others h = let x = other_read b others h in at_least_one (t.Other b) others x.0 refl x.1

-- ---- a token by itself is read as itself

word_alone : (w : List ℕ) → IsWord is_lower w → token_at w ≡ Some (t.Lower w, [])
word_alone w h = ap token_at (sym (append-nil w)) ∙ word_read w [] h ∙ ap (λ (x : List ℕ). Some (t.Lower x, [])) (before_is w [])

upper_alone : (w : List ℕ) → IsWord is_upper w → token_at w ≡ Some (t.Upper w, [])
upper_alone w h = ap token_at (sym (append-nil w)) ∙ upper_read w [] h ∙ ap (λ (x : List ℕ). Some (t.Upper x, [])) (before_is w [])

none_left : (rest : List ℕ) → length rest ≤ length {A = ℕ} [] → rest ≡ []
none_left rest few = nil_from_length rest (omega arith)

number_alone : (w : List ℕ) → IsNumber w → token_at w ≡ Some (t.Number w, [])
number_alone w h =
    let k = number_leaves w [] h in
    let nothing : k.0 ≡ [] = none_left k.0 k.2 in
    ap token_at (sym (append-nil w)) ∙ number_read w [] [] h (k.1 ∙ ap (λ (x : List ℕ). Some x) nothing) ∙ ap (λ (x : List ℕ). Some (t.Number x, [])) (before_is w [])

dollar_of : (v : List ℕ) → Leaves (after_dollar (v ++ [])) [] → token_at (36 ∷ v) ≡ Some (t.Dollar (36 ∷ v), [])
dollar_of v k =
    let nothing : k.0 ≡ [] = none_left k.0 k.2 in
    let read : after_dollar v ≡ Some [] = ap after_dollar (sym (append-nil v)) ∙ k.1 ∙ ap (λ (x : List ℕ). Some x) nothing in
    dollar_read v [] read ∙ ap (λ (x : List ℕ). Some (t.Dollar x, [])) (before_all (36 ∷ v))

dollar_alone : (w : List ℕ) → IsDollar w → token_at w ≡ Some (t.Dollar w, [])
dollar_alone _ (OneSign w h) = dollar_of w (one_leaves w [] h)
dollar_alone _ (TwoSigns w h) = dollar_of (36 ∷ w) (two_leaves w [] h)

quoted_alone : (q : ℕ) (text : List ℕ) → eqb 92 q ≡ false → EachByte is_printable text → quoted_at q false (quoted_text q text) ≡ Some (text, [])
quoted_alone q text n h = ap (quoted_at q false) (sym (append-nil (quoted_text q text))) ∙ quoted_again q text [] n h

pub alone : (u : Token) → IsToken u → token_at (spelling u) ≡ Some (u, [])
unfolding token_at
alone (t.Lower w) h = word_alone w h
alone (t.Upper w) h = upper_alone w h
alone (t.Dollar w) h = dollar_alone w h
alone (t.Quoted []) h = absurd h
alone (t.Quoted (b ∷ name)) h = rw (quoted_alone 39 (b ∷ name) refl h) refl
alone (t.Distinct name) h = rw (quoted_alone 34 name refl h) refl
alone (t.Number w) h = number_alone w h
alone (t.Other b) h = alone_other b h
alone t.OpenRound h = refl
alone t.CloseRound h = refl
alone t.OpenSquare h = refl
alone t.CloseSquare h = refl
alone t.Comma h = refl
alone t.Dot h = refl
alone t.Colon h = refl
alone t.Not h = refl
alone t.And h = refl
alone t.Or h = refl
alone t.Implies h = refl
alone t.ImpliedBy h = refl
alone t.Iff h = refl
alone t.Differs h = refl
alone t.Nor h = refl
alone t.Nand h = refl
alone t.ForAll h = refl
alone t.Exists h = refl
alone t.Equal h = refl
alone t.Unequal h = refl

some_is : {A : Type 0} (x y : A) → Some x ≡ Some y → x ≡ y
some_is x y e = cc

-- ---- the laws

-- what is read is the longest token
pub reads_longest : (bytes : List ℕ) (token : Token) (rest : List ℕ) → token_at bytes ≡ Some (token, rest) → Longest bytes token rest
reads_longest bytes token rest e =
    let f : Fine bytes (Some (token, rest)) = subst (Fine bytes) e (token_fine bytes) in
    record {
      is = f.0;
      front = f.1;
      longest = λ u others is stands.
          let a = again u others is in
          let same : (a.token, a.rest) ≡ (token, rest) = some_is _ _ (sym a.is ∙ ap token_at (sym stands) ∙ e) in
          subst (λ (x : Token × List ℕ). length (spelling u) ≤ length (spelling x.0)) same a.long;
    }

parts_are : (a b x y : List ℕ) → length a ≡ length b → a ++ x ≡ b ++ y → (a ≡ b) × (x ≡ y)
parts_are a b x y len e = (sym (take_at a x (length a) refl) ∙ ap (take (length a)) e ∙ take_at b y (length a) (sym len), sym (drop_at a x (length a) refl) ∙ ap (drop (length a)) e ∙ drop_at b y (length a) (sym len))

-- the longest token is read, so there is one at most
pub longest_reads : (bytes : List ℕ) (token : Token) (rest : List ℕ) → Longest bytes token rest → token_at bytes ≡ Some (token, rest)
longest_reads bytes token rest h =
    let a = again token rest h.is in
    let read : token_at bytes ≡ Some (a.token, a.rest) = ap token_at h.front ∙ a.is in
    let f : Fine bytes (Some (a.token, a.rest)) = subst (Fine bytes) read (token_fine bytes) in
    let most = h.longest a.token a.rest f.0 f.1 in
    let least = a.long in
    let len : length (spelling token) ≡ length (spelling a.token) = omega arith in
    let both = parts_are (spelling token) (spelling a.token) rest a.rest len (sym h.front ∙ f.1) in
    let same : (let x : Token × List ℕ = (token, []) in x) ≡ (a.token, []) = some_is {A = Token × List ℕ} (token, []) (a.token, []) (sym (alone token h.is) ∙ ap token_at both.0 ∙ alone a.token f.0) in
    read ∙ ap₂ (λ (u : Token) (r : List ℕ). Some (u, r)) (sym (ap (λ (x : Token × List ℕ). x.0) same)) (sym both.1)

-- where nothing is read, no token stands
pub nothing_reads : (bytes : List ℕ) (u : Token) (others : List ℕ) → token_at bytes ≡ None → IsToken u → bytes ≢ spelling u ++ others
nothing_reads bytes u others e is stands = let a = again u others is in let c = sym a.is ∙ ap token_at (sym stands) ∙ e in absurd cc

pub one_longest : (bytes : List ℕ) (token other : Token) (rest left : List ℕ) → Longest bytes token rest → Longest bytes other left → (token ≡ other) × (rest ≡ left)
one_longest bytes token other rest left h k =
    let e : (let x : Token × List ℕ = (token, rest) in x) ≡ (other, left) = some_is {A = Token × List ℕ} (token, rest) (other, left) (sym (longest_reads bytes token rest h) ∙ longest_reads bytes other left k) in
    (ap (λ (x : Token × List ℕ). x.0) e, ap (λ (x : Token × List ℕ). x.1) e)

front_told : {Place : Type 0} (behind : Place → List ℕ) (bytes : List ℕ) (o : Option (Token × Place)) → seen (λ x. (x.0, behind x.1)) o ≡ token_at bytes
    → MatchOption o (IsTokenless bytes) (λ x. Longest bytes x.0 (behind x.1))
front_told behind bytes None e = λ token rest is. nothing_reads bytes token rest (sym e) is
front_told behind bytes (Some x) e = reads_longest bytes x.0 (behind x.1) (sym e)

-- what code that hands out places has read
pub read_told : {Place E : Type 0} (r : Result (Option (Token × Place)) E) (behind : Place → List ℕ) (bytes : List ℕ) → IfOk r (λ o. seen (λ x. (x.0, behind x.1)) o ≡ token_at bytes)
    → IfOk r (λ o. MatchOption o (IsTokenless bytes) (λ x. Longest bytes x.0 (behind x.1)))
read_told (Ok o) behind bytes e = front_told behind bytes o e
read_told (Err e) behind bytes h = tt
