-- The text that is printed for an item reads as its tokens, whatever stands behind.
use Rattle.std.proofs.Common.{◌≡◌, ◌≢◌, ℕ, zero, suc, ◌+◌, ◌-◌, ◌%◌, ◌^◌, ◌<◌, max, Bool, true, false, ◌&&◌, eqb, leb, List, [], ◌∷◌, ◌++◌, map, Some, ◌⊎◌, inl, inr, refl, ap, subst, ◌∙◌, append_assoc, arith, rules, codes, decimal}
use Rattle.std.specs.List.{list_all}
use Rattle.std.proofs.lemmas.Bool.{eqb-true, leb-true, and_parts, or_parts, cases_Bool}
use Rattle.std.proofs.lemmas.Fmt.{decimal_by_steps}
use Rattle.dk_syntax.proofs.FormulaLaws.{formula_induction, occurrences-Atom, occurrences-Not, occurrences-And, occurrences-Or, occurrences-Imp, occurrences-Iff, occurrences-All, occurrences-Ex, depth-Not, depth-And, depth-Or, depth-Imp, depth-Iff, depth-All, depth-Ex}
use Rattle.dk_syntax.proofs.ListLaws.{ForEach, for_each}
use Rattle.dk_syntax.proofs.TermLaws.{term_induction, occurrences-App}
use Rattle.dk_syntax.specs.Depth.{formula_depth}
use Rattle.dk_syntax.specs.Symbols.{formula_occurrences, joined, term_occurrences}
use Rattle.dk_syntax.specs.declared.Formula.{Formula, the_lemmas as of_formulas}
use Rattle.dk_syntax.specs.declared.Formula.TheVariants as formula
use Rattle.dk_syntax.specs.declared.SymKey.{SymKey}
use Rattle.dk_syntax.specs.declared.Term.{Term, the_lemmas as of_terms}
use Rattle.dk_syntax.specs.declared.Term.TheVariants as term
use Rattle.tptp_tokens.specs.Bytes.{is_lower, is_digit, is_word, is_sign, is_printable, is_escaped, EachByte}
use Rattle.tptp_tokens.specs.Spelling.{IsQuoted, quoted_text}
use Rattle.tptp_tokens.specs.Scan.{after, quoted_at, tilde_at, token_at}
use Rattle.tptp_tokens.specs.Skipping.{Between, skip}
use Rattle.tptp_tokens.specs.Matter.{Skips, White}
use Rattle.tptp_tokens.specs.TokenLists.{AreTokens, NoToken, MoreTokens}
use Rattle.tptp_tokens.specs.declared.Token.{Token}
use Rattle.tptp_tokens.specs.declared.Token.TheVariants as t
use Rattle.tptp_tokens.proofs.LongestToken.{reads_longest}
use Rattle.tptp_tokens.proofs.NumberLaws.{before_is, run_all, digit_no_lower, digit_no_upper}
use Rattle.tptp_tokens.specs.Chunks.{chunk, chunk_from}
use Rattle.tptp_tokens.proofs.ChunkLaws.{chunk_so}
use Rattle.tptp_tokens.proofs.SkippedMatter.{skips_so}
use Rattle.tptp_text.specs.Printed.{AreNamed, is_lower_word, is_digit_run, printed_item_name, printed_item, quoted_name, printed_name, variable_text, list_text, arguments_text, printed_term, binary_text, quantified_text, printed_formula}
use Rattle.tptp_text.specs.PrintedTokens.{name_token, item_name_token, item_tokens, list_tokens, arguments_tokens, term_tokens, binary_tokens, quantified_tokens, formula_tokens}

-- ---- one token

-- what stands behind doesn't go on with a word
abbrev Delimits : List ℕ → Type 0
Delimits rest = after is_word rest ≡ rest

one : (bytes : List ℕ) (token : Token) (rest : List ℕ) (ts : List Token) (stop : List ℕ) → skip (Between false) bytes ≡ bytes → token_at bytes ≡ Some (token, rest) → token ≢ t.Dot → AreTokens rest ts stop → AreTokens bytes (token ∷ ts) stop
one bytes token rest ts stop s e d k = MoreTokens bytes bytes token rest ts stop (subst (Skips false bytes) s (skips_so false bytes)) (reads_longest bytes token rest e) d k

-- a space before more
spaced : {bytes : List ℕ} {ts : List Token} {stop : List ℕ} → AreTokens bytes ts stop → AreTokens (32 ∷ bytes) ts stop
spaced (NoToken bytes here s stops) = NoToken (32 ∷ bytes) here (White false 32 bytes here refl s) stops
spaced (MoreTokens bytes here token rest ts stop s l d k) = MoreTokens (32 ∷ bytes) here token rest ts stop (White false 32 bytes here refl s) l d k

opening : {bytes : List ℕ} {ts : List Token} {stop : List ℕ} → AreTokens bytes ts stop → AreTokens (40 ∷ bytes) (t.OpenRound ∷ ts) stop
unfolding token_at skip
opening {bytes} {ts} {stop} k = one (40 ∷ bytes) t.OpenRound bytes ts stop refl refl (λ e. cc) k

closing : {bytes : List ℕ} {ts : List Token} {stop : List ℕ} → AreTokens bytes ts stop → AreTokens (41 ∷ bytes) (t.CloseRound ∷ ts) stop
unfolding token_at skip
closing {bytes} {ts} {stop} k = one (41 ∷ bytes) t.CloseRound bytes ts stop refl refl (λ e. cc) k

comma : {bytes : List ℕ} {ts : List Token} {stop : List ℕ} → AreTokens bytes ts stop → AreTokens (44 ∷ bytes) (t.Comma ∷ ts) stop
unfolding token_at skip
comma {bytes} {ts} {stop} k = one (44 ∷ bytes) t.Comma bytes ts stop refl refl (λ e. cc) k

square : {bytes : List ℕ} {ts : List Token} {stop : List ℕ} → AreTokens bytes ts stop → AreTokens (91 ∷ bytes) (t.OpenSquare ∷ ts) stop
unfolding token_at skip
square {bytes} {ts} {stop} k = one (91 ∷ bytes) t.OpenSquare bytes ts stop refl refl (λ e. cc) k

square_end : {bytes : List ℕ} {ts : List Token} {stop : List ℕ} → AreTokens bytes ts stop → AreTokens (93 ∷ 58 ∷ bytes) (t.CloseSquare ∷ t.Colon ∷ ts) stop
unfolding token_at skip
square_end {bytes} {ts} {stop} k = one (93 ∷ 58 ∷ bytes) t.CloseSquare (58 ∷ bytes) (t.Colon ∷ ts) stop refl refl (λ e. cc) (one (58 ∷ bytes) t.Colon bytes ts stop refl refl (λ e. cc) k)

every : {bytes : List ℕ} {ts : List Token} {stop : List ℕ} → AreTokens (91 ∷ bytes) ts stop → AreTokens (33 ∷ 91 ∷ bytes) (t.ForAll ∷ ts) stop
unfolding token_at skip
every {bytes} {ts} {stop} k = one (33 ∷ 91 ∷ bytes) t.ForAll (91 ∷ bytes) ts stop refl refl (λ e. cc) k

some : {bytes : List ℕ} {ts : List Token} {stop : List ℕ} → AreTokens (91 ∷ bytes) ts stop → AreTokens (63 ∷ 91 ∷ bytes) (t.Exists ∷ ts) stop
unfolding token_at skip
some {bytes} {ts} {stop} k = one (63 ∷ 91 ∷ bytes) t.Exists (91 ∷ bytes) ts stop refl refl (λ e. cc) k

tilde : {bytes : List ℕ} {ts : List Token} {stop : List ℕ} → tilde_at bytes ≡ (t.Not, bytes) → AreTokens bytes ts stop → AreTokens (126 ∷ bytes) (t.Not ∷ ts) stop
unfolding token_at skip
tilde {bytes} {ts} {stop} e k = one (126 ∷ bytes) t.Not bytes ts stop refl (ap (λ (x : Token × List ℕ). Some x) e) (λ d. cc) k

-- ---- words

ne_number : (b n : ℕ) → (b ≡ n → ⊥) → eqb b n ≡ false
ne_number b n differs = elim (cases_Bool (eqb b n)) [ inl e ↦ absurd (differs (eqb-true b n e)) | inr e ↦ e ]

lower_firm : (b : ℕ) (bytes : List ℕ) → is_lower b ≡ true → skip (Between false) (b ∷ bytes) ≡ b ∷ bytes
unfolding skip
lower_firm b bytes h = let low = leb-true 97 b ((and_parts (leb 97 b) (leb b 122) h).0) in
    rw (ne_number b 32 (λ e. omega arith), ne_number b 9 (λ e. omega arith), ne_number b 10 (λ e. omega arith), ne_number b 13 (λ e. omega arith), ne_number b 37 (λ e. omega arith), ne_number b 47 (λ e. omega arith)) refl

each_of_all : (p : ℕ → Bool) (bytes : List ℕ) → list_all p bytes ≡ true → EachByte p bytes
each_of_all p [] e = tt
each_of_all p (b ∷ bytes) e = let h = and_parts (p b) (list_all p bytes) e in (h.0, each_of_all p bytes h.1)

lower_read : (word rest : List ℕ) (ts : List Token) (stop : List ℕ) → is_lower_word word ≡ true → Delimits rest → AreTokens rest ts stop → AreTokens (word ++ rest) (t.Lower word ∷ ts) stop
unfolding token_at
lower_read [] rest ts stop h d k = absurd (let c = h in cc)
lower_read (b ∷ word) rest ts stop h d k =
    let p = and_parts (is_lower b) (list_all is_word word) h in
    let left : after is_word (word ++ rest) ≡ rest = run_all is_word word rest (each_of_all is_word word p.1) ∙ d in
    one ((b ∷ word) ++ rest) (t.Lower (b ∷ word)) rest ts stop (lower_firm b (word ++ rest) p.0) (rw (p.0, left, before_is (b ∷ word) rest) refl) (λ e. cc) k

quoted_again : (text rest : List ℕ) → EachByte is_printable text → quoted_at 39 false (quoted_text 39 text ++ rest) ≡ Some (text, rest)
quoted_again [] rest h = refl
quoted_again (b ∷ text) rest h = elim (cases_Bool (is_escaped 39 b)) [
  | inl e ↦ rw e (rw (e, quoted_again text rest h.1) refl)
  | inr e ↦ rw e (let m = or_parts (eqb b 39) (eqb b 92) e in rw (m.0, m.1, h.0, quoted_again text rest h.1) refl)
]

quoted_read : (name rest : List ℕ) (ts : List Token) (stop : List ℕ) → IsQuoted name → AreTokens rest ts stop → AreTokens (quoted_name name ++ rest) (t.Quoted name ∷ ts) stop
unfolding token_at skip
quoted_read [] rest ts stop h k = absurd h
quoted_read (b ∷ name) rest ts stop h k = one (quoted_name (b ∷ name) ++ rest) (t.Quoted (b ∷ name)) rest ts stop refl (rw (quoted_again (b ∷ name) rest h) refl) (λ e. cc) k

name_read : (name rest : List ℕ) (ts : List Token) (stop : List ℕ) → IsQuoted name → Delimits rest → AreTokens rest ts stop → AreTokens (printed_name name ++ rest) (name_token name ∷ ts) stop
name_read name rest ts stop h d k = elim (cases_Bool (is_lower_word name)) [
  | inl e ↦ rw e (lower_read name rest ts stop e d k)
  | inr e ↦ rw e (quoted_read name rest ts stop h k)
]

-- the test passes each number below the bound
passes_below : (ℕ → Bool) → ℕ → Bool
passes_below test zero = true
passes_below test (suc n) = test n && passes_below test n

lt_or_same : (d n : ℕ) → d < suc n → (d < n) ⊎ (d ≡ n)
lt_or_same d n h = grind arith

passes_at : (test : ℕ → Bool) (n d : ℕ) → passes_below test n ≡ true → d < n → test d ≡ true
unfolding passes_below
passes_at test zero d e h = absurd (omega arith)
passes_at test (suc n) d e h =
    let parts = and_parts (test n) (passes_below test n) e in
    elim (lt_or_same d n h) [
      | inl below ↦ passes_at test n d parts.1 below
      | inr same ↦ rw same parts.0
    ]

digit_is_word : (d : ℕ) → d < 10 → is_word (48 + d) ≡ true
unfolding passes_below
digit_is_word d h = passes_at (λ k. is_word (48 + k)) 10 d refl h

each_append : (p : ℕ → Bool) (xs ys : List ℕ) → EachByte p xs → EachByte p ys → EachByte p (xs ++ ys)
each_append p [] ys h k = k
each_append p (x ∷ xs) ys h k = (h.0, each_append p xs ys h.1 k)

decimal_words : (n : ℕ) → n < 2 ^ 64 → EachByte is_word (decimal n)
decimal_words n small = decimal_by_steps (λ m ds. EachByte is_word ds) (λ m h. (digit_is_word m h, tt)) (λ m ds h k. each_append is_word ds ((48 + m % 10) ∷ []) k (digit_is_word (m % 10) (omega arith), tt)) n small

upper_read : (n : ℕ) (rest : List ℕ) (ts : List Token) (stop : List ℕ) → n < 2 ^ 64 → Delimits rest → AreTokens rest ts stop → AreTokens (variable_text n ++ rest) (t.Upper (variable_text n) ∷ ts) stop
unfolding token_at skip
upper_read n rest ts stop small d k =
    let left : after is_word (decimal n ++ rest) ≡ rest = run_all is_word (decimal n) rest (decimal_words n small) ∙ d in
    one (variable_text n ++ rest) (t.Upper (variable_text n)) rest ts stop refl (rw (left, before_is (88 ∷ decimal n) rest) refl) (λ e. cc) k

true_read : (rest : List ℕ) (ts : List Token) (stop : List ℕ) → Delimits rest → AreTokens rest ts stop → AreTokens (codes "$true" ++ rest) (t.Dollar (codes "$true") ∷ ts) stop
unfolding token_at skip
true_read rest ts stop d k = one (codes "$true" ++ rest) (t.Dollar (codes "$true")) rest ts stop refl (rw (d, before_is (codes "$true") rest) refl) (λ e. cc) k

false_read : (rest : List ℕ) (ts : List Token) (stop : List ℕ) → Delimits rest → AreTokens rest ts stop → AreTokens (codes "$false" ++ rest) (t.Dollar (codes "$false") ∷ ts) stop
unfolding token_at skip
false_read rest ts stop d k = one (codes "$false" ++ rest) (t.Dollar (codes "$false")) rest ts stop refl (rw (d, before_is (codes "$false") rest) refl) (λ e. cc) k

any_read : (rest : List ℕ) (ts : List Token) (stop : List ℕ) → Delimits rest → AreTokens rest ts stop → AreTokens (codes "$any" ++ rest) (t.Dollar (codes "$any") ∷ ts) stop
unfolding token_at skip
any_read rest ts stop d k = one (codes "$any" ++ rest) (t.Dollar (codes "$any")) rest ts stop refl (rw (d, before_is (codes "$any") rest) refl) (λ e. cc) k

-- ---- terms

named_left : (a b : List SymKey) → AreNamed (a ++ b) → AreNamed a
named_left [] b h = tt
named_left (s ∷ a) b h = (h.0, named_left a b h.1)

named_right : (a b : List SymKey) → AreNamed (a ++ b) → AreNamed b
named_right [] b h = h
named_right (s ∷ a) b h = named_right a b h.1

text-Var : (n level : ℕ) → printed_term (term.Var n) level ≡ variable_text (level - 1 - n)
text-Var n level = search (rules, of_terms)

text-App : (s : SymKey) (args : List Term) (level : ℕ) → printed_term (term.App s args) level ≡ printed_name s.name ++ arguments_text (map printed_term args) level
text-App s args level = search (rules, of_terms)

text-Any : (level : ℕ) → printed_term term.Any level ≡ codes "$any"
text-Any level = search (rules, of_terms)

pub tokens-Var : (n level : ℕ) (after : List Token) → term_tokens (term.Var n) level after ≡ t.Upper (variable_text (level - 1 - n)) ∷ after
tokens-Var n level after = search (rules, of_terms)

pub tokens-App : (s : SymKey) (args : List Term) (level : ℕ) (after : List Token) → term_tokens (term.App s args) level after ≡ name_token s.name ∷ arguments_tokens (map term_tokens args) level after
tokens-App s args level after = search (rules, of_terms)

pub tokens-Any : (level : ℕ) (after : List Token) → term_tokens term.Any level after ≡ t.Dollar (codes "$any") ∷ after
tokens-Any level after = search (rules, of_terms)

abbrev TermReads : Term → Type 0
TermReads x = (level : ℕ) (rest : List ℕ) (after : List Token) (stop : List ℕ) → level < 2 ^ 64 → AreNamed (term_occurrences x) → Delimits rest → AreTokens rest after stop → AreTokens (printed_term x level ++ rest) (term_tokens x level after) stop

abbrev Marks : List ℕ → Token → Type 0
Marks text mark = (bytes : List ℕ) (ts : List Token) (stop : List ℕ) → AreTokens bytes ts stop → AreTokens (text ++ bytes) (mark ∷ ts) stop

list_delimits : (xs : List Term) (level : ℕ) (rest : List ℕ) → Delimits (list_text 44 (map printed_term xs) level ++ rest)
list_delimits [] level rest = refl
list_delimits (x ∷ xs) level rest = refl

list_reads : (xs : List Term) → ForEach TermReads xs → (m : ℕ) (mark : Token) → Marks (m ∷ []) mark → (level : ℕ) (rest : List ℕ) (after : List Token) (stop : List ℕ) → level < 2 ^ 64
    → AreNamed (joined (map term_occurrences xs)) → AreTokens rest after stop → AreTokens (list_text m (map printed_term xs) level ++ rest) (list_tokens mark (map term_tokens xs) level after) stop
list_reads [] known m mark marks level rest after stop small named k = closing k
list_reads (x ∷ xs) known m mark marks level rest after stop small named k =
    let first = named_left (term_occurrences x) (joined (map term_occurrences xs)) named in
    let others = named_right (term_occurrences x) (joined (map term_occurrences xs)) named in
    rw (append_assoc (printed_term x level) (list_text 44 (map printed_term xs) level) rest)
    (marks (printed_term x level ++ (list_text 44 (map printed_term xs) level ++ rest)) (term_tokens x level (list_tokens t.Comma (map term_tokens xs) level after)) stop
    (known.0 level (list_text 44 (map printed_term xs) level ++ rest) (list_tokens t.Comma (map term_tokens xs) level after) stop small first (list_delimits xs level rest)
    (list_reads xs known.1 44 t.Comma (λ bytes ts s h. comma h) level rest after stop small others k)))

arguments_delimit : (xs : List Term) (level : ℕ) (rest : List ℕ) → Delimits rest → Delimits (arguments_text (map printed_term xs) level ++ rest)
arguments_delimit [] level rest d = d
arguments_delimit (x ∷ xs) level rest d = refl

arguments_read : (xs : List Term) → ForEach TermReads xs → (level : ℕ) (rest : List ℕ) (after : List Token) (stop : List ℕ) → level < 2 ^ 64
    → AreNamed (joined (map term_occurrences xs)) → AreTokens rest after stop → AreTokens (arguments_text (map printed_term xs) level ++ rest) (arguments_tokens (map term_tokens xs) level after) stop
arguments_read [] known level rest after stop small named k = k
arguments_read (x ∷ xs) known level rest after stop small named k = list_reads (x ∷ xs) known 40 t.OpenRound (λ bytes ts s h. opening h) level rest after stop small named k

applied_read : (s : SymKey) (xs : List Term) → ForEach TermReads xs → (level : ℕ) (rest : List ℕ) (after : List Token) (stop : List ℕ) → level < 2 ^ 64
    → IsQuoted s.name → AreNamed (joined (map term_occurrences xs)) → Delimits rest → AreTokens rest after stop
    → AreTokens ((printed_name s.name ++ arguments_text (map printed_term xs) level) ++ rest) (name_token s.name ∷ arguments_tokens (map term_tokens xs) level after) stop
applied_read s xs known level rest after stop small name named d k =
    rw (append_assoc (printed_name s.name) (arguments_text (map printed_term xs) level) rest)
    (name_read s.name (arguments_text (map printed_term xs) level ++ rest) (arguments_tokens (map term_tokens xs) level after) stop name (arguments_delimit xs level rest d)
    (arguments_read xs known level rest after stop small named k))

pub term_reads : (x : Term) → TermReads x
term_reads = term_induction TermReads
    (λ n level rest after stop small named d k. rw (text-Var n level, tokens-Var n level after) (upper_read (level - 1 - n) rest after stop (omega arith) d k))
    (λ s args known level rest after stop small named d k. let names = rw (occurrences-App s args) at named in
    rw (text-App s args level, tokens-App s args level after) (applied_read s args known level rest after stop small names.0 names.1 d k))
    (λ level rest after stop small named d k. rw (text-Any level, tokens-Any level after) (any_read rest after stop d k))

-- ---- formulas

text-True : (level : ℕ) → printed_formula formula.True level ≡ codes "$true"
text-True level = search (rules, of_formulas)

text-False : (level : ℕ) → printed_formula formula.False level ≡ codes "$false"
text-False level = search (rules, of_formulas)

text-Atom : (s : SymKey) (args : List Term) (level : ℕ) → printed_formula (formula.Atom s args) level ≡ printed_name s.name ++ arguments_text (map printed_term args) level
text-Atom s args level = search (rules, of_formulas)

text-Not : (a : Formula) (level : ℕ) → printed_formula (formula.Not a) level ≡ codes "~" ++ printed_formula a level
text-Not a level = search (rules, of_formulas)

text-And : (a b : Formula) (level : ℕ) → printed_formula (formula.And a b) level ≡ binary_text (codes " & ") (printed_formula a) (printed_formula b) level
text-And a b level = search (rules, of_formulas)

text-Or : (a b : Formula) (level : ℕ) → printed_formula (formula.Or a b) level ≡ binary_text (codes " | ") (printed_formula a) (printed_formula b) level
text-Or a b level = search (rules, of_formulas)

text-Imp : (a b : Formula) (level : ℕ) → printed_formula (formula.Imp a b) level ≡ binary_text (codes " => ") (printed_formula a) (printed_formula b) level
text-Imp a b level = search (rules, of_formulas)

text-Iff : (a b : Formula) (level : ℕ) → printed_formula (formula.Iff a b) level ≡ binary_text (codes " <=> ") (printed_formula a) (printed_formula b) level
text-Iff a b level = search (rules, of_formulas)

text-All : (a : Formula) (level : ℕ) → printed_formula (formula.All a) level ≡ quantified_text (codes "!") (printed_formula a) level
text-All a level = search (rules, of_formulas)

text-Ex : (a : Formula) (level : ℕ) → printed_formula (formula.Ex a) level ≡ quantified_text (codes "?") (printed_formula a) level
text-Ex a level = search (rules, of_formulas)

pub tokens-True : (level : ℕ) (after : List Token) → formula_tokens formula.True level after ≡ t.Dollar (codes "$true") ∷ after
tokens-True level after = search (rules, of_formulas)

pub tokens-False : (level : ℕ) (after : List Token) → formula_tokens formula.False level after ≡ t.Dollar (codes "$false") ∷ after
tokens-False level after = search (rules, of_formulas)

pub tokens-Atom : (s : SymKey) (args : List Term) (level : ℕ) (after : List Token) → formula_tokens (formula.Atom s args) level after ≡ name_token s.name ∷ arguments_tokens (map term_tokens args) level after
tokens-Atom s args level after = search (rules, of_formulas)

pub tokens-Not : (a : Formula) (level : ℕ) (after : List Token) → formula_tokens (formula.Not a) level after ≡ t.Not ∷ formula_tokens a level after
tokens-Not a level after = search (rules, of_formulas)

pub tokens-And : (a b : Formula) (level : ℕ) (after : List Token) → formula_tokens (formula.And a b) level after ≡ binary_tokens t.And (formula_tokens a) (formula_tokens b) level after
tokens-And a b level after = search (rules, of_formulas)

pub tokens-Or : (a b : Formula) (level : ℕ) (after : List Token) → formula_tokens (formula.Or a b) level after ≡ binary_tokens t.Or (formula_tokens a) (formula_tokens b) level after
tokens-Or a b level after = search (rules, of_formulas)

pub tokens-Imp : (a b : Formula) (level : ℕ) (after : List Token) → formula_tokens (formula.Imp a b) level after ≡ binary_tokens t.Implies (formula_tokens a) (formula_tokens b) level after
tokens-Imp a b level after = search (rules, of_formulas)

pub tokens-Iff : (a b : Formula) (level : ℕ) (after : List Token) → formula_tokens (formula.Iff a b) level after ≡ binary_tokens t.Iff (formula_tokens a) (formula_tokens b) level after
tokens-Iff a b level after = search (rules, of_formulas)

pub tokens-All : (a : Formula) (level : ℕ) (after : List Token) → formula_tokens (formula.All a) level after ≡ quantified_tokens t.ForAll (formula_tokens a) level after
tokens-All a level after = search (rules, of_formulas)

pub tokens-Ex : (a : Formula) (level : ℕ) (after : List Token) → formula_tokens (formula.Ex a) level after ≡ quantified_tokens t.Exists (formula_tokens a) level after
tokens-Ex a level after = search (rules, of_formulas)

abbrev FormulaReads : Formula → Type 0
FormulaReads f = (level : ℕ) (rest : List ℕ) (after : List Token) (stop : List ℕ) → level + formula_depth f < 2 ^ 64 → AreNamed (formula_occurrences f) → Delimits rest → AreTokens rest after stop
    → AreTokens (printed_formula f level ++ rest) (formula_tokens f level after) stop

-- a formula's text doesn't go on with `~`
abbrev Starts : Formula → Type 0
Starts f = (level : ℕ) (rest : List ℕ) → tilde_at (printed_formula f level ++ rest) ≡ (t.Not, printed_formula f level ++ rest)

lower_starts : (b : ℕ) (bytes : List ℕ) → is_lower b ≡ true → tilde_at (b ∷ bytes) ≡ (t.Not, b ∷ bytes)
lower_starts b bytes h = let p = and_parts (leb 97 b) (leb b 122) h in let low = leb-true 97 b p.0 in let high = leb-true b 122 p.1 in
    rw (ne_number b 124 (λ e. omega arith), ne_number b 38 (λ e. omega arith)) refl

word_starts : (word bytes : List ℕ) → is_lower_word word ≡ true → tilde_at (word ++ bytes) ≡ (t.Not, word ++ bytes)
word_starts [] bytes h = absurd (let c = h in cc)
word_starts (b ∷ word) bytes h = lower_starts b (word ++ bytes) ((and_parts (is_lower b) (list_all is_word word) h).0)

name_starts : (name bytes : List ℕ) → tilde_at (printed_name name ++ bytes) ≡ (t.Not, printed_name name ++ bytes)
name_starts name bytes = elim (cases_Bool (is_lower_word name)) [
  | inl e ↦ rw e (word_starts name bytes e)
  | inr e ↦ rw e refl
]

formula_starts : (f : Formula) → Starts f
formula_starts = formula_induction Starts
    (λ level rest. rw (text-True level) refl)
    (λ level rest. rw (text-False level) refl)
    (λ s args level rest. rw (text-Atom s args level, append_assoc (printed_name s.name) (arguments_text (map printed_term args) level) rest) (name_starts s.name (arguments_text (map printed_term args) level ++ rest)))
    (λ a known level rest. rw (text-Not a level) refl)
    (λ a b left right level rest. rw (text-And a b level) refl)
    (λ a b left right level rest. rw (text-Or a b level) refl)
    (λ a b left right level rest. rw (text-Imp a b level) refl)
    (λ a b left right level rest. rw (text-Iff a b level) refl)
    (λ a known level rest. rw (text-All a level) refl)
    (λ a known level rest. rw (text-Ex a level) refl)

and_mark : Marks (codes " & ") t.And
unfolding token_at skip
and_mark bytes ts stop k = spaced (one (38 ∷ 32 ∷ bytes) t.And (32 ∷ bytes) ts stop refl refl (λ e. cc) (spaced k))

or_mark : Marks (codes " | ") t.Or
unfolding token_at skip
or_mark bytes ts stop k = spaced (one (124 ∷ 32 ∷ bytes) t.Or (32 ∷ bytes) ts stop refl refl (λ e. cc) (spaced k))

imp_mark : Marks (codes " => ") t.Implies
unfolding token_at skip
imp_mark bytes ts stop k = spaced (one (61 ∷ 62 ∷ 32 ∷ bytes) t.Implies (32 ∷ bytes) ts stop refl refl (λ e. cc) (spaced k))

iff_mark : Marks (codes " <=> ") t.Iff
unfolding token_at skip
iff_mark bytes ts stop k = spaced (one (60 ∷ 61 ∷ 62 ∷ 32 ∷ bytes) t.Iff (32 ∷ bytes) ts stop refl refl (λ e. cc) (spaced k))

binary_reads : (text : List ℕ) (mark : Token) → Marks text mark → ((bytes : List ℕ) → Delimits (text ++ bytes)) → (a b : Formula) → FormulaReads a → FormulaReads b
    → (level : ℕ) (rest : List ℕ) (after : List Token) (stop : List ℕ) → level + (1 + max (formula_depth a) (formula_depth b)) < 2 ^ 64 → AreNamed (formula_occurrences a ++ formula_occurrences b) → AreTokens rest after stop
    → AreTokens (binary_text text (printed_formula a) (printed_formula b) level ++ rest) (binary_tokens mark (formula_tokens a) (formula_tokens b) level after) stop
binary_reads text mark marks delimits a b left right level rest after stop small named k =
    rw (append_assoc (printed_formula a level) (text ++ (printed_formula b level ++ codes ")")) rest, append_assoc text (printed_formula b level ++ codes ")") rest, append_assoc (printed_formula b level) (codes ")") rest)
    (opening (left level (text ++ (printed_formula b level ++ (41 ∷ rest))) (mark ∷ formula_tokens b level (t.CloseRound ∷ after)) stop (omega arith) (named_left (formula_occurrences a) (formula_occurrences b) named) (delimits (printed_formula b level ++ (41 ∷ rest)))
    (marks (printed_formula b level ++ (41 ∷ rest)) (formula_tokens b level (t.CloseRound ∷ after)) stop
    (right level (41 ∷ rest) (t.CloseRound ∷ after) stop (omega arith) (named_right (formula_occurrences a) (formula_occurrences b) named) refl (closing k)))))

quantified_reads : (m : ℕ) (mark : Token) → ((bytes : List ℕ) (ts : List Token) (stop : List ℕ) → AreTokens (91 ∷ bytes) ts stop → AreTokens (m ∷ 91 ∷ bytes) (mark ∷ ts) stop) → (a : Formula) → FormulaReads a
    → (level : ℕ) (rest : List ℕ) (after : List Token) (stop : List ℕ) → level + (1 + formula_depth a) < 2 ^ 64 → AreNamed (formula_occurrences a) → Delimits rest → AreTokens rest after stop
    → AreTokens (quantified_text (m ∷ []) (printed_formula a) level ++ rest) (quantified_tokens mark (formula_tokens a) level after) stop
quantified_reads m mark marks a known level rest after stop small named d k =
    let body = known (level + 1) rest after stop (omega arith) named d k in
    let variable = upper_read level (93 ∷ 58 ∷ (printed_formula a (level + 1) ++ rest)) (t.CloseSquare ∷ t.Colon ∷ formula_tokens a (level + 1) after) stop (omega arith) refl (square_end body) in
    rw (append_assoc (variable_text level) (codes "]:" ++ printed_formula a (level + 1)) rest) (marks (variable_text level ++ (93 ∷ 58 ∷ (printed_formula a (level + 1) ++ rest))) _ stop (square variable))

pub formula_reads : (f : Formula) → FormulaReads f
formula_reads = formula_induction FormulaReads
    (λ level rest after stop small named d k. rw (text-True level, tokens-True level after) (true_read rest after stop d k))
    (λ level rest after stop small named d k. rw (text-False level, tokens-False level after) (false_read rest after stop d k))
    (λ s args level rest after stop small named d k. let names = rw (occurrences-Atom s args) at named in
    rw (text-Atom s args level, tokens-Atom s args level after) (applied_read s args (for_each TermReads term_reads args) level rest after stop (omega arith) names.0 names.1 d k))
    (λ a known level rest after stop small named d k. let fits = rw (depth-Not a) at small in
    rw (text-Not a level, tokens-Not a level after) (tilde (formula_starts a level rest) (known level rest after stop (omega arith) (rw (occurrences-Not a) at named) d k)))
    (λ a b left right level rest after stop small named d k. rw (text-And a b level, tokens-And a b level after) (binary_reads (codes " & ") t.And and_mark (λ bytes. refl) a b left right level rest after stop (rw (depth-And a b) at small) (rw (occurrences-And a b) at named) k))
    (λ a b left right level rest after stop small named d k. rw (text-Or a b level, tokens-Or a b level after) (binary_reads (codes " | ") t.Or or_mark (λ bytes. refl) a b left right level rest after stop (rw (depth-Or a b) at small) (rw (occurrences-Or a b) at named) k))
    (λ a b left right level rest after stop small named d k. rw (text-Imp a b level, tokens-Imp a b level after) (binary_reads (codes " => ") t.Implies imp_mark (λ bytes. refl) a b left right level rest after stop (rw (depth-Imp a b) at small) (rw (occurrences-Imp a b) at named) k))
    (λ a b left right level rest after stop small named d k. rw (text-Iff a b level, tokens-Iff a b level after) (binary_reads (codes " <=> ") t.Iff iff_mark (λ bytes. refl) a b left right level rest after stop (rw (depth-Iff a b) at small) (rw (occurrences-Iff a b) at named) k))
    (λ a known level rest after stop small named d k. rw (text-All a level, tokens-All a level after) (quantified_reads 33 t.ForAll (λ bytes ts s h. every h) a known level rest after stop (rw (depth-All a) at small) (rw (occurrences-All a) at named) d k))
    (λ a known level rest after stop small named d k. rw (text-Ex a level, tokens-Ex a level after) (quantified_reads 63 t.Exists (λ bytes ts s h. some h) a known level rest after stop (rw (depth-Ex a) at small) (rw (occurrences-Ex a) at named) d k))

-- ---- items

digit_firm : (b : ℕ) (bytes : List ℕ) → is_digit b ≡ true → skip (Between false) (b ∷ bytes) ≡ b ∷ bytes
unfolding skip
digit_firm b bytes h = let low = leb-true 48 b ((and_parts (leb 48 b) (leb b 57) h).0) in
    rw (ne_number b 32 (λ e. omega arith), ne_number b 9 (λ e. omega arith), ne_number b 10 (λ e. omega arith), ne_number b 13 (λ e. omega arith), ne_number b 37 (λ e. omega arith), ne_number b 47 (λ e. omega arith)) refl

digit_no_sign : (b : ℕ) → is_digit b ≡ true → is_sign b ≡ false
digit_no_sign b h = let low = leb-true 48 b ((and_parts (leb 48 b) (leb b 57) h).0) in rw (ne_number b 43 (λ e. omega arith), ne_number b 45 (λ e. omega arith)) refl

digits_read : (name rest : List ℕ) (ts : List Token) (stop : List ℕ) → is_digit_run name ≡ true → AreTokens (44 ∷ rest) ts stop → AreTokens (name ++ (44 ∷ rest)) (t.Number name ∷ ts) stop
unfolding token_at
digits_read [] rest ts stop h k = absurd (let c = h in cc)
digits_read (b ∷ name) rest ts stop h k =
    let p = and_parts (is_digit b) (list_all is_digit name) h in
    let left : after is_digit (name ++ (44 ∷ rest)) ≡ 44 ∷ rest = run_all is_digit name (44 ∷ rest) (each_of_all is_digit name p.1) in
    one ((b ∷ name) ++ (44 ∷ rest)) (t.Number (b ∷ name)) (44 ∷ rest) ts stop (digit_firm b (name ++ (44 ∷ rest)) p.0)
    (rw (digit_no_lower b p.0, digit_no_upper b p.0, digit_no_sign b p.0, p.0, left, before_is (b ∷ name) (44 ∷ rest)) refl) (λ e. cc) k

item_name_read : (name rest : List ℕ) (ts : List Token) (stop : List ℕ) → IsQuoted name → AreTokens (44 ∷ rest) ts stop → AreTokens (printed_item_name name ++ (44 ∷ rest)) (item_name_token name ∷ ts) stop
item_name_read name rest ts stop h k = elim (cases_Bool (is_lower_word name)) [
  | inl e ↦ rw e (lower_read name (44 ∷ rest) ts stop e refl k)
  | inr e ↦ elim (cases_Bool (is_digit_run name)) [
    | inl d ↦ rw (e, d) (digits_read name rest ts stop d k)
    | inr d ↦ rw (e, d) (quoted_read name (44 ∷ rest) ts stop h k)
  ]
]

the_end : AreTokens (41 ∷ 46 ∷ 10 ∷ []) (t.CloseRound ∷ []) (46 ∷ 10 ∷ [])
unfolding chunk chunk_from token_at skip
the_end = chunk_so 4 (41 ∷ 46 ∷ 10 ∷ []) (omega arith)

-- the printed item is these tokens, and then a full stop and a newline
pub item_reads : (name role : List ℕ) (body : Formula) → IsQuoted name → is_lower_word role ≡ true → formula_depth body < 2 ^ 64 → AreNamed (formula_occurrences body)
    → AreTokens (printed_item name role body) (item_tokens name role body) (46 ∷ 10 ∷ [])
item_reads name role body named role_so small names =
    let inner = formula_reads body 0 (41 ∷ 46 ∷ 10 ∷ []) (t.CloseRound ∷ []) (46 ∷ 10 ∷ []) (omega arith) names refl the_end in
    let behind_role = lower_read role (44 ∷ (printed_formula body 0 ++ (41 ∷ 46 ∷ 10 ∷ []))) (t.Comma ∷ formula_tokens body 0 (t.CloseRound ∷ [])) (46 ∷ 10 ∷ []) role_so refl (comma inner) in
    let behind_name = item_name_read name (role ++ (44 ∷ (printed_formula body 0 ++ (41 ∷ 46 ∷ 10 ∷ [])))) (t.Comma ∷ t.Lower role ∷ t.Comma ∷ formula_tokens body 0 (t.CloseRound ∷ [])) (46 ∷ 10 ∷ []) named (comma behind_role) in
    rw role_so (lower_read (codes "fof") (40 ∷ (printed_item_name name ++ (44 ∷ (role ++ (44 ∷ (printed_formula body 0 ++ (41 ∷ 46 ∷ 10 ∷ []))))))) (t.OpenRound ∷ item_name_token name ∷ t.Comma ∷ t.Lower role ∷ t.Comma ∷ formula_tokens body 0 (t.CloseRound ∷ [])) (46 ∷ 10 ∷ []) refl refl (opening behind_name))
