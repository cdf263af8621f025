-- The token that is read is the one that stands in front, and nothing else is.
use Rattle.std.proofs.Common.{◌≡◌, ◌≢◌, ℕ, ◌≤◌, ◌<◌, Bool, true, false, cond, ◌&&◌, eqb, List, [], ◌∷◌, ◌++◌, length, Option, Some, None, inl, inr, refl, sym, ap, subst, ◌∙◌, arith, length-append}
use Rattle.std.specs.Prelude.{codes, nat_eq}
use Rattle.std.specs.Cmp.Lexicographic.{pointwise, bytes_decides, same_text}
use Rattle.std.specs.List.{list_all}
use Rattle.std.proofs.lemmas.Bool.{cond_both, cases_Bool, and_parts, eqb-true}
use Rattle.lp_term.specs.Identifiers.{word_byte}
use Rattle.lp_term.specs.Reserved.{begins_with_digit, IsGrammarName, IsNoneOf, reserved_words}
use Rattle.lp_read.specs.Scan.{word_in, behind_word, is_one, reserved_at, is_name, word_or, word_at, pattern_or, pattern_at, before_rest, mark_of, letter_at, arrow_at, mark_at, token_at}
use Rattle.lp_read.specs.Tokens.{IsIdentifier, IsToken, spelling, is_word, begins_with_word_byte, Stands}
use Rattle.lp_read.specs.declared.token.Token.{Token}
use Rattle.lp_read.specs.declared.token.Token.TheVariants as t

some_is_none : {A : Type 0} {x : A} → Some x ≡ None → ⊥
some_is_none e = absurd cc

some_is : {A : Type 0} (x y : A) → Some x ≡ Some y → x ≡ y
some_is x y e = cc

true_is_false : {b : Bool} → b ≡ true → b ≡ false → ⊥
true_is_false e f = absurd cc

-- ---- words

word_split : (bytes : List ℕ) → bytes ≡ word_in bytes ++ behind_word bytes
word_split [] = refl
word_split (b ∷ bytes) = elim (cases_Bool (word_byte b)) [
  | inl w ↦ rw w (ap (λ (x : List ℕ). b ∷ x) (word_split bytes))
  | inr n ↦ rw n refl
]

word_all : (bytes : List ℕ) → list_all word_byte (word_in bytes) ≡ true
word_all [] = refl
word_all (b ∷ bytes) = elim (cases_Bool (word_byte b)) [
  | inl w ↦ rw w (rw w (word_all bytes))
  | inr n ↦ rw n refl
]

word_ends : (bytes : List ℕ) → begins_with_word_byte (behind_word bytes) ≡ false
word_ends [] = refl
word_ends (b ∷ bytes) = elim (cases_Bool (word_byte b)) [
  | inl w ↦ rw w (word_ends bytes)
  | inr n ↦ rw n n
]

ends_in : (rest : List ℕ) → begins_with_word_byte rest ≡ false → word_in rest ≡ []
ends_in [] e = refl
ends_in (b ∷ rest) e = rw e refl

ends_behind : (rest : List ℕ) → begins_with_word_byte rest ≡ false → behind_word rest ≡ rest
ends_behind [] e = refl
ends_behind (b ∷ rest) e = rw e refl

whole_in : (word rest : List ℕ) → list_all word_byte word ≡ true → begins_with_word_byte rest ≡ false → word_in (word ++ rest) ≡ word
whole_in [] rest h e = ends_in rest e
whole_in (b ∷ word) rest h e = let p = and_parts (word_byte b) (list_all word_byte word) h in rw p.0 (ap (λ (x : List ℕ). b ∷ x) (whole_in word rest p.1 e))

whole_behind : (word rest : List ℕ) → list_all word_byte word ≡ true → begins_with_word_byte rest ≡ false → behind_word (word ++ rest) ≡ rest
whole_behind [] rest h e = ends_behind rest e
whole_behind (b ∷ word) rest h e = let p = and_parts (word_byte b) (list_all word_byte word) h in rw p.0 (whole_behind word rest p.1 e)

-- ---- names

differs : (a b : List ℕ) → a ≢ b → is_one a b ≡ false
differs a b unlike = elim (cases_Bool (is_one a b)) [ inl e ↦ absurd (unlike (same_text a b (sym e))) | inr e ↦ e ]

pub name_so : (name : List ℕ) → list_all word_byte name ≡ true → reserved_at name ≡ None → is_name name ≡ true → IsIdentifier name
name_so [] all none e = absurd cc
name_so (b ∷ name) all none e = record {
  grammar = record {
    not_empty = λ (same : b ∷ name ≡ []). absurd cc;
    word_bytes = all;
    no_digit_first = elim (cases_Bool (begins_with_digit (b ∷ name))) [ inl d ↦ absurd (let c : is_name (b ∷ name) ≡ false = rw d refl in true_is_false e c) | inr d ↦ d ];
    no_lone_underscore = λ same. true_is_false e (ap is_name same);
  };
  free = (unlike (codes "constant") refl, (unlike (codes "symbol") refl, (unlike (codes "rule") refl, (unlike (codes "let") refl, (unlike (codes "in") refl, (unlike (codes "TYPE") refl, tt))))));
}
  where
    unlike : (word : List ℕ) {token : Token} → reserved_at word ≡ Some token → b ∷ name ≢ word
    unlike word known same = some_is_none (sym known ∙ sym (ap reserved_at same) ∙ none)

name_reserved : (name : List ℕ) → IsNoneOf reserved_words name → reserved_at name ≡ None
name_reserved name h = rw (differs name (codes "constant") h.0, differs name (codes "symbol") h.1.0, differs name (codes "rule") h.1.1.0, differs name (codes "let") h.1.1.1.0, differs name (codes "in") h.1.1.1.1.0, differs name (codes "TYPE") h.1.1.1.1.1.0) refl

name_is : (name : List ℕ) → IsGrammarName name → is_name name ≡ true
name_is [] h = absurd (h.not_empty refl)
name_is (b ∷ name) h = rw (h.no_digit_first, differs (b ∷ name) (codes "_") h.no_lone_underscore) refl

-- what a word is
abbrev FineWord : List ℕ → Option Token → Type 0
FineWord word None = Unit {0}
FineWord word (Some token) = IsToken token × (word ≡ spelling token) × (is_word token ≡ true)

-- ---- what was read stands there

abbrev Fine : List ℕ → Option (Token × List ℕ) → Type 0
Fine bytes None = Unit {0}
Fine bytes (Some x) = Stands bytes x.0 x.1

reserved_fine : (word : List ℕ) (token : Token) → reserved_at word ≡ Some token → FineWord word (Some token)
reserved_fine word token e = elim (cases_Bool (is_one word (codes "constant"))) [
  | inl a ↦ known (codes "constant") a t.Constant refl (tt, refl, refl)
  | inr a ↦ elim (cases_Bool (is_one word (codes "symbol"))) [
    | inl b ↦ known (codes "symbol") b t.Symbol refl (tt, refl, refl)
    | inr b ↦ elim (cases_Bool (is_one word (codes "rule"))) [
      | inl c ↦ known (codes "rule") c t.Rule refl (tt, refl, refl)
      | inr c ↦ elim (cases_Bool (is_one word (codes "let"))) [
        | inl d ↦ known (codes "let") d t.Let refl (tt, refl, refl)
        | inr d ↦ elim (cases_Bool (is_one word (codes "in"))) [
          | inl f ↦ known (codes "in") f t.In refl (tt, refl, refl)
          | inr f ↦ elim (cases_Bool (is_one word (codes "TYPE"))) [
            | inl g ↦ known (codes "TYPE") g t.Sort refl (tt, refl, refl)
            | inr g ↦ absurd (let none : reserved_at word ≡ None = rw (a, b, c, d, f, g) refl in some_is_none (sym e ∙ none))
          ]
        ]
      ]
    ]
  ]
]
  where
    known : (other : List ℕ) → is_one word other ≡ true → (one : Token) → reserved_at other ≡ Some one → FineWord other (Some one) → FineWord word (Some token)
    known other same one is fine =
        let eq : word ≡ other = (bytes_decides word other).0 same in
        let tokens : one ≡ token = some_is one token (sym is ∙ sym (ap reserved_at eq) ∙ e) in
        subst (λ (x : Token). FineWord word (Some x)) tokens (subst (λ (x : List ℕ). FineWord x (Some one)) (sym eq) fine)

word_or_fine : (word : List ℕ) (o : Option Token) → list_all word_byte word ≡ true → reserved_at word ≡ o → FineWord word (word_or o word)
word_or_fine word (Some token) all e = reserved_fine word token e
word_or_fine word None all e = cond_both (is_name word) (Some (t.Name word)) None (FineWord word) (λ n. (name_so word all e n, refl, refl)) (λ n. tt)

word_fine : (bytes : List ℕ) (o : Option Token) → word_at (word_in bytes) ≡ o → FineWord (word_in bytes) o → Fine bytes (before_rest (behind_word bytes) o)
word_fine bytes None e h = tt
word_fine bytes (Some token) e h = record {
  is = h.0;
  front = word_split bytes ∙ ap (λ (x : List ℕ). x ++ behind_word bytes) h.1;
  whole = λ _. word_ends bytes;
}

pattern_fine : (bytes : List ℕ) (o : Option Token) → reserved_at (word_in bytes) ≡ o → Fine (36 ∷ bytes) (before_rest (behind_word bytes) (pattern_or o (word_in bytes)))
pattern_fine bytes (Some token) e = tt
pattern_fine bytes None e = cond_both (is_name (word_in bytes)) (Some (t.Pattern (word_in bytes))) None (λ o. Fine (36 ∷ bytes) (before_rest (behind_word bytes) o))
    (λ n. record {
      is = name_so (word_in bytes) (word_all bytes) e n;
      front = ap (λ (x : List ℕ). 36 ∷ x) (word_split bytes);
      whole = λ _. word_ends bytes;
    })
    (λ n. tt)

mark_stands : (bytes rest : List ℕ) (token : Token) → IsToken token → is_word token ≡ false → bytes ≡ spelling token ++ rest → Stands bytes token rest
mark_stands bytes rest token is mark e = record { is = is; front = e; whole = λ w. absurd (true_is_false w mark) }

mark_of_fine : (b : ℕ) (bytes : List ℕ) → Fine (b ∷ bytes) (before_rest bytes (mark_of b))
mark_of_fine b bytes =
    cond_both (eqb b 40) _ _ (λ o. Fine (b ∷ bytes) (before_rest bytes o)) (λ e. mark_stands (b ∷ bytes) bytes t.OpenBracket tt refl (ap (λ (x : ℕ). x ∷ bytes) (eqb-true b 40 e)))
    (λ _. cond_both (eqb b 41) _ _ (λ o. Fine (b ∷ bytes) (before_rest bytes o)) (λ e. mark_stands (b ∷ bytes) bytes t.CloseBracket tt refl (ap (λ (x : ℕ). x ∷ bytes) (eqb-true b 41 e)))
    (λ _. cond_both (eqb b 58) _ _ (λ o. Fine (b ∷ bytes) (before_rest bytes o)) (λ e. mark_stands (b ∷ bytes) bytes t.Colon tt refl (ap (λ (x : ℕ). x ∷ bytes) (eqb-true b 58 e)))
    (λ _. cond_both (eqb b 44) _ _ (λ o. Fine (b ∷ bytes) (before_rest bytes o)) (λ e. mark_stands (b ∷ bytes) bytes t.Comma tt refl (ap (λ (x : ℕ). x ∷ bytes) (eqb-true b 44 e)))
    (λ _. cond_both (eqb b 59) _ _ (λ o. Fine (b ∷ bytes) (before_rest bytes o)) (λ e. mark_stands (b ∷ bytes) bytes t.Semicolon tt refl (ap (λ (x : ℕ). x ∷ bytes) (eqb-true b 59 e)))
    (λ _. tt)))))

letter_fine : (bytes : List ℕ) → Fine (206 ∷ bytes) (letter_at bytes)
letter_fine [] = tt
letter_fine (b ∷ bytes) =
    cond_both (eqb b 187) _ _ (Fine (206 ∷ b ∷ bytes)) (λ e. mark_stands (206 ∷ b ∷ bytes) bytes t.Lambda tt refl (ap (λ (x : ℕ). 206 ∷ x ∷ bytes) (eqb-true b 187 e)))
    (λ _. cond_both (eqb b 160) _ _ (Fine (206 ∷ b ∷ bytes)) (λ e. mark_stands (206 ∷ b ∷ bytes) bytes t.Product tt refl (ap (λ (x : ℕ). 206 ∷ x ∷ bytes) (eqb-true b 160 e)))
    (λ _. tt))

two_bytes : (b c m n : ℕ) (bytes : List ℕ) → (eqb b m && eqb c n) ≡ true → 226 ∷ b ∷ c ∷ bytes ≡ 226 ∷ m ∷ n ∷ bytes
two_bytes b c m n bytes e = let p = and_parts (eqb b m) (eqb c n) e in rw (eqb-true b m p.0, eqb-true c n p.1) refl

arrow_fine : (bytes : List ℕ) → Fine (226 ∷ bytes) (arrow_at bytes)
arrow_fine [] = tt
arrow_fine (b ∷ []) = tt
arrow_fine (b ∷ c ∷ bytes) =
    cond_both (eqb b 134 && eqb c 146) _ _ (Fine (226 ∷ b ∷ c ∷ bytes)) (λ e. mark_stands (226 ∷ b ∷ c ∷ bytes) bytes t.Arrow tt refl (two_bytes b c 134 146 bytes e))
    (λ _. cond_both (eqb b 137 && eqb c 148) _ _ (Fine (226 ∷ b ∷ c ∷ bytes)) (λ e. mark_stands (226 ∷ b ∷ c ∷ bytes) bytes t.Defined tt refl (two_bytes b c 137 148 bytes e))
    (λ _. cond_both (eqb b 134 && eqb c 170) _ _ (Fine (226 ∷ b ∷ c ∷ bytes)) (λ e. mark_stands (226 ∷ b ∷ c ∷ bytes) bytes t.Rewrites tt refl (two_bytes b c 134 170 bytes e))
    (λ _. tt)))

mark_fine : (b : ℕ) (bytes : List ℕ) → Fine (b ∷ bytes) (mark_at b bytes)
mark_fine b bytes =
    cond_both (eqb b 206) _ _ (Fine (b ∷ bytes)) (λ e. subst (λ (x : ℕ). Fine (x ∷ bytes) (letter_at bytes)) (sym (eqb-true b 206 e)) (letter_fine bytes))
    (λ _. cond_both (eqb b 226) _ _ (Fine (b ∷ bytes)) (λ e. subst (λ (x : ℕ). Fine (x ∷ bytes) (arrow_at bytes)) (sym (eqb-true b 226 e)) (arrow_fine bytes))
    (λ _. mark_of_fine b bytes))

token_fine : (bytes : List ℕ) → Fine bytes (token_at bytes)
unfolding token_at
token_fine [] = tt
token_fine (b ∷ bytes) =
    cond_both (word_byte b) _ _ (Fine (b ∷ bytes)) (λ w. word_fine (b ∷ bytes) (word_at (word_in (b ∷ bytes))) refl (word_or_fine (word_in (b ∷ bytes)) (reserved_at (word_in (b ∷ bytes))) (word_all (b ∷ bytes)) refl))
    (λ _. cond_both (eqb b 36) _ _ (Fine (b ∷ bytes)) (λ e. subst (λ (x : ℕ). Fine (x ∷ bytes) (before_rest (behind_word bytes) (pattern_at (word_in bytes)))) (sym (eqb-true b 36 e)) (pattern_fine bytes (reserved_at (word_in bytes)) refl))
    (λ _. mark_fine b bytes))

pub token_stands : (bytes : List ℕ) (token : Token) (rest : List ℕ) → token_at bytes ≡ Some (token, rest) → Stands bytes token rest
token_stands bytes token rest e = subst (Fine bytes) e (token_fine bytes)

-- ---- what stands there is read

word_read : (word rest : List ℕ) (token : Token) → word ≢ [] → list_all word_byte word ≡ true → begins_with_word_byte rest ≡ false → word_at word ≡ Some token → token_at (word ++ rest) ≡ Some (token, rest)
unfolding token_at
word_read [] rest token some all ends e = absurd (some refl)
word_read (b ∷ word) rest token some all ends e =
    let p = and_parts (word_byte b) (list_all word_byte word) all in
    rw p.0 (rw (whole_in word rest p.1 ends, whole_behind word rest p.1 ends, e) refl)

pattern_read : (word rest : List ℕ) → IsIdentifier word → begins_with_word_byte rest ≡ false → token_at (36 ∷ (word ++ rest)) ≡ Some (t.Pattern word, rest)
unfolding token_at
pattern_read word rest h ends = rw (whole_in word rest h.grammar.word_bytes ends, whole_behind word rest h.grammar.word_bytes ends, name_reserved word h.free, name_is word h.grammar) refl

some_byte : {b : ℕ} {word : List ℕ} → b ∷ word ≢ []
some_byte e = absurd cc

spelled_reads : (token : Token) (rest : List ℕ) → IsToken token → (is_word token ≡ true → begins_with_word_byte rest ≡ false) → token_at (spelling token ++ rest) ≡ Some (token, rest)
unfolding token_at
spelled_reads t.Constant rest h w = word_read (codes "constant") rest t.Constant some_byte refl (w refl) refl
spelled_reads t.Symbol rest h w = word_read (codes "symbol") rest t.Symbol some_byte refl (w refl) refl
spelled_reads t.Rule rest h w = word_read (codes "rule") rest t.Rule some_byte refl (w refl) refl
spelled_reads t.Let rest h w = word_read (codes "let") rest t.Let some_byte refl (w refl) refl
spelled_reads t.In rest h w = word_read (codes "in") rest t.In some_byte refl (w refl) refl
spelled_reads t.Sort rest h w = word_read (codes "TYPE") rest t.Sort some_byte refl (w refl) refl
spelled_reads (t.Name name) rest h w = word_read name rest (t.Name name) h.grammar.not_empty h.grammar.word_bytes (w refl) (rw (name_reserved name h.free, name_is name h.grammar) refl)
spelled_reads (t.Pattern name) rest h w = pattern_read name rest h (w refl)
spelled_reads t.OpenBracket rest h w = refl
spelled_reads t.CloseBracket rest h w = refl
spelled_reads t.Colon rest h w = refl
spelled_reads t.Comma rest h w = refl
spelled_reads t.Semicolon rest h w = refl
spelled_reads t.Lambda rest h w = refl
spelled_reads t.Product rest h w = refl
spelled_reads t.Arrow rest h w = refl
spelled_reads t.Defined rest h w = refl
spelled_reads t.Rewrites rest h w = refl

pub stands_read : {bytes : List ℕ} {token : Token} {rest : List ℕ} → Stands bytes token rest → token_at bytes ≡ Some (token, rest)
stands_read {bytes} {token} {rest} h = ap token_at h.front ∙ spelled_reads token rest h.is h.whole

-- a token has a byte or more
pub stands_shorter : {bytes : List ℕ} {token : Token} {rest : List ℕ} → Stands bytes token rest → length rest < length bytes
stands_shorter {bytes} {token} {rest} h = let e = ap length h.front ∙ length-append (spelling token) rest in let some = first_is_long token h.is in omega arith
  where
    long_name : (name : List ℕ) → IsIdentifier name → 1 ≤ length name
    long_name [] k = absurd (k.grammar.not_empty refl)
    long_name (b ∷ name) k = omega arith

    first_is_long : (one : Token) → IsToken one → 1 ≤ length (spelling one)
    first_is_long (t.Name name) k = long_name name k
    first_is_long (t.Pattern name) k = omega arith
    first_is_long _ k = omega arith
