-- The token that is read is the one that stands in front, and nothing else is.
use Rattle.std.proofs.Common.{◌≡◌, ◌≢◌, ℕ, ◌≤◌, ◌<◌, Bool, true, false, ◌&&◌, eqb, List, [], ◌∷◌, ◌++◌, length, Option, Some, None, inl, inr, refl, sym, ap, subst, ◌∙◌, arith, length-append}
use Rattle.std.specs.Prelude.{codes}
use Rattle.std.specs.Cmp.Lexicographic.{bytes_decides, same_text}
use Rattle.std.specs.List.{list_all}
use Rattle.std.proofs.lemmas.Bool.{cond_both, cases_Bool, and_parts, eqb-true}
use Rattle.lp_term.specs.Identifiers.{word_byte}
use Rattle.lp_term.specs.Reserved.{begins_with_digit, IsGrammarName, IsNoneOf}
use Rattle.dedukti_read.specs.Scan.{word_in, behind_word, is_one, reserved_at, is_name, word_or, word_at, before_rest, mark_of, colon_at, dash_at, equals_at, mark_at, token_at}
use Rattle.dedukti_read.specs.Tokens.{IsIdentifier, IsToken, begins_with_equals, begins_with_word_byte, goes_on, grammar_words, spelling, Stands}
use Rattle.dedukti_read.specs.declared.token.Token.{Token}
use Rattle.dedukti_read.specs.declared.token.Token.TheVariants as t

some_is_none : {A : Type 0} {x : A} → Some x ≡ None → ⊥
some_is_none e = absurd cc

some_is : {A : Type 0} (x y : A) → Some x ≡ Some y → x ≡ y
some_is x y e = cc

true_is_false : {b : Bool} → b ≡ true → b ≡ false → ⊥
true_is_false e f = absurd cc

-- ---- words

word_split : (bytes : List ℕ) → bytes ≡ word_in bytes ++ behind_word bytes
word_split [] = refl
word_split (b ∷ bytes) = elim (cases_Bool (word_byte b)) [
  | inl w ↦ rw w (ap (λ (x : List ℕ). b ∷ x) (word_split bytes))
  | inr n ↦ rw n refl
]

word_all : (bytes : List ℕ) → list_all word_byte (word_in bytes) ≡ true
word_all [] = refl
word_all (b ∷ bytes) = elim (cases_Bool (word_byte b)) [
  | inl w ↦ rw w (rw w (word_all bytes))
  | inr n ↦ rw n refl
]

word_ends : (bytes : List ℕ) → begins_with_word_byte (behind_word bytes) ≡ false
word_ends [] = refl
word_ends (b ∷ bytes) = elim (cases_Bool (word_byte b)) [
  | inl w ↦ rw w (word_ends bytes)
  | inr n ↦ rw n n
]

ends_in : (rest : List ℕ) → begins_with_word_byte rest ≡ false → word_in rest ≡ []
ends_in [] e = refl
ends_in (b ∷ rest) e = rw e refl

ends_behind : (rest : List ℕ) → begins_with_word_byte rest ≡ false → behind_word rest ≡ rest
ends_behind [] e = refl
ends_behind (b ∷ rest) e = rw e refl

whole_in : (word rest : List ℕ) → list_all word_byte word ≡ true → begins_with_word_byte rest ≡ false → word_in (word ++ rest) ≡ word
whole_in [] rest h e = ends_in rest e
whole_in (b ∷ word) rest h e = let p = and_parts (word_byte b) (list_all word_byte word) h in rw p.0 (ap (λ (x : List ℕ). b ∷ x) (whole_in word rest p.1 e))

whole_behind : (word rest : List ℕ) → list_all word_byte word ≡ true → begins_with_word_byte rest ≡ false → behind_word (word ++ rest) ≡ rest
whole_behind [] rest h e = ends_behind rest e
whole_behind (b ∷ word) rest h e = let p = and_parts (word_byte b) (list_all word_byte word) h in rw p.0 (whole_behind word rest p.1 e)

-- ---- names

differs : (a b : List ℕ) → a ≢ b → is_one a b ≡ false
differs a b unlike = elim (cases_Bool (is_one a b)) [ inl e ↦ absurd (unlike (same_text a b (sym e))) | inr e ↦ e ]

pub name_so : (name : List ℕ) → list_all word_byte name ≡ true → reserved_at name ≡ None → is_name name ≡ true → IsIdentifier name
name_so [] all none e = absurd cc
name_so (b ∷ name) all none e = record {
  grammar = record {
    not_empty = λ (same : b ∷ name ≡ []). absurd cc;
    word_bytes = all;
    no_digit_first = elim (cases_Bool (begins_with_digit (b ∷ name))) [ inl d ↦ absurd (let c : is_name (b ∷ name) ≡ false = rw d refl in true_is_false e c) | inr d ↦ d ];
    no_lone_underscore = λ same. true_is_false e (ap is_name same);
  };
  free = (unlike (codes "def") refl, (unlike (codes "Type") refl, tt));
}
  where
    unlike : (word : List ℕ) {token : Token} → reserved_at word ≡ Some token → b ∷ name ≢ word
    unlike word known same = some_is_none (sym known ∙ sym (ap reserved_at same) ∙ none)

name_reserved : (name : List ℕ) → IsNoneOf grammar_words name → reserved_at name ≡ None
name_reserved name h = rw (differs name (codes "def") h.0, differs name (codes "Type") h.1.0) refl

name_is : (name : List ℕ) → IsGrammarName name → is_name name ≡ true
name_is [] h = absurd (h.not_empty refl)
name_is (b ∷ name) h = rw (h.no_digit_first, differs (b ∷ name) (codes "_") h.no_lone_underscore) refl

-- what a word is
abbrev FineWord : List ℕ → Option Token → Type 0
FineWord word None = Unit {0}
FineWord word (Some token) = IsToken token × (word ≡ spelling token) × ((rest : List ℕ) → begins_with_word_byte rest ≡ false → goes_on token rest ≡ false)

-- ---- what was read stands there

abbrev Fine : List ℕ → Option (Token × List ℕ) → Type 0
Fine bytes None = Unit {0}
Fine bytes (Some x) = Stands bytes x.0 x.1

reserved_fine : (word : List ℕ) (token : Token) → reserved_at word ≡ Some token → FineWord word (Some token)
reserved_fine word token e = elim (cases_Bool (is_one word (codes "def"))) [
  | inl a ↦ known (codes "def") a t.Def refl (tt, refl, λ rest ends. ends)
  | inr a ↦ elim (cases_Bool (is_one word (codes "Type"))) [
    | inl b ↦ known (codes "Type") b t.Sort refl (tt, refl, λ rest ends. ends)
    | inr b ↦ absurd (let none : reserved_at word ≡ None = rw (a, b) refl in some_is_none (sym e ∙ none))
  ]
]
  where
    known : (other : List ℕ) → is_one word other ≡ true → (one : Token) → reserved_at other ≡ Some one → FineWord other (Some one) → FineWord word (Some token)
    known other same one is fine =
        let eq : word ≡ other = (bytes_decides word other).0 same in
        let tokens : one ≡ token = some_is one token (sym is ∙ sym (ap reserved_at eq) ∙ e) in
        subst (λ (x : Token). FineWord word (Some x)) tokens (subst (λ (x : List ℕ). FineWord x (Some one)) (sym eq) fine)

word_or_fine : (word : List ℕ) (o : Option Token) → list_all word_byte word ≡ true → reserved_at word ≡ o → FineWord word (word_or o word)
word_or_fine word (Some token) all e = reserved_fine word token e
word_or_fine word None all e = cond_both (is_name word) (Some (t.Name word)) None (FineWord word) (λ n. (name_so word all e n, refl, λ rest ends. ends)) (λ n. tt)

word_fine : (bytes : List ℕ) (o : Option Token) → word_at (word_in bytes) ≡ o → FineWord (word_in bytes) o → Fine bytes (before_rest (behind_word bytes) o)
word_fine bytes None e h = tt
word_fine bytes (Some token) e h = record {
  is = h.0;
  front = word_split bytes ∙ ap (λ (x : List ℕ). x ++ behind_word bytes) h.1;
  whole = h.2 (behind_word bytes) (word_ends bytes);
}

mark_stands : (bytes rest : List ℕ) (token : Token) → IsToken token → goes_on token rest ≡ false → bytes ≡ spelling token ++ rest → Stands bytes token rest
mark_stands bytes rest token is mark e = record { is = is; front = e; whole = mark }

mark_of_fine : (b : ℕ) (bytes : List ℕ) → Fine (b ∷ bytes) (before_rest bytes (mark_of b))
mark_of_fine b bytes =
    cond_both (eqb b 40) _ _ (λ o. Fine (b ∷ bytes) (before_rest bytes o)) (λ e. mark_stands (b ∷ bytes) bytes t.OpenBracket tt refl (ap (λ (x : ℕ). x ∷ bytes) (eqb-true b 40 e)))
    (λ _. cond_both (eqb b 41) _ _ (λ o. Fine (b ∷ bytes) (before_rest bytes o)) (λ e. mark_stands (b ∷ bytes) bytes t.CloseBracket tt refl (ap (λ (x : ℕ). x ∷ bytes) (eqb-true b 41 e)))
    (λ _. cond_both (eqb b 91) _ _ (λ o. Fine (b ∷ bytes) (before_rest bytes o)) (λ e. mark_stands (b ∷ bytes) bytes t.OpenSquare tt refl (ap (λ (x : ℕ). x ∷ bytes) (eqb-true b 91 e)))
    (λ _. cond_both (eqb b 93) _ _ (λ o. Fine (b ∷ bytes) (before_rest bytes o)) (λ e. mark_stands (b ∷ bytes) bytes t.CloseSquare tt refl (ap (λ (x : ℕ). x ∷ bytes) (eqb-true b 93 e)))
    (λ _. cond_both (eqb b 44) _ _ (λ o. Fine (b ∷ bytes) (before_rest bytes o)) (λ e. mark_stands (b ∷ bytes) bytes t.Comma tt refl (ap (λ (x : ℕ). x ∷ bytes) (eqb-true b 44 e)))
    (λ _. cond_both (eqb b 46) _ _ (λ o. Fine (b ∷ bytes) (before_rest bytes o)) (λ e. mark_stands (b ∷ bytes) bytes t.Stop tt refl (ap (λ (x : ℕ). x ∷ bytes) (eqb-true b 46 e)))
    (λ _. tt))))))

colon_fine : (bytes : List ℕ) → Fine (58 ∷ bytes) (colon_at bytes)
colon_fine [] = mark_stands (58 ∷ []) [] t.Colon tt refl refl
colon_fine (b ∷ bytes) =
    cond_both (eqb b 61) _ _ (Fine (58 ∷ b ∷ bytes)) (λ e. mark_stands (58 ∷ b ∷ bytes) bytes t.Defined tt refl (ap (λ (x : ℕ). 58 ∷ x ∷ bytes) (eqb-true b 61 e)))
    (λ e. mark_stands (58 ∷ b ∷ bytes) (b ∷ bytes) t.Colon tt e refl)

two_bytes : (b c m n : ℕ) (bytes : List ℕ) → (eqb b m && eqb c n) ≡ true → 45 ∷ b ∷ c ∷ bytes ≡ 45 ∷ m ∷ n ∷ bytes
two_bytes b c m n bytes e = let p = and_parts (eqb b m) (eqb c n) e in rw (eqb-true b m p.0, eqb-true c n p.1) refl

dash_fine : (bytes : List ℕ) → Fine (45 ∷ bytes) (dash_at bytes)
dash_fine [] = tt
dash_fine (b ∷ []) =
    cond_both (eqb b 62) _ _ (Fine (45 ∷ b ∷ [])) (λ e. mark_stands (45 ∷ b ∷ []) [] t.Arrow tt refl (ap (λ (x : ℕ). 45 ∷ x ∷ []) (eqb-true b 62 e)))
    (λ _. tt)
dash_fine (b ∷ c ∷ bytes) =
    cond_both (eqb b 62) _ _ (Fine (45 ∷ b ∷ c ∷ bytes)) (λ e. mark_stands (45 ∷ b ∷ c ∷ bytes) (c ∷ bytes) t.Arrow tt refl (ap (λ (x : ℕ). 45 ∷ x ∷ c ∷ bytes) (eqb-true b 62 e)))
    (λ _. cond_both (eqb b 45 && eqb c 62) _ _ (Fine (45 ∷ b ∷ c ∷ bytes)) (λ e. mark_stands (45 ∷ b ∷ c ∷ bytes) bytes t.Rewrites tt refl (two_bytes b c 45 62 bytes e))
    (λ _. tt))

equals_fine : (bytes : List ℕ) → Fine (61 ∷ bytes) (equals_at bytes)
equals_fine [] = tt
equals_fine (b ∷ bytes) =
    cond_both (eqb b 62) _ _ (Fine (61 ∷ b ∷ bytes)) (λ e. mark_stands (61 ∷ b ∷ bytes) bytes t.Maps tt refl (ap (λ (x : ℕ). 61 ∷ x ∷ bytes) (eqb-true b 62 e)))
    (λ _. tt)

mark_fine : (b : ℕ) (bytes : List ℕ) → Fine (b ∷ bytes) (mark_at b bytes)
mark_fine b bytes =
    cond_both (eqb b 58) _ _ (Fine (b ∷ bytes)) (λ e. subst (λ (x : ℕ). Fine (x ∷ bytes) (colon_at bytes)) (sym (eqb-true b 58 e)) (colon_fine bytes))
    (λ _. cond_both (eqb b 45) _ _ (Fine (b ∷ bytes)) (λ e. subst (λ (x : ℕ). Fine (x ∷ bytes) (dash_at bytes)) (sym (eqb-true b 45 e)) (dash_fine bytes))
    (λ _. cond_both (eqb b 61) _ _ (Fine (b ∷ bytes)) (λ e. subst (λ (x : ℕ). Fine (x ∷ bytes) (equals_at bytes)) (sym (eqb-true b 61 e)) (equals_fine bytes))
    (λ _. mark_of_fine b bytes)))

token_fine : (bytes : List ℕ) → Fine bytes (token_at bytes)
unfolding token_at
token_fine [] = tt
token_fine (b ∷ bytes) =
    cond_both (word_byte b) _ _ (Fine (b ∷ bytes)) (λ w. word_fine (b ∷ bytes) (word_at (word_in (b ∷ bytes))) refl (word_or_fine (word_in (b ∷ bytes)) (reserved_at (word_in (b ∷ bytes))) (word_all (b ∷ bytes)) refl))
    (λ _. mark_fine b bytes)

pub token_stands : (bytes : List ℕ) (token : Token) (rest : List ℕ) → token_at bytes ≡ Some (token, rest) → Stands bytes token rest
token_stands bytes token rest e = subst (Fine bytes) e (token_fine bytes)

-- ---- what stands there is read

word_read : (word rest : List ℕ) (token : Token) → word ≢ [] → list_all word_byte word ≡ true → begins_with_word_byte rest ≡ false → word_at word ≡ Some token → token_at (word ++ rest) ≡ Some (token, rest)
unfolding token_at
word_read [] rest token some all ends e = absurd (some refl)
word_read (b ∷ word) rest token some all ends e =
    let p = and_parts (word_byte b) (list_all word_byte word) all in
    rw p.0 (rw (whole_in word rest p.1 ends, whole_behind word rest p.1 ends, e) refl)

some_byte : {b : ℕ} {word : List ℕ} → b ∷ word ≢ []
some_byte e = absurd cc

colon_read : (rest : List ℕ) → begins_with_equals rest ≡ false → colon_at rest ≡ Some (t.Colon, rest)
colon_read [] e = refl
colon_read (b ∷ rest) e = rw e refl

dash_read : (rest : List ℕ) → dash_at (62 ∷ rest) ≡ Some (t.Arrow, rest)
dash_read [] = refl
dash_read (b ∷ rest) = refl

spelled_reads : (token : Token) (rest : List ℕ) → IsToken token → goes_on token rest ≡ false → token_at (spelling token ++ rest) ≡ Some (token, rest)
unfolding token_at
spelled_reads t.Def rest h w = word_read (codes "def") rest t.Def some_byte refl w refl
spelled_reads t.Sort rest h w = word_read (codes "Type") rest t.Sort some_byte refl w refl
spelled_reads (t.Name name) rest h w = word_read name rest (t.Name name) h.grammar.not_empty h.grammar.word_bytes w (rw (name_reserved name h.free, name_is name h.grammar) refl)
spelled_reads t.OpenBracket rest h w = refl
spelled_reads t.CloseBracket rest h w = refl
spelled_reads t.OpenSquare rest h w = refl
spelled_reads t.CloseSquare rest h w = refl
spelled_reads t.Colon rest h w = colon_read rest w
spelled_reads t.Comma rest h w = refl
spelled_reads t.Stop rest h w = refl
spelled_reads t.Defined rest h w = refl
spelled_reads t.Arrow rest h w = dash_read rest
spelled_reads t.Rewrites rest h w = refl
spelled_reads t.Maps rest h w = refl

pub stands_read : {bytes : List ℕ} {token : Token} {rest : List ℕ} → Stands bytes token rest → token_at bytes ≡ Some (token, rest)
stands_read {bytes} {token} {rest} h = ap token_at h.front ∙ spelled_reads token rest h.is h.whole

-- a token has a byte or more
pub stands_shorter : {bytes : List ℕ} {token : Token} {rest : List ℕ} → Stands bytes token rest → length rest < length bytes
stands_shorter {bytes} {token} {rest} h = let e = ap length h.front ∙ length-append (spelling token) rest in let some = first_is_long token h.is in omega arith
  where
    long_name : (name : List ℕ) → IsIdentifier name → 1 ≤ length name
    long_name [] k = absurd (k.grammar.not_empty refl)
    long_name (b ∷ name) k = omega arith

    first_is_long : (one : Token) → IsToken one → 1 ≤ length (spelling one)
    first_is_long (t.Name name) k = long_name name k
    first_is_long _ k = omega arith
