-- Identifiers of different symbols differ.
use Rattle.std.proofs.Common.{◌≡◌, refl, sym, ◌∙◌, ap, subst, ℕ, ◌<◌, Bool, true, false, if◌then◌else◌, List, [], ◌∷◌, ◌++◌, codes, decimal, arith}
use Rattle.std.specs.Str.Parse.{AllDigits}
use Rattle.std.specs.Char.{digit_value}
use Rattle.std.proofs.lemmas.Fmt.{decimal_injective, decimal_is_IsNumeral}
use Rattle.hex.specs.Hex.{IsBytes, decode_of, encode_lower}
use Rattle.hex.proofs.HexLemmas.{decode_of-encode_lower}
use Rattle.dk_syntax.specs.declared.Kind.{Kind}
use Rattle.dk_syntax.specs.declared.Kind.TheVariants.{Function, Predicate}
use Rattle.dk_syntax.specs.declared.SymKey.{SymKey}
use Rattle.lp_term.specs.Identifiers.{identifier_of, kind_letter, lower_word, name_text}
use Rattle.lp_term.specs.Reserved.{IsSymbol}

kind_letter-injective : (j k : Kind) → kind_letter j ≡ kind_letter k → j ≡ k
kind_letter-injective Function Function e = refl
kind_letter-injective Function Predicate e = absurd (omega arith)
kind_letter-injective Predicate Function e = absurd (omega arith)
kind_letter-injective Predicate Predicate e = refl

underscore_no_digit : (c : ℕ) → digit_value c < 10 → c ≡ 95 → ⊥
underscore_no_digit c h e = let g : digit_value 95 < 10 = subst (λ d. digit_value d < 10) e h in omega arith

-- digits before an underscore are read back
digits_split : (xs ys us vs : List ℕ) → AllDigits 10 xs → AllDigits 10 ys
    → xs ++ (95 ∷ us) ≡ ys ++ (95 ∷ vs) → (xs ≡ ys) × (us ≡ vs)
digits_split [] [] us vs h k e = (refl, cc)
digits_split [] (y ∷ ys) us vs h k e = absurd (underscore_no_digit y k.0 (cc))
digits_split (x ∷ xs) [] us vs h k e = absurd (underscore_no_digit x h.0 (cc))
digits_split (x ∷ xs) (y ∷ ys) us vs h k e =
    let first : x ≡ y = cc in
    let rest : xs ++ (95 ∷ us) ≡ ys ++ (95 ∷ vs) = cc in
    let both = digits_split xs ys us vs h.1 k.1 rest in
    let tails : xs ≡ ys = both.0 in
    (cc, both.1)

encode_lower-injective : (a b : List ℕ) → IsBytes a → IsBytes b → encode_lower a ≡ encode_lower b → a ≡ b
encode_lower-injective a b ha hb e =
    let there = decode_of-encode_lower a ha in
    let back = decode_of-encode_lower b hb in
    let same : decode_of (encode_lower a) ≡ decode_of (encode_lower b) = ap decode_of e in
    cc (there, back, same)

texts_by_case : (i j : Bool) (a b : List ℕ) → lower_word a ≡ i → lower_word b ≡ j → IsBytes a → IsBytes b
    → (if i then a else codes "Q" ++ encode_lower a) ≡ (if j then b else codes "Q" ++ encode_lower b) → a ≡ b
texts_by_case true true a b la lb ha hb e = e
texts_by_case true false a b la lb ha hb e = let no : false ≡ true = sym (ap lower_word e) ∙ la in cc
texts_by_case false true a b la lb ha hb e = let no : false ≡ true = ap lower_word e ∙ lb in cc
texts_by_case false false a b la lb ha hb e = encode_lower-injective a b ha hb (cc)

name_text-injective : (a b : List ℕ) → IsBytes a → IsBytes b → name_text a ≡ name_text b → a ≡ b
name_text-injective a b ha hb e = texts_by_case (lower_word a) (lower_word b) a b refl refl ha hb e

symbol_from : List ℕ → ℕ → Kind → SymKey
symbol_from name arity kind = record { name = name; arity = arity; kind = kind }

same_parts : (s t : SymKey) → s.name ≡ t.name → s.arity ≡ t.arity → s.kind ≡ t.kind → s ≡ t
unfolding symbol_from
same_parts s t a b c =
    ap (λ x. symbol_from x s.arity s.kind) a
    ∙ ap (λ x. symbol_from t.name x s.kind) b
    ∙ ap (λ x. symbol_from t.name t.arity x) c

pub identifier_of-injective : (s t : SymKey) → IsSymbol s → IsSymbol t → identifier_of s ≡ identifier_of t → s ≡ t
identifier_of-injective s t hs ht e =
    let kinds : kind_letter s.kind ≡ kind_letter t.kind = cc in
    let rest : decimal s.arity ++ (95 ∷ name_text s.name) ≡ decimal t.arity ++ (95 ∷ name_text t.name) = cc in
    let split = digits_split (decimal s.arity) (decimal t.arity) (name_text s.name) (name_text t.name)
    (decimal_is_IsNumeral s.arity (omega (arith, hs.arity_fits))).0.1 (decimal_is_IsNumeral t.arity (omega (arith, ht.arity_fits))).0.1 rest in
    same_parts s t (name_text-injective s.name t.name hs.name_is_bytes ht.name_is_bytes split.1)
    (decimal_injective s.arity t.arity (omega (arith, hs.arity_fits)) (omega (arith, ht.arity_fits)) split.0)
    (kind_letter-injective s.kind t.kind kinds)
