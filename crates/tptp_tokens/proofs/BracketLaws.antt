-- Counting brackets token by token finds where too many are unclosed, and nothing else.
use Rattle.std.proofs.Common.{◌≡◌, ℕ, zero, suc, ◌+◌, ◌-◌, ◌<◌, ◌≤◌, Bool, true, false, cond, eqb, ◌↔◌, List, [], ◌∷◌, take, fold, inl, inr, refl, sym, subst, ◌∙◌, arith}
use Rattle.std.proofs.lemmas.Bool.{cases_Bool, eqb-true, eqb-false}
use Rattle.tptp_tokens.specs.declared.token.Token.{Token}
use Rattle.tptp_tokens.specs.declared.token.Token.TheVariants as t
use Rattle.tptp_tokens.specs.Brackets.{too_deep}
use Rattle.tptp_tokens.specs.Nesting.{IsTooDeep, unclosed_behind}

-- behind some of the tokens, before which so many brackets are unclosed, more than 1,000 are
abbrev IsDeepFrom : ℕ → List Token → Type 0
IsDeepFrom n tokens = (count : ℕ) × (1000 < fold unclosed_behind n (take count tokens))

not_yet : (full rest : Bool) → full ≡ false → cond full true rest ≡ true → rest ≡ true
not_yet true rest free e = absurd cc
not_yet false rest free e = e

one_more : (n : ℕ) (token : Token) (tokens : List Token) → IsDeepFrom (unclosed_behind n token) tokens → IsDeepFrom n (token ∷ tokens)
one_more n token tokens (count, deep) = (suc count, deep)

-- what is counted is there
opened : (n : ℕ) (token : Token) (tokens : List Token) → unclosed_behind n token ≡ n + 1 → n ≤ 1000 → cond (eqb n 1000) true (too_deep (n + 1) tokens) ≡ true
    → (too_deep (n + 1) tokens ≡ true → n + 1 ≤ 1000 → IsDeepFrom (n + 1) tokens) → IsDeepFrom n (token ∷ tokens)
opened n token tokens opens few e more = elim (cases_Bool (eqb n 1000)) [
  | inl full ↦ let here = eqb-true n 1000 full in (1, (let deep : 1000 < unclosed_behind n token = omega arith in deep))
  | inr free ↦
      let not_here = eqb-false n 1000 free in
      one_more n token tokens (subst (λ (k : ℕ). IsDeepFrom k tokens) (sym opens) (more (not_yet (eqb n 1000) (too_deep (n + 1) tokens) free e) (omega arith)))
]

deep_so : (n : ℕ) (tokens : List Token) → n ≤ 1000 → too_deep n tokens ≡ true → IsDeepFrom n tokens
unfolding too_deep
deep_so n [] few e = absurd cc
deep_so n (t.OpenRound ∷ tokens) few e = opened n t.OpenRound tokens refl few e (λ deep less. deep_so (n + 1) tokens less deep)
deep_so n (t.OpenSquare ∷ tokens) few e = opened n t.OpenSquare tokens refl few e (λ deep less. deep_so (n + 1) tokens less deep)
deep_so n (t.CloseRound ∷ tokens) few e = one_more n t.CloseRound tokens (deep_so (n - 1) tokens (omega arith) e)
deep_so n (t.CloseSquare ∷ tokens) few e = one_more n t.CloseSquare tokens (deep_so (n - 1) tokens (omega arith) e)
deep_so n (token ∷ tokens) few e = one_more n token tokens (deep_so n tokens few e)

-- what is there is counted
deep_only : (n : ℕ) (tokens : List Token) (count : ℕ) → n ≤ 1000 → 1000 < fold unclosed_behind n (take count tokens) → too_deep n tokens ≡ true
unfolding too_deep
deep_only n tokens zero few deep = absurd (let none : 1000 < n = deep in omega arith)
deep_only n [] (suc count) few deep = absurd (let none : 1000 < n = deep in omega arith)
deep_only n (t.OpenRound ∷ tokens) (suc count) few deep = elim (cases_Bool (eqb n 1000)) [
  | inl full ↦ rw full refl
  | inr free ↦ rw free (let not_here = eqb-false n 1000 free in deep_only (n + 1) tokens count (omega arith) deep)
]
deep_only n (t.OpenSquare ∷ tokens) (suc count) few deep = elim (cases_Bool (eqb n 1000)) [
  | inl full ↦ rw full refl
  | inr free ↦ rw free (let not_here = eqb-false n 1000 free in deep_only (n + 1) tokens count (omega arith) deep)
]
deep_only n (t.CloseRound ∷ tokens) (suc count) few deep = deep_only (n - 1) tokens count (omega arith) deep
deep_only n (t.CloseSquare ∷ tokens) (suc count) few deep = deep_only (n - 1) tokens count (omega arith) deep
deep_only n (token ∷ tokens) (suc count) few deep = deep_only n tokens count few deep

-- a count that has ended
pub deep_counted : (found : Bool) (tokens : List Token) → found ≡ too_deep 0 tokens → (found ≡ true) ↔ IsTooDeep tokens
deep_counted found tokens e = (λ so. deep_so 0 tokens (omega arith) (sym e ∙ so), λ (count, deep). e ∙ deep_only 0 tokens count (omega arith) deep)

-- the count says so exactly where it is so
pub is_deep : (tokens : List Token) → too_deep 0 tokens ≡ true → IsTooDeep tokens
is_deep tokens so = deep_so 0 tokens (omega arith) so

pub counts_deep : (tokens : List Token) → IsTooDeep tokens → too_deep 0 tokens ≡ true
counts_deep tokens (count, deep) = deep_only 0 tokens count (omega arith) deep

pub counts_flat : (tokens : List Token) → (IsTooDeep tokens → ⊥) → too_deep 0 tokens ≡ false
counts_flat tokens flat = elim (cases_Bool (too_deep 0 tokens)) [
  | inl so ↦ absurd (flat (is_deep tokens so))
  | inr free ↦ free
]

pub is_flat : (tokens : List Token) → too_deep 0 tokens ≡ false → IsTooDeep tokens → ⊥
is_flat tokens free deep = let so = counts_deep tokens deep in cc

-- a test that says so is the count
pub is_counted : (found : Bool) (tokens : List Token) → ((found ≡ true) ↔ IsTooDeep tokens) → found ≡ too_deep 0 tokens
is_counted true tokens same = sym (counts_deep tokens (same.0 refl))
is_counted false tokens same = sym (counts_flat tokens (λ deep. let so = same.1 deep in cc))
