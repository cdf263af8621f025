-- One layer of reading, and what a loop has read.
use Rattle.std.proofs.Common.{◌≡◌, ℕ, suc, ◌-◌, ◌+◌, ◌<◌, ◌≤◌, ◌++◌, List, [], ◌∷◌, Option, Some, None, refl, ap, append_assoc, arith}
use Rattle.std.proofs.lemmas.Grind.{common_steps}
use Rattle.tptp_tokens.specs.declared.Token.{Token}
use Rattle.tptp_formulas.specs.declared.raw.Link.{Link}
use Rattle.tptp_formulas.specs.declared.raw.Raw.{Raw}
use Rattle.tptp_formulas.specs.declared.raw.RawTerm.{RawTerm, the_lemmas as of_terms}
use Rattle.tptp_formulas.specs.Reading.{◌>>=◌, Reader, formula_at, formula_with, more_terms, more_units, prefixes_at, prefixes_with, term_at, term_with, terms_at, units_at}

pub term_none : (n : ℕ) (ts : List Token) → n ≡ 0 → term_at n ts ≡ None
unfolding term_at
term_none n ts e = rw e refl

pub term_layer : (n : ℕ) (ts : List Token) → 0 < n → term_at n ts ≡ term_with (term_at (n - 1)) ts
unfolding term_at
term_layer n ts lt = let e : n ≡ suc (n - 1) = omega arith in ap (λ (k : ℕ). term_at k ts) e

-- what was read before, and what is still read
abbrev pub with_front : {A : Type 0} → List A → Option (List A × List Token) → Option (List A × List Token)
with_front front None = None
with_front front (Some x) = Some (front ++ x.0, x.1)

pub terms_layer : (one : Reader RawTerm) (n i : ℕ) (ts : List Token) → i < n → terms_at (n - i) one ts ≡ (one ts >>= λ first. more_terms (terms_at (n - (i + 1)) one) first.0 first.1)
unfolding terms_at
terms_layer one n i ts lt = let e : n - i ≡ suc (n - (i + 1)) = omega arith in ap (λ (k : ℕ). terms_at k one ts) e

pub terms_none : (one : Reader RawTerm) (n i : ℕ) (ts : List Token) → n ≤ i → terms_at (n - i) one ts ≡ None
unfolding terms_at
terms_none one n i ts le = let e : n - i ≡ 0 = omega arith in ap (λ (k : ℕ). terms_at k one ts) e

pub front_more : {A : Type 0} (front : List A) (first : A) (read : Option (List A × List Token)) → with_front front (read >>= λ rest. Some (first ∷ rest.0, rest.1)) ≡ with_front (front ++ first ∷ []) read
front_more front first None = refl
front_more {A} front first (Some x) = ap (λ (ns : List A). Some (ns, x.1)) (simp append_assoc)

pub formula_none : (n : ℕ) (ts : List Token) → n ≡ 0 → formula_at n ts ≡ None
unfolding formula_at
formula_none n ts e = rw e refl

pub formula_layer : (n : ℕ) (ts : List Token) → 0 < n → formula_at n ts ≡ formula_with (formula_at (n - 1)) ts
unfolding formula_at
formula_layer n ts lt = let e : n ≡ suc (n - 1) = omega arith in ap (λ (k : ℕ). formula_at k ts) e

pub prefixes_layer : (n i : ℕ) (ts : List Token) → i < n → prefixes_at (n - i) ts ≡ prefixes_with (prefixes_at (n - (i + 1))) ts
unfolding prefixes_at
prefixes_layer n i ts lt = let e : n - i ≡ suc (n - (i + 1)) = omega arith in ap (λ (k : ℕ). prefixes_at k ts) e

pub prefixes_none : (n i : ℕ) (ts : List Token) → n ≤ i → prefixes_at (n - i) ts ≡ None
unfolding prefixes_at
prefixes_none n i ts le = let e : n - i ≡ 0 = omega arith in ap (λ (k : ℕ). prefixes_at k ts) e

pub units_layer : (one : Reader Raw) (link : Link) (n i : ℕ) (ts : List Token) → i < n → units_at (n - i) one link ts ≡ (one ts >>= λ first. more_units (units_at (n - (i + 1)) one link) link first.0 first.1)
unfolding units_at
units_layer one link n i ts lt = let e : n - i ≡ suc (n - (i + 1)) = omega arith in ap (λ (k : ℕ). units_at k one link ts) e

pub units_none : (one : Reader Raw) (link : Link) (n i : ℕ) (ts : List Token) → n ≤ i → units_at (n - i) one link ts ≡ None
unfolding units_at
units_none one link n i ts le = let e : n - i ≡ 0 = omega arith in ap (λ (k : ℕ). units_at k one link ts) e

pub ruleset term_steps = (common_steps, term_none, term_layer, terms_layer, terms_none, front_more)

pub ruleset atom_steps = (common_steps, of_terms)

pub ruleset formula_steps = (common_steps, formula_none, formula_layer, prefixes_layer, prefixes_none, units_layer, units_none, front_more)
