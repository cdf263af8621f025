-- One step of reading.
use Rattle.std.proofs.Common.{◌≡◌, ℕ, suc, ◌-◌, ◌+◌, ◌<◌, ◌≤◌, ◌++◌, Bool, true, List, [], ◌∷◌, Option, Some, None, reverse, refl, ap, append_assoc, arith}
use Rattle.std.proofs.lemmas.List.{reverse-append}
use Rattle.std.proofs.lemmas.Grind.{common_steps}
use Rattle.tptp_tokens.specs.declared.Token.{Token}
use Rattle.tptp_formulas.specs.Reading.{◌>>=◌, Reader}
use Rattle.tptp_text.specs.declared.item.Source.{Source}
use Rattle.tptp_text.specs.Sources.{entry_status, first_of}
use Rattle.tptp_text.specs.ReadingItems.{terms_end, terms_at}
use Rattle.tptp_text.specs.Reading.{opaque, more_entries, entries_at, parent_with, more_parents, parents_at, form_at, fitting, or_other, source_at}

pub reverse_push : (xs : List Bool) (b : Bool) → reverse (xs ++ b ∷ []) ≡ b ∷ reverse xs
reverse_push xs b = reverse-append xs (b ∷ [])

-- ---- lists of terms

-- the status before, and what is still read
abbrev pub with_status : Option (List ℕ) → Option (Option (List ℕ) × List Token) → Option (Option (List ℕ) × List Token)
with_status before None = None
with_status before (Some x) = Some (first_of before x.0, x.1)

pub status_none : (read : Option (Option (List ℕ) × List Token)) → with_status None read ≡ read
status_none None = refl
status_none (Some x) = refl

pub status_more : (before here : Option (List ℕ)) (read : Option (Option (List ℕ) × List Token)) → with_status before (read >>= λ later. Some (first_of here later.0, later.1)) ≡ with_status (first_of before here) read
status_more before here None = refl
status_more None here (Some x) = refl
status_more (Some status) here (Some x) = refl

pub entries_layer : (n i : ℕ) (ts : List Token) → i < n → entries_at (n - i) ts ≡ (opaque ts >>= more_entries (entries_at (n - (i + 1))) (entry_status ts))
unfolding entries_at
entries_layer n i ts lt = let e : n - i ≡ suc (n - (i + 1)) = omega arith in ap (λ (k : ℕ). entries_at k ts) e

pub entries_none : (n i : ℕ) (ts : List Token) → n ≤ i → entries_at (n - i) ts ≡ None
unfolding entries_at
entries_none n i ts le = let e : n - i ≡ 0 = omega arith in ap (λ (k : ℕ). entries_at k ts) e

-- ---- parents

-- what was read before, and what is still read
abbrev pub with_front : {A : Type 0} → List A → Option (List A × List Token) → Option (List A × List Token)
with_front front None = None
with_front front (Some x) = Some (front ++ x.0, x.1)

pub front_more : {A : Type 0} (front : List A) (first : A) (read : Option (List A × List Token)) → with_front front (read >>= λ rest. Some (first ∷ rest.0, rest.1)) ≡ with_front (front ++ first ∷ []) read
front_more front first None = refl
front_more {A} front first (Some x) = ap (λ (ns : List A). Some (ns, x.1)) (simp append_assoc)

pub parents_layer : (one : Reader Source) (n i : ℕ) (ts : List Token) → i < n → parents_at (n - i) one ts ≡ (parent_with one ts >>= λ first. more_parents (parents_at (n - (i + 1)) one) first.0 first.1)
unfolding parents_at
parents_layer one n i ts lt = let e : n - i ≡ suc (n - (i + 1)) = omega arith in ap (λ (k : ℕ). parents_at k one ts) e

pub parents_none : (one : Reader Source) (n i : ℕ) (ts : List Token) → n ≤ i → parents_at (n - i) one ts ≡ None
unfolding parents_at
parents_none one n i ts le = let e : n - i ≡ 0 = omega arith in ap (λ (k : ℕ). parents_at k one ts) e

-- ---- sources

pub source_none : (n : ℕ) (in_parent : Bool) (ts : List Token) → n ≡ 0 → source_at n in_parent ts ≡ None
unfolding source_at
source_none n in_parent ts e = rw e refl

pub source_layer : (n : ℕ) (in_parent : Bool) (ts : List Token) → 0 < n → source_at n in_parent ts ≡ or_other in_parent ts (fitting in_parent (form_at (source_at (n - 1) true) ts))
unfolding source_at
source_layer n in_parent ts lt = let e : n ≡ suc (n - 1) = omega arith in ap (λ (k : ℕ). source_at k in_parent ts) e

-- ---- items

pub terms_layer : (n i : ℕ) (ts : List Token) → i < n → terms_at (n - i) ts ≡ (opaque ts >>= terms_end (terms_at (n - (i + 1))))
unfolding terms_at
terms_layer n i ts lt = let e : n - i ≡ suc (n - (i + 1)) = omega arith in ap (λ (k : ℕ). terms_at k ts) e

pub terms_none : (n i : ℕ) (ts : List Token) → n ≤ i → terms_at (n - i) ts ≡ None
unfolding terms_at
terms_none n i ts le = let e : n - i ≡ 0 = omega arith in ap (λ (k : ℕ). terms_at k ts) e

pub ruleset layers = (common_steps, reverse_push)

pub ruleset sources = (common_steps, status_none, status_more, entries_layer, entries_none, front_more, parents_layer, parents_none, source_none, source_layer)

pub ruleset items = (common_steps, terms_layer, terms_none)
