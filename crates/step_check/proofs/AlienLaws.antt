-- Symbols in lists of symbols by first occurrence.
use Rattle.std.proofs.Common.{◌≡◌, ◌+◌, ◌<◌, ℕ, Bool, true, false, ◌||◌, List, [], ◌∷◌, ◌++◌, length, map, drop, get_or, cond, if◌then◌else◌, refl, sym, ap, ap₂, ◌∙◌, subst, add-one, drop-cons}
use Rattle.std.specs.Prelude.{filter}
use Rattle.std.proofs.Math.Bool.{or_assoc}
use Rattle.std.proofs.lemmas.List.Folds.{list_any-append}
use Rattle.std.specs.List.{list_any}
use Rattle.dk_syntax.proofs.SymbolLaws.{symbols_same}
use Rattle.dk_syntax.specs.Symbols.{first_symbols, formula_occurrences, joined, same_symbol, with_symbol, with_symbols}
use Rattle.dk_syntax.specs.declared.Formula.{Formula}
use Rattle.dk_syntax.specs.declared.SymKey.{SymKey}
use Rattle.step_check.specs.Steps.{stands_in}

or_true : (a : Bool) → (a || true) ≡ true
or_true true = refl
or_true false = refl

or_false : (a : Bool) → (a || false) ≡ a
or_false true = refl
or_false false = refl

one_more : (seen : List SymKey) (x s : SymKey) → stands_in (with_symbol seen x) s ≡ stands_in seen s || same_symbol s x
one_more seen x s = by_test (stands_in seen x) refl
  where
    there : (same : Bool) → same_symbol s x ≡ same → stands_in seen x ≡ true → stands_in seen s ≡ stands_in seen s || same
    there true e h = let at : stands_in seen s ≡ true = ap (stands_in seen) (symbols_same s x e) ∙ h in at ∙ sym (or_true (stands_in seen s))
    there false e h = sym (or_false (stands_in seen s))

    by_test : (test : Bool) → stands_in seen x ≡ test → stands_in (with_symbol seen x) s ≡ stands_in seen s || same_symbol s x
    by_test true h = ap (λ b. stands_in (if b then seen else seen ++ x ∷ []) s) h ∙ there (same_symbol s x) refl h
    by_test false h =
        ap (λ b. stands_in (if b then seen else seen ++ x ∷ []) s) h
        ∙ (list_any-append (same_symbol s) seen (x ∷ []) ∙ ap (λ b. stands_in seen s || b) (or_false (same_symbol s x)))

pub many_more : (seen list : List SymKey) (s : SymKey) → stands_in (with_symbols seen list) s ≡ stands_in seen s || stands_in list s
many_more seen [] s = sym (or_false (stands_in seen s))
many_more seen (x ∷ list) s =
    many_more (with_symbol seen x) list s
    ∙ (ap (λ b. b || stands_in list s) (one_more seen x s) ∙ or_assoc (stands_in seen s) (same_symbol s x) (stands_in list s))

-- a formula's symbols are added
pub formula_more : (seen : List SymKey) (f : Formula) (s : SymKey) → stands_in (with_symbols seen (formula_occurrences f)) s ≡ stands_in seen s || stands_in (first_symbols f) s
formula_more seen f s = many_more seen (formula_occurrences f) s ∙ ap (λ b. stands_in seen s || b) (sym (many_more [] (formula_occurrences f) s))

-- the symbols of one list more, of lists that are joined
pub joined_more : (f : ℕ → List SymKey) (numbers : List ℕ) (i : ℕ) (old new : List SymKey) → i < length numbers
    → ((s : SymKey) → stands_in new s ≡ stands_in old s || stands_in (f (get_or numbers i 0)) s) → (s : SymKey)
    → (stands_in new s || stands_in (joined (map f (drop (i + 1) numbers))) s) ≡ (stands_in old s || stands_in (joined (map f (drop i numbers))) s)
joined_more f numbers i old new below h s =
    let n = get_or numbers i 0 in
    let rest = joined (map f (drop (i + 1) numbers)) in
    let split : drop i numbers ≡ n ∷ drop (i + 1) numbers = drop-cons numbers i 0 below ∙ ap (λ k. n ∷ drop k numbers) (sym (add-one i)) in
    ap (λ b. b || stands_in rest s) (h s)
    ∙ (or_assoc (stands_in old s) (stands_in (f n) s) (stands_in rest s)
    ∙ (ap (λ b. stands_in old s || b) (sym (list_any-append (same_symbol s) (f n) rest))
    ∙ ap (λ (l : List ℕ). stands_in old s || stands_in (joined (map f l)) s) (sym split)))

pub filter_same : (p q : SymKey → Bool) → ((s : SymKey) → p s ≡ q s) → (l : List SymKey) → filter p l ≡ filter q l
filter_same p q h [] = refl
filter_same p q h (x ∷ l) = ap₂ (λ b r. cond b (x ∷ r) r) (h x) (filter_same p q h l)

-- nothing is left
pub none_more : (known rest : List SymKey) (s : SymKey) → rest ≡ [] → (stands_in known s || stands_in rest s) ≡ stands_in known s
none_more known rest s h = ap (λ l. stands_in known s || stands_in l s) h ∙ or_false (stands_in known s)
