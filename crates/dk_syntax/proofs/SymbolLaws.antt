-- Symbols that are compared, and lists to which symbols are added that may be there.
use Rattle.std.proofs.Common.{◌≡◌, ℕ, Bool, true, false, ◌&&◌, ◌||◌, if◌then◌else◌, nat_eq, List, [], ◌∷◌, ◌++◌, refl, sym, ap, subst, ◌∙◌}
use Rattle.std.specs.Cmp.Lexicographic.{pointwise}
use Rattle.std.specs.List.{list_any}
use Rattle.std.proofs.lemmas.Bool.Decides.{Decides-eqb}
use Rattle.std.proofs.lemmas.List.Folds.{list_any-append}
use Rattle.dk_syntax.specs.Symbols.{same_kind, same_symbol, with_symbol, with_symbols}
use Rattle.dk_syntax.specs.declared.symbol.Kind.{Kind}
use Rattle.dk_syntax.specs.declared.symbol.Kind.TheVariants.{Function, Predicate}
use Rattle.dk_syntax.specs.declared.symbol.SymKey.{SymKey}
use Rattle.dk_syntax.proofs.FirstOccurrences.{with_symbols-append}

-- ---- when two symbols are one

both_true : (a b : Bool) → (a && b) ≡ true → (a ≡ true) × (b ≡ true)
both_true true b e = (refl, e)
both_true false b e = absurd cc

pub names_same : (m n : List ℕ) → pointwise nat_eq m n ≡ true → m ≡ n
names_same [] [] e = refl
names_same [] (b ∷ n) e = absurd cc
names_same (a ∷ m) [] e = absurd cc
names_same (a ∷ m) (b ∷ n) e =
    let parts = both_true (nat_eq a b) (pointwise nat_eq m n) e in
    let first = (Decides-eqb a b).0 parts.0 in
    let rest = names_same m n parts.1 in
    cc

kinds_same : (a b : Kind) → same_kind a b ≡ true → a ≡ b
kinds_same Function Function e = refl
kinds_same Function Predicate e = absurd cc
kinds_same Predicate Function e = absurd cc
kinds_same Predicate Predicate e = refl

pub symbols_same : (a b : SymKey) → same_symbol a b ≡ true → a ≡ b
symbols_same a b e =
    let parts = both_true (pointwise nat_eq a.name b.name && nat_eq a.arity b.arity) (same_kind a.kind b.kind) e in
    let more = both_true (pointwise nat_eq a.name b.name) (nat_eq a.arity b.arity) parts.0 in
    let names = names_same a.name b.name more.0 in
    let arities = (Decides-eqb a.arity b.arity).0 more.1 in
    let kinds = kinds_same a.kind b.kind parts.1 in
    λ i. record { name = names i; arity = arities i; kind = kinds i }

-- ---- what is added is there

abbrev IsAmong : List SymKey → SymKey → Type 0
IsAmong seen symbol = list_any (same_symbol symbol) seen ≡ true

stays : (b : Bool) (seen : List SymKey) (next symbol : SymKey) → IsAmong seen symbol → IsAmong (if b then seen else seen ++ next ∷ []) symbol
stays true seen next symbol h = h
stays false seen next symbol h = list_any-append (same_symbol symbol) seen (next ∷ []) ∙ ap (λ b. b || list_any (same_symbol symbol) (next ∷ [])) h

all_stay : (seen list : List SymKey) (symbol : SymKey) → IsAmong seen symbol → IsAmong (with_symbols seen list) symbol
all_stay seen [] symbol h = h
all_stay seen (next ∷ rest) symbol h = all_stay (with_symbol seen next) rest symbol (stays (list_any (same_symbol next) seen) seen next symbol h)

is_put : (b : Bool) (seen : List SymKey) (next : SymKey) → list_any (same_symbol next) seen ≡ b → same_symbol next next ≡ true → IsAmong (if b then seen else seen ++ next ∷ []) next
is_put true seen next e own = e
is_put false seen next e own =
    list_any-append (same_symbol next) seen (next ∷ []) ∙ (ap (λ b. b || (same_symbol next next || false)) e ∙ ap (λ b. b || false) own)

found_by : (b : Bool) (first symbol : SymKey) (seen rest : List SymKey) → same_symbol symbol first ≡ b → (b || list_any (same_symbol symbol) rest) ≡ true
    → (list_any (same_symbol symbol) rest ≡ true → IsAmong (with_symbols (with_symbol seen first) rest) symbol) → IsAmong (with_symbols (with_symbol seen first) rest) symbol
found_by true first symbol seen rest e h more =
    let one = symbols_same symbol first e in
    let own = subst (λ s. same_symbol s first ≡ true) one e in
    all_stay (with_symbol seen first) rest symbol (subst (λ s. IsAmong (with_symbol seen first) s) (sym one) (is_put (list_any (same_symbol first) seen) seen first refl own))
found_by false first symbol seen rest e h more = more h

all_put : (seen list : List SymKey) (symbol : SymKey) → IsAmong list symbol → IsAmong (with_symbols seen list) symbol
all_put seen [] symbol h = absurd cc
all_put seen (first ∷ rest) symbol h = found_by (same_symbol symbol first) first symbol seen rest refl h (λ k. all_put (with_symbol seen first) rest symbol k)

one_more_by : (b : Bool) (seen list : List SymKey) (next : SymKey) → list_any (same_symbol next) list ≡ b → with_symbols seen (if b then list else list ++ next ∷ []) ≡ with_symbol (with_symbols seen list) next
one_more_by true seen list next e = sym (ap (λ b. if b then with_symbols seen list else with_symbols seen list ++ next ∷ []) (all_put seen list next e))
one_more_by false seen list next e = with_symbols-append seen list (next ∷ [])

-- symbols that were added to a list before are added alike
pub with_symbols-twice : (seen list others : List SymKey) → with_symbols seen (with_symbols list others) ≡ with_symbols (with_symbols seen list) others
with_symbols-twice seen list [] = refl
with_symbols-twice seen list (next ∷ others) =
    with_symbols-twice seen (with_symbol list next) others ∙ ap (λ l. with_symbols l others) (one_more_by (list_any (same_symbol next) list) seen list next refl)
