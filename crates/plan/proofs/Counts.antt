-- How often a symbol stands in a list of symbols, or of entries.
use Rattle.std.proofs.Common.{◌≡◌, ◌<◌, ◌≤◌, ℕ, zero, suc, ◌+◌, nat_eq, Bool, true, false, ◌&&◌, List, [], ◌∷◌, ◌++◌, map, refl, sym, ap, ap₂, ◌∙◌, subst, inl, inr, arith, eq-eqb}
use Rattle.std.proofs.lemmas.Bool.{or_cases, or_left, or_right}
use Rattle.std.specs.Cmp.Lexicographic.{pointwise}
use Rattle.dk_syntax.proofs.SymbolLaws.{symbols_same}
use Rattle.dk_syntax.specs.Symbols.{same_kind, same_symbol}
use Rattle.dk_syntax.specs.declared.symbol.Kind.{Kind}
use Rattle.dk_syntax.specs.declared.symbol.Kind.TheVariants.{Function, Predicate}
use Rattle.dk_syntax.specs.declared.symbol.SymKey.{SymKey}
use Rattle.plan.proofs.Membership.{Among}
use Rattle.step_check.specs.Steps.{stands_in}
use Rattle.step_skolem.specs.declared.map.SkEntry.{SkEntry}

-- ---- symbols are themselves

both : (a b : Bool) → a ≡ true → b ≡ true → (a && b) ≡ true
both a b h k = ap₂ (λ x y. x && y) h k

name_itself : (n : List ℕ) → pointwise nat_eq n n ≡ true
name_itself [] = refl
name_itself (a ∷ n) = both (nat_eq a a) (pointwise nat_eq n n) (eq-eqb a a refl) (name_itself n)

kind_itself : (k : Kind) → same_kind k k ≡ true
kind_itself Function = refl
kind_itself Predicate = refl

pub itself : (s : SymKey) → same_symbol s s ≡ true
itself s =
    both (pointwise nat_eq s.name s.name && nat_eq s.arity s.arity) (same_kind s.kind s.kind)
    (both (pointwise nat_eq s.name s.name) (nat_eq s.arity s.arity) (name_itself s.name) (eq-eqb s.arity s.arity refl)) (kind_itself s.kind)

-- ---- counts

abbrev pub tick : Bool → ℕ
tick true = 1
tick false = 0

-- how often the symbol stands in the list
abbrev pub count : SymKey → List SymKey → ℕ
count x [] = 0
count x (s ∷ l) = tick (same_symbol x s) + count x l

pub count_append : (x : SymKey) (l m : List SymKey) → count x (l ++ m) ≡ count x l + count x m
count_append x [] m = omega arith
count_append x (s ∷ l) m = omega (arith, count_append x l m)

pub tick_itself : (x s : SymKey) → s ≡ x → tick (same_symbol x s) ≡ 1
tick_itself x s h = ap tick (subst (λ y. same_symbol x y ≡ true) (sym h) (itself x))

pub counted : (x : SymKey) (l : List SymKey) → Among l x → 0 < count x l
counted x [] h = absurd h
counted x (s ∷ l) (inl h) = omega (arith, tick_itself x s h)
counted x (s ∷ l) (inr h) = omega (arith, counted x l h)

pub found : (x : SymKey) (l : List SymKey) → 0 < count x l → Among l x
found x [] h = absurd (omega (arith, h))
found x (s ∷ l) h = by_test (same_symbol x s) refl (λ below. found x l below)
  where
    by_test : (b : Bool) → same_symbol x s ≡ b → (0 < count x l → Among l x) → Among (s ∷ l) x
    by_test true e more = inl (sym (symbols_same x s e))
    by_test false e more = let none : tick (same_symbol x s) ≡ 0 = ap tick e in inr (more (omega (arith, none, h)))

pub among_stands : (l : List SymKey) (x : SymKey) → Among l x → stands_in l x ≡ true
among_stands [] x h = absurd h
among_stands (s ∷ l) x (inl h) = or_left (same_symbol x s) (stands_in l x) (subst (λ y. same_symbol x y ≡ true) (sym h) (itself x))
among_stands (s ∷ l) x (inr h) = or_right (same_symbol x s) (stands_in l x) (among_stands l x h)

pub stands_among : (l : List SymKey) (x : SymKey) → stands_in l x ≡ true → Among l x
stands_among [] x h = absurd cc
stands_among (s ∷ l) x h = elim (or_cases (same_symbol x s) (stands_in l x) h) [
  | inl e ↦ inl (sym (symbols_same x s e))
  | inr m ↦ inr (stands_among l x m)
]

pub none_of : (n : ℕ) → (0 < n → ⊥) → n ≡ 0
none_of zero h = refl
none_of (suc n) h = absurd (h (omega arith))

pub not_both : (b : Bool) → b ≡ true → b ≡ false → ⊥
not_both b h k = cc

pub not_counted : (l : List SymKey) (x : SymKey) → stands_in l x ≡ false → count x l ≡ 0
not_counted l x h = none_of (count x l) (λ below. not_both (stands_in l x) (among_stands l x (found x l below)) h)

-- ---- entries

-- the symbols of the entries
abbrev pub names : List SkEntry → List SymKey
names entries = map (λ one. one.symbol) entries

pub among_name : (l : List SkEntry) (one : SkEntry) → Among l one → Among (names l) one.symbol
among_name [] one h = absurd h
among_name (e ∷ l) one (inl h) = inl (ap (λ (x : SkEntry). x.symbol) h)
among_name (e ∷ l) one (inr h) = inr (among_name l one h)

pub named_among : (l : List SkEntry) (x : SymKey) → Among (names l) x → (one : SkEntry) × Among l one × (one.symbol ≡ x)
named_among [] x h = absurd h
named_among (e ∷ l) x (inl h) = (e, inl refl, h)
named_among (e ∷ l) x (inr h) = let r = named_among l x h in (r.0, inr r.1, r.2)

clash : (e : SkEntry) (l : List SkEntry) (b : SkEntry) → Among l b → e.symbol ≡ b.symbol → count e.symbol (names (e ∷ l)) ≤ 1 → ⊥
clash e l b h s w =
    let there : 0 < count e.symbol (names l) = subst (λ x. 0 < count x (names l)) (sym s) (counted b.symbol (names l) (among_name l b h)) in
    omega (arith, tick_itself e.symbol e.symbol refl, there, w)

less : (a b : ℕ) → a + b ≤ 1 → b ≤ 1
less a b h = omega (arith, h)

-- no symbol stands twice, so an entry is told by its symbol
pub only_one : (l : List SkEntry) (a b : SkEntry) → ((x : SymKey) → count x (names l) ≤ 1) → Among l a → Among l b → a.symbol ≡ b.symbol → a ≡ b
only_one [] a b w h k s = absurd h
only_one (e ∷ l) a b w (inl h) (inl k) s = sym h ∙ k
only_one (e ∷ l) a b w (inl h) (inr k) s = absurd (clash e l b k (ap (λ (x : SkEntry). x.symbol) h ∙ s) (w e.symbol))
only_one (e ∷ l) a b w (inr h) (inl k) s = absurd (clash e l a h (ap (λ (x : SkEntry). x.symbol) k ∙ sym s) (w e.symbol))
only_one (e ∷ l) a b w (inr h) (inr k) s = only_one l a b (λ x. less (tick (same_symbol x e.symbol)) (count x (names l)) (w x)) h k s
