-- The test of two symbols.
use Rattle.std.proofs.Common.{◌≡◌, ℕ, Bool, true, false, ◌&&◌, nat_eq, List, [], ◌∷◌, refl, ap₂, subst, eq-eqb}
use Rattle.std.specs.Cmp.Lexicographic.{pointwise}
use Rattle.std.specs.Prelude.{◌↔◌, IsTrue}
use Rattle.dk_syntax.proofs.SymbolLaws.{symbols_same}
use Rattle.dk_syntax.specs.Symbols.{same_kind, same_symbol}
use Rattle.dk_syntax.specs.declared.Kind.{Kind}
use Rattle.dk_syntax.specs.declared.Kind.TheVariants.{Function, Predicate}
use Rattle.dk_syntax.specs.declared.SymKey.{SymKey}

name_same : (m : List ℕ) → pointwise nat_eq m m ≡ true
name_same [] = refl
name_same (a ∷ m) = ap₂ (λ x y. x && y) (eq-eqb a a refl) (name_same m)

kind_same : (a : Kind) → same_kind a a ≡ true
kind_same Function = refl
kind_same Predicate = refl

pub symbol_same : (a : SymKey) → same_symbol a a ≡ true
symbol_same a = ap₂ (λ x y. x && y) (ap₂ (λ x y. x && y) (name_same a.name) (eq-eqb a.arity a.arity refl)) (kind_same a.kind)

-- what decides whether two symbols are one is the test
pub same_is : (a b : SymKey) (answer : Bool) → (IsTrue answer ↔ (a ≡ b)) → same_symbol a b ≡ answer
same_is a b true h = subst (λ s. same_symbol a s ≡ true) (h.0 refl) (symbol_same a)
same_is a b false h = by_test (same_symbol a b) refl
  where
    off : false ≡ true → ⊥
    off e = cc

    by_test : (t : Bool) → same_symbol a b ≡ t → t ≡ false
    by_test true e = absurd (off (h.1 (symbols_same a b e)))
    by_test false e = refl
