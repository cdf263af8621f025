-- What each symbol of a list has, where symbols are added once, left out or looked for.
use Rattle.std.proofs.Common.{◌≡◌, nat_eq, Bool, true, false, not, ◌&&◌, ◌||◌, if◌then◌else◌, cond, List, [], ◌∷◌, ◌++◌, map, refl, sym, ap₂, subst, eq-eqb}
use Rattle.std.specs.Prelude.{ℕ, filter}
use Rattle.std.specs.Cmp.Lexicographic.{pointwise}
use Rattle.std.specs.List.{list_any}
use Rattle.std.proofs.lemmas.Bool.{or_left, or_right}
use Rattle.dk_syntax.proofs.SymbolLaws.{symbols_same}
use Rattle.dk_syntax.specs.Lists.{Every, every_cons, every_nil}
use Rattle.dk_syntax.specs.Symbols.{joined, same_kind, same_symbol, with_symbol, with_symbols}
use Rattle.dk_syntax.specs.declared.symbol.Kind.{Kind}
use Rattle.dk_syntax.specs.declared.symbol.Kind.TheVariants.{Function, Predicate}
use Rattle.dk_syntax.specs.declared.symbol.SymKey.{SymKey}
use Rattle.plan_symbols.proofs.EveryLaws.{every_back, every_both, every_front, every_head, every_tail}
use Rattle.plan_symbols.specs.Over.{IsListed}
use Rattle.step_check.specs.Steps.{stands_in}

-- ---- a symbol is itself

both : (a b : Bool) → a ≡ true → b ≡ true → (a && b) ≡ true
both a b h k = ap₂ (λ x y. x && y) h k

name_itself : (n : List ℕ) → pointwise nat_eq n n ≡ true
name_itself [] = refl
name_itself (a ∷ n) = both (nat_eq a a) (pointwise nat_eq n n) (eq-eqb a a refl) (name_itself n)

kind_itself : (k : Kind) → same_kind k k ≡ true
kind_itself Function = refl
kind_itself Predicate = refl

pub symbol_itself : (s : SymKey) → same_symbol s s ≡ true
symbol_itself s =
    both (pointwise nat_eq s.name s.name && nat_eq s.arity s.arity) (same_kind s.kind s.kind)
    (both (pointwise nat_eq s.name s.name) (nat_eq s.arity s.arity) (name_itself s.name) (eq-eqb s.arity s.arity refl)) (kind_itself s.kind)

-- ---- listed symbols

more_listed : (first : SymKey) (l m : List SymKey) → Every (IsListed l) m → Every (IsListed (first ∷ l)) m
more_listed first l [] h = every_nil
more_listed first l (s ∷ m) (every_cons w ws) = every_cons (or_right (same_symbol s first) (stands_in l s) w) (more_listed first l m ws)

-- each symbol of the list is listed
pub all_listed : (l : List SymKey) → Every (IsListed l) l
all_listed [] = every_nil
all_listed (s ∷ l) = every_cons (or_left (same_symbol s s) (stands_in l s) (symbol_itself s)) (more_listed s l l (all_listed l))

pub listed_front : (l m : List SymKey) → Every (IsListed (l ++ m)) l
listed_front l m = every_front l m (all_listed (l ++ m))

pub listed_back : (l m : List SymKey) → Every (IsListed (l ++ m)) m
listed_back l m = every_back l m (all_listed (l ++ m))

-- ---- properties of symbols

module _ (K : SymKey → Type 0) where
  -- a symbol that stands in the list has what each of the list has
  pub standing : (l : List SymKey) (s : SymKey) → Every K l → stands_in l s ≡ true → K s
  standing [] s h k = absurd cc
  standing (first ∷ l) s (every_cons w ws) k = by_test (same_symbol s first) refl (λ e. standing l s ws e)
    where
      by_test : (b : Bool) → same_symbol s first ≡ b → (stands_in l s ≡ true → K s) → K s
      by_test true e more = subst K (sym (symbols_same s first e)) w
      by_test false e more = more (subst (λ b. (b || stands_in l s) ≡ true) e k)

  split_one : (seen : List SymKey) (s : SymKey) → Every K (with_symbol seen s) → Every K seen × K s
  split_one seen s h = by_test (list_any (same_symbol s) seen) refl h
    where
      by_test : (b : Bool) → list_any (same_symbol s) seen ≡ b → Every K (if b then seen else seen ++ s ∷ []) → Every K seen × K s
      by_test true e k = (k, standing seen s k e)
      by_test false e k = (every_front seen (s ∷ []) k, every_head (every_back seen (s ∷ []) k))

  split_all : (seen l : List SymKey) → Every K (with_symbols seen l) → Every K seen × Every K l
  split_all seen [] h = (h, every_nil)
  split_all seen (s ∷ l) h =
      let r = split_all (with_symbol seen s) l h in
      let one = split_one seen s r.0 in (one.0, every_cons one.1 r.1)

  add_one : (seen : List SymKey) (s : SymKey) → Every K seen → K s → Every K (with_symbol seen s)
  add_one seen s h k = by_test (list_any (same_symbol s) seen)
    where
      by_test : (b : Bool) → Every K (if b then seen else seen ++ s ∷ [])
      by_test true = h
      by_test false = every_both h (every_cons k every_nil)

  add_all : (seen l : List SymKey) → Every K seen → Every K l → Every K (with_symbols seen l)
  add_all seen [] h k = h
  add_all seen (s ∷ l) h (every_cons w ws) = add_all (with_symbol seen s) l (add_one seen s h w) ws

  -- the same of symbols that were added once
  pub once_added : (l : List SymKey) → Every K l → Every K (with_symbols [] l)
  once_added l h = add_all [] l every_nil h

  pub before_added : (l : List SymKey) → Every K (with_symbols [] l) → Every K l
  before_added l h = (split_all [] l h).1

  -- a list whose symbols stand in another or are left when these are left out
  pub left_or_there : (there l : List SymKey) → Every K there → Every K (filter (λ s. not (stands_in there s)) l) → Every K l
  left_or_there there [] known h = every_nil
  left_or_there there (s ∷ l) known h = by_test (stands_in there s) refl (λ k. left_or_there there l known k) h
    where
      by_test : (b : Bool) → stands_in there s ≡ b → (Every K (filter (λ s. not (stands_in there s)) l) → Every K l)
          → Every K (cond (not (stands_in there s)) (s ∷ filter (λ s. not (stands_in there s)) l) (filter (λ s. not (stands_in there s)) l)) → Every K (s ∷ l)
      by_test true e more k =
          every_cons (standing there s known e)
          (more (subst (λ b. Every K (cond (not b) (s ∷ filter (λ s. not (stands_in there s)) l) (filter (λ s. not (stands_in there s)) l))) e k))
      by_test false e more k =
          let both = subst (λ b. Every K (cond (not b) (s ∷ filter (λ s. not (stands_in there s)) l) (filter (λ s. not (stands_in there s)) l))) e k in
          every_cons (every_head both) (more (every_tail both))

  -- each of the lists, one after another
  pub in_joined : {A : Type 0} (f : A → List SymKey) (l : List A) → Every (λ a. Every K (f a)) l → Every K (joined (map f l))
  in_joined f [] h = every_nil
  in_joined f (a ∷ l) (every_cons w ws) = every_both w (in_joined f l ws)

  pub of_joined : {A : Type 0} (f : A → List SymKey) (l : List A) → Every K (joined (map f l)) → Every (λ a. Every K (f a)) l
  of_joined f [] h = every_nil
  of_joined f (a ∷ l) h = every_cons (every_front (f a) (joined (map f l)) h) (of_joined f l (every_back (f a) (joined (map f l)) h))
