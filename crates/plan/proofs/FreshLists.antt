-- Where no step is bad, no symbol is introduced twice, nor one of the problem.
use Rattle.std.proofs.Common.{◌≡◌, ◌<◌, ◌≤◌, ℕ, zero, suc, ◌+◌, Bool, true, false, ◌||◌, List, [], ◌∷◌, ◌++◌, Option, Some, None, cond, if◌then◌else◌, find, slice_get, refl, sym, ap, ap₂, ◌∙◌, subst, inl, inr, arith}
use Rattle.std.proofs.lemmas.Bool.{or_left, or_right}
use Rattle.std.proofs.lemmas.List.Folds.{list_any-append}
use Rattle.std.proofs.lemmas.Option.{same_Some}
use Rattle.dk_syntax.specs.Symbols.{same_symbol}
use Rattle.dk_syntax.specs.declared.symbol.SymKey.{SymKey}
use Rattle.plan.proofs.Counts.{count, count_append, counted, found, none_of, not_both, not_counted, tick}
use Rattle.plan.proofs.Membership.{Among}
use Rattle.step_check.specs.Freshness.{freshened, introduced, introduced_by, is_bad, is_stale, refused_by, stale, stands_twice}
use Rattle.step_check.specs.Steps.{stands_in}
use Rattle.step_check.specs.declared.verdict.Verdict.{Verdict}

-- ---- one step

neither : (a b : Bool) → (a || b) ≡ false → (a ≡ false) × (b ≡ false)
neither true b h = absurd cc
neither false b h = (refl, h)

no_stale : (known symbols l : List SymKey) → find (is_stale known symbols) l ≡ None → (x : SymKey) → Among l x → is_stale known symbols x ≡ false
no_stale known symbols [] h x k = absurd k
no_stale known symbols (s ∷ l) h x k = by_test (is_stale known symbols s) refl (λ e m. no_stale known symbols l e x m) k
  where
    by_test : (b : Bool) → is_stale known symbols s ≡ b → (find (is_stale known symbols) l ≡ None → Among l x → is_stale known symbols x ≡ false) → Among (s ∷ l) x → is_stale known symbols x ≡ false
    by_test true e more m = let no : Some s ≡ None = subst (λ t. cond t (Some s) (find (is_stale known symbols) l) ≡ None) e h in absurd cc
    by_test false e more (inl m) = subst (λ y. is_stale known symbols y ≡ false) m e
    by_test false e more (inr m) = more (subst (λ t. cond t (Some s) (find (is_stale known symbols) l) ≡ None) e h) m

once_by : (l : List SymKey) (x : SymKey) → stands_twice l x ≡ false → count x l ≤ 1
once_by [] x h = omega arith
once_by (one ∷ rest) x h = by_test (same_symbol x one) refl (λ k. once_by rest x k)
  where
    by_test : (b : Bool) → same_symbol x one ≡ b → (stands_twice rest x ≡ false → count x rest ≤ 1) → tick (same_symbol x one) + count x rest ≤ 1
    by_test true e more =
        let none = not_counted rest x (subst (λ t. (if t then stands_in rest x else stands_twice rest x) ≡ false) e h) in
        let here : tick (same_symbol x one) ≡ 1 = ap tick e in
        omega (arith, none, here)
    by_test false e more =
        let some = more (subst (λ t. (if t then stands_in rest x else stands_twice rest x) ≡ false) e h) in
        let here : tick (same_symbol x one) ≡ 0 = ap tick e in
        omega (arith, some, here)

none_or : (n : ℕ) → (0 < n → n ≤ 1) → n ≤ 1
none_or zero h = omega arith
none_or (suc n) h = h (omega arith)

module _ (known : List SymKey) (verdict : Verdict) (fresh : stale known verdict ≡ None) where
  pub not_known : (x : SymKey) → stands_in known x ≡ true → count x (introduced verdict) ≡ 0
  not_known x h =
      none_of (count x (introduced verdict)) (λ below.
      let no = no_stale known (introduced verdict) (introduced verdict) fresh x (found x (introduced verdict) below) in
      not_both (stands_in known x) h (neither (stands_in known x) (stands_twice (introduced verdict) x) no).0)

  pub once_here : (x : SymKey) → count x (introduced verdict) ≤ 1
  once_here x =
      none_or (count x (introduced verdict)) (λ below.
      let no = no_stale known (introduced verdict) (introduced verdict) fresh x (found x (introduced verdict) below) in
      once_by (introduced verdict) x (neither (stands_in known x) (stands_twice (introduced verdict) x) no).1)

-- ---- all steps

-- no verdict of the list is bad
abbrev pub AreGood : List Verdict → Type 0
AreGood list = (place : ℕ) (verdict : Verdict) → slice_get list place ≡ Some verdict → is_bad verdict ≡ false

fresh_by : (s : Option SymKey) (v : Verdict) → is_bad (refused_by s v) ≡ false → s ≡ None
fresh_by None v h = refl
fresh_by (Some s) v h = absurd cc

pub same_list : (known : List SymKey) (vs : List Verdict) → AreGood (freshened known vs) → freshened known vs ≡ vs
same_list known [] g = refl
same_list known (v ∷ rest) g =
    ap₂ (λ a b. a ∷ b) (ap (λ s. refused_by s v) (fresh_by (stale known v) v (g zero (refused_by (stale known v) v) refl)))
    (same_list (known ++ introduced v) rest (λ p w h. g (suc p) w h))

pub unknown_all : (known : List SymKey) (vs : List Verdict) → AreGood (freshened known vs) → (x : SymKey) → stands_in known x ≡ true → count x (introduced_by vs) ≡ 0
unknown_all known [] g x h = refl
unknown_all known (v ∷ rest) g x h =
    let fresh = fresh_by (stale known v) v (g zero (refused_by (stale known v) v) refl) in
    let still : stands_in (known ++ introduced v) x ≡ true = list_any-append (same_symbol x) known (introduced v) ∙ or_left (stands_in known x) (stands_in (introduced v) x) h in
    omega (arith, count_append x (introduced v) (introduced_by rest), not_known known v fresh x h, unknown_all (known ++ introduced v) rest (λ p w k. g (suc p) w k) x still)

pub once_all : (known : List SymKey) (vs : List Verdict) → AreGood (freshened known vs) → (x : SymKey) → count x (introduced_by vs) ≤ 1
once_all known [] g x = omega arith
once_all known (v ∷ rest) g x = by_test (stands_in (introduced v) x) refl (once_all (known ++ introduced v) rest (λ p w k. g (suc p) w k) x)
  where
    by_test : (b : Bool) → stands_in (introduced v) x ≡ b → count x (introduced_by rest) ≤ 1 → count x (introduced_by (v ∷ rest)) ≤ 1
    by_test true e more =
        let fresh = fresh_by (stale known v) v (g zero (refused_by (stale known v) v) refl) in
        let now : stands_in (known ++ introduced v) x ≡ true = list_any-append (same_symbol x) known (introduced v) ∙ or_right (stands_in known x) (stands_in (introduced v) x) e in
        omega (arith, count_append x (introduced v) (introduced_by rest), once_here known v fresh x, unknown_all (known ++ introduced v) rest (λ p w k. g (suc p) w k) x now)
    by_test false e more =
        omega (arith, count_append x (introduced v) (introduced_by rest), not_counted (introduced v) x e, more)

-- ---- one place for each symbol

pub part_counted : (vs : List Verdict) (x : SymKey) (k : ℕ) (w : Verdict) → slice_get vs k ≡ Some w → count x (introduced w) ≤ count x (introduced_by vs)
part_counted [] x k w h = absurd cc
part_counted (v ∷ vs) x zero w h =
    let same : count x (introduced v) ≡ count x (introduced w) = ap (λ y. count x (introduced y)) (same_Some v w h) in
    omega (arith, same, count_append x (introduced v) (introduced_by vs))
part_counted (v ∷ vs) x (suc k) w h = omega (arith, part_counted vs x k w h, count_append x (introduced v) (introduced_by vs))

two_places : (v : Verdict) (vs : List Verdict) (x : SymKey) (k : ℕ) (u w : Verdict) → count x (introduced_by (v ∷ vs)) ≤ 1 → v ≡ u → slice_get vs k ≡ Some w → Among (introduced u) x → Among (introduced w) x → ⊥
two_places v vs x k u w one is at h m =
    let here : 0 < count x (introduced v) = counted x (introduced v) (subst (λ y. Among (introduced y) x) (sym is) h) in
    omega (arith, one, here, counted x (introduced w) m, part_counted vs x k w at, count_append x (introduced v) (introduced_by vs))

fewer : (a b c : ℕ) → c ≡ a + b → c ≤ 1 → b ≤ 1
fewer a b c h k = omega (arith, h, k)

-- a symbol is introduced at one place
pub place_one : (vs : List Verdict) (x : SymKey) → count x (introduced_by vs) ≤ 1 → (j k : ℕ) (u w : Verdict) → slice_get vs j ≡ Some u → slice_get vs k ≡ Some w
    → Among (introduced u) x → Among (introduced w) x → j ≡ k
place_one [] x one j k u w at there h m = absurd cc
place_one (v ∷ vs) x one zero zero u w at there h m = refl
place_one (v ∷ vs) x one zero (suc k) u w at there h m = absurd (two_places v vs x k u w one (same_Some v u at) there h m)
place_one (v ∷ vs) x one (suc j) zero u w at there h m = absurd (two_places v vs x j w u one (same_Some v w there) at m h)
place_one (v ∷ vs) x one (suc j) (suc k) u w at there h m =
    ap suc (place_one vs x (fewer (count x (introduced v)) (count x (introduced_by vs)) (count x (introduced_by (v ∷ vs))) (count_append x (introduced v) (introduced_by vs)) one) j k u w at there h m)
