-- Values by levels, which no quantifier shifts.
use Rattle.std.proofs.Common.{◌≡◌, ◌<◌, ◌≤◌, ℕ, zero, suc, ◌+◌, ◌-◌, List, [], ◌∷◌, ◌++◌, length, map, reverse, Some, refl, sym, ap, ap₂, ◌∙◌, arith}
use Rattle.std.proofs.lemmas.List.{reverse-append}
use Rattle.std.specs.List.{slice_get}
use Rattle.dk_syntax.proofs.SubstitutionLaws.{substituted-App, substituted-Var}
use Rattle.dk_syntax.specs.Terms.{substituted}
use Rattle.dk_syntax.specs.declared.Term.{Term}
use Rattle.dk_syntax.specs.declared.Term.TheVariants.{App, Var}
use Rattle.step_skolem.proofs.SubstitutionLaws.{ext}
use Rattle.step_skolem.specs.Levels.{denoted, index, term_of}
use Rattle.step_skolem.specs.Substitutions.{shifted, up, with_term}
use Rattle.step_skolem.specs.declared.walk.Replacement.{Replacement}
use Rattle.step_skolem.specs.declared.walk.Value.{Value}
use Rattle.step_skolem.specs.declared.walk.Value.TheVariants.{Kept, Replaced}

-- ---- levels below the depth

-- each level is below the depth
abbrev pub AreBelow : ℕ → List ℕ → Type 0
AreBelow depth [] = Unit {0}
AreBelow depth (level ∷ rest) = (level < depth) × AreBelow depth rest

-- the levels of the value are below the depth
abbrev pub IsBelow : ℕ → Value → Type 0
IsBelow depth (Kept level) = level < depth
IsBelow depth (Replaced replacement) = AreBelow depth replacement.levels

-- the levels of the values are below the depth
abbrev pub HasLevels : ℕ → List Value → Type 0
HasLevels depth [] = Unit {0}
HasLevels depth (value ∷ values) = IsBelow depth value × HasLevels depth values

-- ---- one quantifier more around

index_up : (d l : ℕ) → l < d → index (suc d) l ≡ suc (index d l)
index_up d l h = omega (arith, h)

indices_up : (d : ℕ) (ls : List ℕ) → AreBelow d ls → map Var (map (index (suc d)) ls) ≡ map (substituted (λ k. Var (suc k))) (map Var (map (index d) ls))
indices_up d [] h = refl
indices_up d (l ∷ ls) h = ap₂ (λ a b. a ∷ b) (ap Var (index_up d l h.0) ∙ sym (substituted-Var (λ k. Var (suc k)) (index d l))) (indices_up d ls h.1)

term_up : (d : ℕ) (x : Value) → IsBelow d x → term_of (suc d) x ≡ shifted (term_of d x)
term_up d (Kept l) h = ap Var (index_up d l h) ∙ sym (substituted-Var (λ k. Var (suc k)) (index d l))
term_up d (Replaced r) h = ap (App r.symbol) (indices_up d r.levels h) ∙ sym (substituted-App (λ k. Var (suc k)) r.symbol (map Var (map (index d) r.levels)))

past : (k d : ℕ) → k + suc d ≡ suc (k + d)
past k d = omega arith

denoted_up : (d : ℕ) (values : List Value) → HasLevels d values → (k : ℕ) → denoted (suc d) values k ≡ shifted (denoted d values k)
denoted_up d [] h k = ap Var (past k d) ∙ sym (substituted-Var (λ k. Var (suc k)) (k + d))
denoted_up d (x ∷ values) h zero = term_up d x h.0
denoted_up d (x ∷ values) h (suc k) = denoted_up d values h.1 k

front_index : (d : ℕ) → index (suc d) d ≡ 0
front_index d = omega arith

under_at : (d : ℕ) (values : List Value) → HasLevels d values → (k : ℕ) → up (denoted d values) k ≡ denoted (suc d) (Kept d ∷ values) k
under_at d values h zero = ap Var (sym (front_index d))
under_at d values h (suc k) = sym (denoted_up d values h k)

-- a kept quantifier
pub under : (d : ℕ) (values : List Value) → HasLevels d values → up (denoted d values) ≡ denoted (suc d) (Kept d ∷ values)
under d values h = ext (under_at d values h)

with_at : (d : ℕ) (r : Replacement) (values : List Value) (k : ℕ) → with_term (term_of d (Replaced r)) (denoted d values) k ≡ denoted d (Replaced r ∷ values) k
with_at d r values zero = refl
with_at d r values (suc k) = refl

-- a replaced one
pub with_replaced : (d : ℕ) (r : Replacement) (values : List Value) → with_term (term_of d (Replaced r)) (denoted d values) ≡ denoted d (Replaced r ∷ values)
with_replaced d r values = ext (with_at d r values)

start_at : (k : ℕ) → denoted 0 [] k ≡ Var k
start_at k = ap Var (omega arith)

-- at the start each variable stands for itself
pub start : denoted 0 [] ≡ Var
start = ext start_at

below_up : (d : ℕ) (ls : List ℕ) → AreBelow d ls → AreBelow (suc d) ls
below_up d [] h = tt
below_up d (l ∷ ls) h = (omega (arith, h.0), below_up d ls h.1)

value_below_up : (d : ℕ) (x : Value) → IsBelow d x → IsBelow (suc d) x
value_below_up d (Kept l) h = omega (arith, h)
value_below_up d (Replaced r) h = below_up d r.levels h

levels_up : (d : ℕ) (values : List Value) → HasLevels d values → HasLevels (suc d) values
levels_up d [] h = tt
levels_up d (x ∷ values) h = (value_below_up d x h.0, levels_up d values h.1)

-- the levels stay below, with one more quantifier
pub steady_under : (d : ℕ) (values : List Value) → HasLevels d values → HasLevels (suc d) (Kept d ∷ values)
steady_under d values h = (omega arith, levels_up d values h)

-- ---- lists from their ends

pub reverse_more : {A : Type 0} (l : List A) (x : A) → reverse (l ++ x ∷ []) ≡ x ∷ reverse l
reverse_more l x = reverse-append l (x ∷ [])

get_in_first : {A : Type 0} (l m : List A) (k : ℕ) (x : A) → slice_get l k ≡ Some x → slice_get (l ++ m) k ≡ Some x
get_in_first [] m k x h = cc
get_in_first (y ∷ l) m zero x h = h
get_in_first (y ∷ l) m (suc k) x h = get_in_first l m k x h

get_at_end : {A : Type 0} (l : List A) (x : A) (k : ℕ) → k ≡ length l → slice_get (l ++ x ∷ []) k ≡ Some x
get_at_end [] x zero h = refl
get_at_end [] x (suc k) h = absurd (omega (arith, h))
get_at_end (y ∷ l) x zero h = absurd (omega (arith, h))
get_at_end (y ∷ l) x (suc k) h = get_at_end l x k (omega (arith, h))

length_reverse : {A : Type 0} (l : List A) → length (reverse l) ≡ length l
length_reverse [] = refl
length_reverse (x ∷ l) = ap length (reverse-append (x ∷ []) l) ∙ more (reverse l) x ∙ ap suc (length_reverse l)
  where
    more : {A : Type 0} (m : List A) (y : A) → length (m ++ y ∷ []) ≡ suc (length m)
    more [] y = refl
    more (z ∷ m) y = ap suc (more m y)

-- an element by its place from the end
pub from_end : {A : Type 0} (l : List A) (i k : ℕ) (x : A) → slice_get l i ≡ Some x → k + suc i ≡ length l → slice_get (reverse l) k ≡ Some x
from_end [] i k x h e = cc
from_end (y ∷ l) zero k x h e =
    ap (λ m. slice_get m k) (reverse-append (y ∷ []) l) ∙ get_at_end (reverse l) y k (omega (arith, e, length_reverse l)) ∙ h
from_end (y ∷ l) (suc i) k x h e =
    ap (λ m. slice_get m k) (reverse-append (y ∷ []) l) ∙ get_in_first (reverse l) (y ∷ []) k x (from_end l i k x h (omega (arith, e)))

-- what stands for a variable, by its place
pub denoted_at : (d : ℕ) (values : List Value) (k : ℕ) (x : Value) → slice_get values k ≡ Some x → denoted d values k ≡ term_of d x
denoted_at d [] k x h = cc
denoted_at d (y ∷ values) zero x h = ap (term_of d) (some_same y x h)
  where
    some_same : (a b : Value) → Some a ≡ Some b → a ≡ b
    some_same a b e = cc
denoted_at d (y ∷ values) (suc k) x h = denoted_at d values k x h

-- a variable that no quantifier binds
pub denoted_past : (d : ℕ) (values : List Value) (k : ℕ) → length values ≤ k → denoted d values k ≡ Var (k - length values + d)
denoted_past d [] k h = ap Var (omega arith)
denoted_past d (y ∷ values) zero h = absurd (omega (arith, h))
denoted_past d (y ∷ values) (suc k) h = denoted_past d values k (omega (arith, h)) ∙ ap Var (omega arith)

-- what stands for a variable, by its value, and of one that has none
pub value_stands : (d : ℕ) (values : List Value) (k : ℕ) (x : Value) (t : Term) → slice_get (reverse values) k ≡ Some x → t ≡ term_of d x → t ≡ denoted d (reverse values) k
value_stands d values k x t h e = e ∙ sym (denoted_at d (reverse values) k x h)

pub free_stands : (d : ℕ) (values : List Value) (k : ℕ) (t : Term) → length values ≤ k → t ≡ Var (k - length values + d) → t ≡ denoted d (reverse values) k
free_stands d values k t h e =
    e ∙ ap (λ n. Var (k - n + d)) (sym (length_reverse values)) ∙ sym (denoted_past d (reverse values) k (omega (arith, h, length_reverse values)))
