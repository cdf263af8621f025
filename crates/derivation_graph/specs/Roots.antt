-- The root of a derivation.
use Rattle.std.specs.Prelude.{◌≡◌, ℕ, ◌+◌, ◌<◌, ◌↔◌, List, Bool, true, Option, Some, MatchOption, slice_get}
use Rattle.dk_syntax.specs.declared.Formula.{Formula}
use Rattle.dk_syntax.specs.declared.Formula.TheVariants.{False}

-- The step at a place has the formula $false, and isn't barred.
abbrev pub MayBeRoot : List Formula → List Bool → ℕ → Type 0
MayBeRoot formulas barred place = (slice_get formulas place ≡ Some False) × (slice_get barred place ≡ Some true → ⊥)

-- No step may be the root.
abbrev pub HasNoRoot : List Formula → List Bool → Type 0
HasNoRoot formulas barred = (place : ℕ) → MayBeRoot formulas barred place → ⊥

-- The step is the first that may be the root. Steps are counted from 1.
abbrev pub IsRoot : List Formula → List Bool → ℕ → Type 0
IsRoot formulas barred step =
    (place : ℕ) × (step ≡ place + 1) × MayBeRoot formulas barred place
    × ((earlier : ℕ) → earlier < place → MayBeRoot formulas barred earlier → ⊥)

-- The answer: the root, where there is one.
abbrev pub IsRootAnswer : List Formula → List Bool → Option ℕ → Type 0
IsRootAnswer formulas barred answer = MatchOption answer (HasNoRoot formulas barred) (IsRoot formulas barred)

-- ---- the root by marks

-- The marks are true exactly where the formulas are $false.
abbrev pub MarksFalsities : List Formula → List Bool → Type 0
MarksFalsities formulas marks = (place : ℕ) → (slice_get marks place ≡ Some true) ↔ (slice_get formulas place ≡ Some False)

-- The step at a place is marked, and isn't barred. Only private contracts cite this and what follows.
abbrev pub IsFreeMark : List Bool → List Bool → ℕ → Type 0
IsFreeMark marks barred place = (slice_get marks place ≡ Some true) × (slice_get barred place ≡ Some true → ⊥)

-- The step is the first that is marked and isn't barred, or there is none.
abbrev pub IsFirstFreeMark : List Bool → List Bool → Option ℕ → Type 0
IsFirstFreeMark marks barred answer =
    MatchOption answer ((place : ℕ) → IsFreeMark marks barred place → ⊥)
    (λ step. (place : ℕ) × (step ≡ place + 1) × IsFreeMark marks barred place × ((earlier : ℕ) → earlier < place → IsFreeMark marks barred earlier → ⊥))
