-- What the comparison of two terms under bindings answers, for the contracts of its parts.
use Rattle.std.specs.Prelude.{ℕ, ◌≡◌, ◌<◌, ◌≤◌, Bool, true, false, List, get_or, length, Option, None}
use Rattle.dk_syntax.specs.declared.Term.{Term}
use Rattle.unifier.specs.declared.comparison.Step.{Step}
use Rattle.unifier.specs.declared.comparison.Step.TheVariants.{Bind, Different, Equal}
use Rattle.unifier.specs.Outcomes.{Refuted, IsSettledBy}
use Rattle.unifier.specs.Substitution.{Fixes, Refines}
use Rattle.dk_syntax.specs.Terms.{Below, has_variable, substituted}

-- what refines the bindings has Q
abbrev pub Follows : ℕ → ((ℕ → Term) → Type 0) → List (Option Term) → Type 0
Follows frozen Q s = (r : ℕ → Term) → Fixes frozen r → Refines s r → Q r

-- no most general substitution that refines the bindings has the variable in the term
abbrev pub Absent : List (Option Term) → ℕ → Term → Type 0
Absent s k t = (m : ℕ → Term) → IsSettledBy s m → has_variable k (substituted m t) ≡ false

-- k may be bound to t, and what refines the bindings and has Q is the same at both
pub record Needs (frozen : ℕ) (Q : (ℕ → Term) → Type 0) (s : List (Option Term)) (k : ℕ) (t : Term) : Type 0 where
  pub within : k < length s
  pub unfrozen : frozen ≤ k
  pub free : get_or s k None ≡ None
  pub below : Below (length s) t
  pub absent : Absent s k t
  pub needed : (r : ℕ → Term) → Fixes frozen r → Refines s r → Q r → r k ≡ substituted r t

-- the next step towards Q: none where all have it, none where nothing has it, or a binding that it needs
abbrev pub NextStep : ℕ → ((ℕ → Term) → Type 0) → List (Option Term) → Step → Type 0
NextStep frozen Q s Equal = Follows frozen Q s
NextStep frozen Q s Different = Refuted frozen Q s
NextStep frozen Q s (Bind k t) = Needs frozen Q s k t

-- the marked variables do not lead to k
abbrev pub Marked : List (Option Term) → ℕ → List Bool → Type 0
Marked s k marks = (j : ℕ) → get_or marks j false ≡ true → (m : ℕ → Term) → IsSettledBy s m → has_variable k (m j) ≡ false
