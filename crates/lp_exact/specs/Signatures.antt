-- Signatures and contexts in which types are unique and kept.
use Rattle.std.specs.Prelude.{ℕ, List, ◌≡◌}
use Rattle.lp_term.specs.LambdaPi.{Term, type}
use Rattle.lp_term.specs.Signature.{Extends}
use Rattle.lp_term.specs.Typing.{Declaration, Declares, Gives, HasType, IsSort}
use Rattle.lp_exact.specs.Degrees.{IsGradedContext, IsGradedSignature}

-- no symbol is declared twice
pub record DeclaresOnce (sig : List Declaration) : Type 0 where
  pub same : (x : List ℕ) (a b : Term) → Declares sig x a → Declares sig x b → a ≡ b

-- the term has a sort as its type
abbrev pub HasSort : List Declaration → List Term → Term → Type 0
HasSort sig g a = (s : Term) × IsSort s × HasType sig g a s

-- the signature has the prelude, no symbol twice, and each declared type is graded and has a sort
pub record IsWellFormedSignature (sig : List Declaration) : Type 0 where
  pub extends : Extends sig
  pub graded : IsGradedSignature sig
  pub once : DeclaresOnce sig
  pub sorted : (x : List ℕ) (a : Term) (g : List Term) → Declares sig x a → HasSort sig g a

-- each type of the context has TYPE in it and is graded
pub record IsWellFormedContext (sig : List Declaration) (g : List Term) : Type 0 where
  pub typed : (n : ℕ) (a : Term) → Gives g n a → HasType sig g a type
  pub graded : IsGradedContext g
