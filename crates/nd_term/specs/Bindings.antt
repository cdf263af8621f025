-- What the place of a proof term has bound: variables of literals, eigenvariables and the variables after them.
use Rattle.std.specs.Prelude.{ℕ, List, [], ◌∷◌}
use Rattle.lp_term.specs.LambdaPi.{Term}
use Rattle.lp_term.specs.Connectives.{individuals, proof_of}
use Rattle.lp_term.specs.Typing.{Declaration, HasType}
use Rattle.dk_syntax.specs.Lists.{Each, Entry}
use Rattle.nd_term.specs.Formulas.{Literal}
use Rattle.nd_term.specs.Translation.{literal_type}
use Rattle.nd_term.specs.Eigenvariables.{Eigenvariable, witness_formula}

-- the first variables are for the clause's literals
pub data Covers (sig : List Declaration) (g : List Term) (x : ℕ → Term) : List Literal → List Term → Type 0 where
  covers_nil : (lv : List Term) → Covers sig g x [] lv
  covers_cons : {l : Literal} {c : List Literal} {n : Term} {lv : List Term} → HasType sig g n (literal_type x l) → Covers sig g x c lv → Covers sig g x (l ∷ c) (n ∷ lv)

-- the terms have the types of the variables for the clause's literals
abbrev pub LiteralProofs : List Declaration → List Term → (ℕ → Term) → List Literal → List Term → Type 0
LiteralProofs sig g x d lv = Each (λ l t. HasType sig g t (literal_type x l)) d lv

-- the eigenvariables, and the variables after them, have their types
pub record Bindings (sig : List Declaration) (es : List Eigenvariable) (g : List Term) (x w : ℕ → Term) : Type 0 where
  pub inds : (k : ℕ) → HasType sig g (x k) individuals
  pub wits : (k : ℕ) (o : Eigenvariable) → Entry es k o → HasType sig g (w k) (proof_of (witness_formula x k o))
