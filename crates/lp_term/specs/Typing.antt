-- Typing in a signature and a context (lambda-Pi-calculus modulo rewriting).
use Rattle.std.specs.Prelude.{ℕ, zero, suc, List, ◌∷◌}
use Rattle.lp_term.specs.LambdaPi.{Term, app, con, instantiate, kind, lam, pi, shift, type, var}
use Rattle.lp_term.specs.Conversion.{Convertible}

-- a symbol with its declared type
pub record Declaration : Type 0 where
  pub name : List ℕ
  pub of : Term

-- the signature declares the symbol with this type
pub data Declares : List Declaration → List ℕ → Term → Type 0 where
  declared_here : (l : List Declaration) (d : Declaration) → Declares (d ∷ l) d.name d.of
  declared_later : {l : List Declaration} {s : List ℕ} {a : Term} (d : Declaration) → Declares l s a → Declares (d ∷ l) s a

-- the context gives the variable this type; its head is variable 0's, in the context of the rest
pub data Gives : List Term → ℕ → Term → Type 0 where
  given_here : (g : List Term) (a : Term) → Gives (a ∷ g) zero (shift a)
  given_later : {g : List Term} {n : ℕ} {a : Term} (b : Term) → Gives g n a → Gives (b ∷ g) (suc n) (shift a)

pub data IsSort : Term → Type 0 where
  sort_type : IsSort type
  sort_kind : IsSort kind

-- a term has a type in a signature and a context
pub data HasType (sig : List Declaration) : List Term → Term → Term → Type 0 where
  has_type : (g : List Term) → HasType sig g type kind
  has_var : {g : List Term} {n : ℕ} {a : Term} → Gives g n a → HasType sig g (var n) a
  has_con : (g : List Term) {s : List ℕ} {a : Term} → Declares sig s a → HasType sig g (con s) a
  has_pi : {g : List Term} {a b s : Term} → IsSort s → HasType sig g a type → HasType sig (a ∷ g) b s → HasType sig g (pi a b) s
  has_lam : {g : List Term} {a b t s : Term} → IsSort s → HasType sig g (pi a b) s → HasType sig (a ∷ g) t b → HasType sig g (lam a t) (pi a b)
  has_app : {g : List Term} {a b t u : Term} → HasType sig g t (pi a b) → HasType sig g u a → HasType sig g (app t u) (instantiate b u)
  has_conv : {g : List Term} {a b t s : Term} → IsSort s → HasType sig g t a → Convertible a b → HasType sig g a s → HasType sig g b s → HasType sig g t b
