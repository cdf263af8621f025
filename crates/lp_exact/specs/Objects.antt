-- Simple types, the objects that have them, and the types of the fragment.
use Rattle.std.specs.Prelude.{ℕ, zero, suc, ◌+◌, List, ◌∷◌, Option, Some, None}
use Rattle.lp_term.specs.LambdaPi.{Term, con, var, app, lam, pi}
use Rattle.lp_term.specs.Connectives.{individuals, propositions, proof_of}
use Rattle.lp_exact.specs.declared.word.Word.{Word}
use Rattle.lp_exact.specs.declared.word.Word.TheVariants.{Individuals, Propositions}
use Rattle.lp_exact.specs.Words.{word_of}

-- `I`, `Prop`, and functions of simple types
pub data Simple : Type 0 where
  individual : Simple
  truth : Simple
  function : Simple → Simple → Simple

abbrev pub simple_term : Simple → Term
simple_term individual = individuals
simple_term truth = propositions
simple_term (function a b) = pi (simple_term a) (simple_term b)

-- how many nodes a simple type has
abbrev pub simple_size : Simple → ℕ
simple_size individual = 1
simple_size truth = 1
simple_size (function a b) = simple_size a + simple_size b + 1

abbrev pub simple_of_word : Word → Option Simple
simple_of_word Individuals = Some individual
simple_of_word Propositions = Some truth
simple_of_word w = None

abbrev pub simple_of_both : Option Simple → Option Simple → Option Simple
simple_of_both (Some a) (Some b) = Some (function a b)
simple_of_both a b = None

-- the simple type that a term is, if it is one
abbrev pub simple_of : Term → Option Simple
simple_of (con x) = simple_of_word (word_of x)
simple_of (pi a b) = simple_of_both (simple_of a) (simple_of b)
simple_of t = None

-- a variable has a simple type, in a context that leaves out all other types
pub data HasSimple : List (Option Simple) → ℕ → Simple → Type 0 where
  simple_here : (g : List (Option Simple)) (a : Simple) → HasSimple (Some a ∷ g) zero a
  simple_later : {g : List (Option Simple)} {n : ℕ} {a : Simple} (b : Option Simple) → HasSimple g n a → HasSimple (b ∷ g) (suc n) a

-- the objects, where C types the symbols
pub data IsObject (C : List ℕ → Simple → Type 0) : List (Option Simple) → Term → Simple → Type 0 where
  object_var : {g : List (Option Simple)} {n : ℕ} {a : Simple} → HasSimple g n a → IsObject C g (var n) a
  object_con : (g : List (Option Simple)) {x : List ℕ} {a : Simple} → C x a → IsObject C g (con x) a
  object_lam : {g : List (Option Simple)} {t : Term} {b : Simple} (a : Simple) → IsObject C (Some a ∷ g) t b → IsObject C g (lam (simple_term a) t) (function a b)
  object_app : {g : List (Option Simple)} {t u : Term} {a b : Simple} → IsObject C g t (function a b) → IsObject C g u a → IsObject C g (app t u) b

mutual
  -- the beta-normal objects
  pub data IsNormal (C : List ℕ → Simple → Type 0) : List (Option Simple) → Term → Simple → Type 0 where
    normal_lam : {g : List (Option Simple)} {t : Term} {b : Simple} (a : Simple) → IsNormal C (Some a ∷ g) t b → IsNormal C g (lam (simple_term a) t) (function a b)
    normal_neutral : {g : List (Option Simple)} {t : Term} {a : Simple} → IsNeutral C g t a → IsNormal C g t a

  -- those of them that are no abstraction
  pub data IsNeutral (C : List ℕ → Simple → Type 0) : List (Option Simple) → Term → Simple → Type 0 where
    neutral_var : {g : List (Option Simple)} {n : ℕ} {a : Simple} → HasSimple g n a → IsNeutral C g (var n) a
    neutral_con : (g : List (Option Simple)) {x : List ℕ} {a : Simple} → C x a → IsNeutral C g (con x) a
    neutral_app : {g : List (Option Simple)} {t u : Term} {a b : Simple} → IsNeutral C g t (function a b) → IsNormal C g u a → IsNeutral C g (app t u) b

-- the types of the fragment
pub data IsFragment (C : List ℕ → Simple → Type 0) : List (Option Simple) → Term → Type 0 where
  fragment_individuals : (g : List (Option Simple)) → IsFragment C g individuals
  fragment_propositions : (g : List (Option Simple)) → IsFragment C g propositions
  fragment_proof : {g : List (Option Simple)} {o : Term} → IsObject C g o truth → IsFragment C g (proof_of o)
  fragment_pi : {g : List (Option Simple)} {a b : Term} → IsFragment C g a → IsFragment C (simple_of a ∷ g) b → IsFragment C g (pi a b)

-- the lazy ones of them
pub data IsLazy (C : List ℕ → Simple → Type 0) : List (Option Simple) → Term → Type 0 where
  lazy_individuals : (g : List (Option Simple)) → IsLazy C g individuals
  lazy_propositions : (g : List (Option Simple)) → IsLazy C g propositions
  lazy_proof : {g : List (Option Simple)} {o : Term} → IsNormal C g o truth → IsLazy C g (proof_of o)
  lazy_pi : {g : List (Option Simple)} {a b : Term} → IsLazy C g a → IsLazy C (simple_of a ∷ g) b → IsLazy C g (pi a b)
