-- The symbols of the fragment and their simple types.
use Rattle.std.specs.Prelude.{ℕ, List, ◌≡◌, ◌⊎◌}
use Rattle.lp_term.specs.Connectives.{neg, or, proof_of, propositions}
use Rattle.lp_term.specs.LambdaPi.{Term, pi, var}
use Rattle.lp_term.specs.Names.{bot_name}
use Rattle.lp_term.specs.Signature.{Extends, prelude_declarations}
use Rattle.lp_term.specs.Typing.{Declaration, Declares}
use Rattle.lp_exact.specs.declared.word.Word.{Word}
use Rattle.lp_exact.specs.declared.word.Word.TheVariants.{Individuals, Propositions, Prf, Imp, And, Or, Iff, Not, Top, Bot, All, Ex, Other}
use Rattle.lp_exact.specs.Words.{word_of}
use Rattle.lp_exact.specs.Objects.{Simple, individual, truth, function, simple_term}
use Rattle.lp_exact.specs.Signatures.{DeclaresOnce}

-- the simple type of a word; `I`, `Prop` and `Prf` have none
abbrev pub IsSimpleOfWord : Word → Simple → Type 0
IsSimpleOfWord Individuals a = ⊥
IsSimpleOfWord Propositions a = ⊥
IsSimpleOfWord Prf a = ⊥
IsSimpleOfWord Imp a = a ≡ function truth (function truth truth)
IsSimpleOfWord And a = a ≡ function truth (function truth truth)
IsSimpleOfWord Or a = a ≡ function truth (function truth truth)
IsSimpleOfWord Iff a = a ≡ function truth (function truth truth)
IsSimpleOfWord Not a = a ≡ function truth truth
IsSimpleOfWord Top a = a ≡ truth
IsSimpleOfWord Bot a = a ≡ truth
IsSimpleOfWord All a = a ≡ function (function individual truth) truth
IsSimpleOfWord Ex a = a ≡ function (function individual truth) truth
IsSimpleOfWord Other a = Unit {0}

-- symbols' simple types that agree with the words
pub record AreSimpleOfWords (C : List ℕ → Simple → Type 0) : Type 0 where
  pub falsity : C bot_name truth
  pub agrees : (x : List ℕ) (a : Simple) → C x a → IsSimpleOfWord (word_of x) a

-- the symbol isn't one that makes types
abbrev pub IsTermWord : Word → Type 0
IsTermWord Individuals = ⊥
IsTermWord Propositions = ⊥
IsTermWord Prf = ⊥
IsTermWord w = Unit {0}

-- the type of the excluded middle
abbrev pub middle_type : Term
middle_type = pi propositions (proof_of (or (var 0) (neg (var 0))))

-- the signature has the prelude, no symbol twice, and besides symbols of simple types alone
pub record IsFragmentSignature (sig : List Declaration) : Type 0 where
  pub extends : Extends sig
  pub once : DeclaresOnce sig
  pub typed : (x : List ℕ) (a : Term) → IsTermWord (word_of x) → Declares sig x a → ((s : Simple) × (a ≡ simple_term s)) ⊎ (a ≡ middle_type)

-- a symbol of objects with its simple type
abbrev pub HasSimpleType : List Declaration → List ℕ → Simple → Type 0
HasSimpleType sig x s = Declares sig x (simple_term s) × IsTermWord (word_of x)

-- constants of simple types, none of them twice or of a name that the prelude declares
pub record AreConstants (m : List Declaration) : Type 0 where
  pub simple : (x : List ℕ) (a : Term) → Declares m x a → (s : Simple) × (a ≡ simple_term s)
  pub once : DeclaresOnce m
  pub new : (x : List ℕ) (a b : Term) → Declares m x a → Declares prelude_declarations x b → ⊥
