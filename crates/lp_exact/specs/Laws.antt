-- What holds of conversion and typing: conversion is confluent, and types are unique up to it.
use Rattle.std.specs.Prelude.{◌≡◌, ◌⊎◌, List, [], ◌∷◌}
use Rattle.lp_term.specs.LambdaPi.{Term, kind, pi, type}
use Rattle.lp_term.specs.Conversion.{Convertible}
use Rattle.lp_term.specs.Signature.{prelude_declarations}
use Rattle.lp_term.specs.Typing.{Declaration, HasType, IsSort}
use Rattle.lp_exact.specs.Degrees.{IsGradedContext, IsGradedSignature}
use Rattle.lp_exact.specs.Reduction.{HasNormalForm, ReducesTo}
use Rattle.lp_exact.specs.Signatures.{DeclaresOnce, HasSort, IsWellFormedContext, IsWellFormedSignature}

-- two reducts of one term have a common reduct
abbrev pub Confluence : Type 0
Confluence = (t u v : Term) → ReducesTo t u → ReducesTo t v → (w : Term) × ReducesTo u w × ReducesTo v w

-- convertible terms have a common reduct
abbrev pub ChurchRosser : Type 0
ChurchRosser = (t u : Term) → Convertible t u → (w : Term) × ReducesTo t w × ReducesTo u w

-- a term is convertible with its reducts
abbrev pub ReductsAreConvertible : Type 0
ReductsAreConvertible = (t u : Term) → ReducesTo t u → Convertible t u

-- convertible terms have one normal form at most
abbrev pub NormalFormsAreUnique : Type 0
NormalFormsAreUnique = (a b m n : Term) → Convertible a b → HasNormalForm a m → HasNormalForm b n → m ≡ n

-- products are convertible only where their parts are
abbrev pub ProductsAreInjective : Type 0
ProductsAreInjective = (a b a' b' : Term) → Convertible (pi a b) (pi a' b') → Convertible a a' × Convertible b b'

-- in a signature that declares no symbol twice, two types of one term are convertible
abbrev pub TypesAreConvertible : Type 0
TypesAreConvertible =
    (sig : List Declaration) (g : List Term) (t a b : Term) → DeclaresOnce sig → HasType sig g t a → HasType sig g t b → Convertible a b

-- convertible types have one sort
abbrev pub SortsAreUnique : Type 0
SortsAreUnique =
    (sig : List Declaration) (g : List Term) (a b s t : Term) → IsGradedSignature sig → IsGradedContext g → IsSort s → IsSort t
    → Convertible a b → HasType sig g a s → HasType sig g b t → s ≡ t

-- what is a type of a term is KIND or has a sort
abbrev pub TypesHaveSorts : Type 0
TypesHaveSorts =
    (sig : List Declaration) (g : List Term) (t a : Term) → IsWellFormedSignature sig → IsWellFormedContext sig g → HasType sig g t a
    → (a ≡ kind) ⊎ HasSort sig g a

-- a term keeps its types when it is reduced
abbrev pub ReductionKeepsTypes : Type 0
ReductionKeepsTypes =
    (sig : List Declaration) (g : List Term) (t u a : Term) → IsWellFormedSignature sig → IsWellFormedContext sig g → HasType sig g t a
    → ReducesTo t u → HasType sig g u a

-- the prelude's signature is well-formed
abbrev pub PreludeIsWellFormed : Type 0
PreludeIsWellFormed = IsWellFormedSignature prelude_declarations

-- the empty context is well-formed
abbrev pub EmptyIsWellFormed : Type 0
EmptyIsWellFormed = (sig : List Declaration) → IsWellFormedContext sig []

-- a context stays well-formed with one type of TYPE more
abbrev pub ContextsExtend : Type 0
ContextsExtend =
    (sig : List Declaration) (g : List Term) (a : Term) → IsWellFormedSignature sig → IsWellFormedContext sig g → HasType sig g a type
    → IsWellFormedContext sig (a ∷ g)
