-- What holds of the fragment: its objects and types are typed, and normal types are normal forms, equal
-- exactly where the types are convertible.
use Rattle.std.specs.Prelude.{◌≡◌, ◌↔◌, ◌++◌, Bool, IsTrue, List, Option, map}
use Rattle.lp_term.specs.Conversion.{Convertible}
use Rattle.lp_term.specs.LambdaPi.{Term, type}
use Rattle.lp_term.specs.Signature.{Extends, prelude_declarations}
use Rattle.lp_term.specs.Typing.{Declaration, HasType}
use Rattle.lp_exact.specs.LazyTypes.{full}
use Rattle.lp_exact.specs.NormalTypes.{normal_type_of}
use Rattle.lp_exact.specs.Objects.{Simple, simple_of, simple_term, IsFragment, IsLazy, IsObject}
use Rattle.lp_exact.specs.Reduction.{HasNormalForm}
use Rattle.lp_exact.specs.Signatures.{IsWellFormedSignature}
use Rattle.lp_exact.specs.Symbols.{AreConstants, HasSimpleType, IsFragmentSignature}

-- any term is convertible with its normal type
abbrev pub NormalTypesConvert : Type 0
NormalTypesConvert = (t : Term) → Convertible t (normal_type_of t)

-- the normal type of a type of the fragment is its normal form
abbrev pub NormalTypesAreNormal : Type 0
NormalTypesAreNormal =
    (sig : List Declaration) (g : List (Option Simple)) (t : Term) → IsFragmentSignature sig → IsFragment (HasSimpleType sig) g t
    → HasNormalForm t (normal_type_of t)

-- two types of the fragment are convertible exactly where they have one normal type
abbrev pub NormalTypesDecide : Type 0
NormalTypesDecide =
    (sig : List Declaration) (g d : List (Option Simple)) (a b : Term) → IsFragmentSignature sig → IsFragment (HasSimpleType sig) g a
    → IsFragment (HasSimpleType sig) d b → Convertible a b ↔ (normal_type_of a ≡ normal_type_of b)

-- the full type of a lazy type is its normal form
abbrev pub FullTypesAreNormal : Type 0
FullTypesAreNormal =
    (sig : List Declaration) (g : List (Option Simple)) (t : Term) → IsFragmentSignature sig → IsLazy (HasSimpleType sig) g t
    → HasNormalForm t (full t)

-- the second is the normal form of the first, if that is a type of the fragment
abbrev pub IsNormalTypeOf : Term → Term → Type 0
IsNormalTypeOf t n =
    (sig : List Declaration) (g : List (Option Simple)) → IsFragmentSignature sig → IsFragment (HasSimpleType sig) g t → HasNormalForm t n

-- the answer tells whether two types of the fragment are convertible
abbrev pub IsConversionOf : Term → Term → Bool → Type 0
IsConversionOf a b same =
    (sig : List Declaration) (g d : List (Option Simple)) → IsFragmentSignature sig → IsFragment (HasSimpleType sig) g a
    → IsFragment (HasSimpleType sig) d b → IsTrue same ↔ Convertible a b

-- an object of the fragment has its simple type
abbrev pub ObjectsAreTyped : Type 0
ObjectsAreTyped =
    (sig : List Declaration) (d : List Term) (t : Term) (a : Simple) → Extends sig → IsObject (HasSimpleType sig) (map simple_of d) t a
    → HasType sig d t (simple_term a)

-- a type of the fragment has TYPE
abbrev pub FragmentIsTyped : Type 0
FragmentIsTyped =
    (sig : List Declaration) (d : List Term) (t : Term) → Extends sig → IsFragment (HasSimpleType sig) (map simple_of d) t
    → HasType sig d t type

-- the prelude with constants beside it is well-formed
abbrev pub ConstantsAreWellFormed : Type 0
ConstantsAreWellFormed = (m : List Declaration) → AreConstants m → IsWellFormedSignature (prelude_declarations ++ m)

-- and of the fragment
abbrev pub ConstantsAreOfFragment : Type 0
ConstantsAreOfFragment = (m : List Declaration) → AreConstants m → IsFragmentSignature (prelude_declarations ++ m)
