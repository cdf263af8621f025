-- What holds of the declarations of the prelude, by which signatures that have it are well-formed.
use Rattle.std.proofs.Common.{◌≡◌, ℕ, suc, List, [], ◌∷◌, Option, Some, None, ◌⊎◌, inl, inr, bytes_eq, if◌then◌else◌, refl, sym, ◌∙◌, subst}
use Rattle.lp_term.specs.Connectives.{arrow, individuals, propositions}
use Rattle.lp_term.specs.LambdaPi.{kind, Term, type, substitute}
use Rattle.lp_term.specs.Names.{all_name, and_name, any_name, bot_name, em_name, ex_name, i_name, iff_name, imp_name, not_name, or_name, prf_name, prop_name, top_name}
use Rattle.lp_term.specs.Signature.{Extends, prelude_declarations}
use Rattle.lp_term.specs.Typing.{Declaration, Declares, declared_here, declared_later, sort_type, sort_kind, HasType, has_type, has_pi}
use Rattle.lp_term.proofs.ConnectiveRules.{arrow_type, prop_type, prf_type, or_prop, neg_prop, last}
use Rattle.lp_term.proofs.PreludeLaws.{spelled, prelude_is_spelled}
use Rattle.lp_term.proofs.QuantifierRules.{i_type}
use Rattle.lp_exact.specs.Degrees.{IsGraded, degree, symbol_degree}
use Rattle.lp_exact.specs.Objects.{Simple, individual, truth, function, simple_term}
use Rattle.lp_exact.specs.Signatures.{HasSort, IsWellFormedSignature}
use Rattle.lp_exact.specs.Symbols.{IsTermWord, middle_type}
use Rattle.lp_exact.specs.Words.{word_of}

-- ---- what holds of each declaration

abbrev HoldsOfEach : (List ℕ → Term → Type 0) → List Declaration → Type 0
HoldsOfEach P [] = Unit {0}
HoldsOfEach P (d ∷ l) = P d.name d.of × HoldsOfEach P l

holds_of : (P : List ℕ → Term → Type 0) {l : List Declaration} {x : List ℕ} {a : Term} → Declares l x a → HoldsOfEach P l → P x a
holds_of P (declared_here l d) h = h.0
holds_of P (declared_later d k) h = holds_of P k h.1

-- a fact of each of the prelude's declarations
pub prelude_holds : (P : List ℕ → Term → Type 0)
    → P i_name type
    → P prop_name type
    → P prf_name (arrow propositions type)
    → P imp_name (arrow propositions (arrow propositions propositions))
    → P and_name (arrow propositions (arrow propositions propositions))
    → P or_name (arrow propositions (arrow propositions propositions))
    → P iff_name (arrow propositions (arrow propositions propositions))
    → P not_name (arrow propositions propositions)
    → P top_name propositions
    → P bot_name propositions
    → P all_name (arrow (arrow individuals propositions) propositions)
    → P ex_name (arrow (arrow individuals propositions) propositions)
    → P any_name individuals
    → P em_name middle_type
    → {x : List ℕ} {a : Term} → Declares spelled x a → P x a
prelude_holds P a b c d e f g h i j k l m n r = holds_of P r (a, (b, (c, (d, (e, (f, (g, (h, (i, (j, (k, (l, (m, (n, tt))))))))))))))

-- ---- no symbol twice

-- the first type that the declarations give a symbol
abbrev first_declared : List Declaration → List ℕ → Option Term
first_declared [] x = None
first_declared (d ∷ l) x = if bytes_eq d.name x then Some d.of else first_declared l x

abbrev IsFirst : List ℕ → Term → Type 0
IsFirst x a = first_declared spelled x ≡ Some a

declared_first : {x : List ℕ} {a : Term} → Declares spelled x a → first_declared spelled x ≡ Some a
declared_first h = prelude_holds IsFirst refl refl refl refl refl refl refl refl refl refl refl refl refl refl h

pub declared_once : (x : List ℕ) (a b : Term) → Declares spelled x a → Declares spelled x b → a ≡ b
declared_once x a b h k = let e : Some a ≡ Some b = sym (declared_first h) ∙ declared_first k in cc

-- ---- closed and graded types that have sorts

abbrev IsClosed : List ℕ → Term → Type 0
IsClosed x a = (f : ℕ → Term) → substitute f a ≡ a

pub declared_closed : {x : List ℕ} {a : Term} → Declares spelled x a → (f : ℕ → Term) → substitute f a ≡ a
declared_closed h =
    prelude_holds IsClosed (λ f. refl) (λ f. refl) (λ f. refl) (λ f. refl) (λ f. refl) (λ f. refl) (λ f. refl) (λ f. refl) (λ f. refl) (λ f. refl) (λ f. refl) (λ f. refl) (λ f. refl) (λ f. refl) h

abbrev pub HasGrade : List ℕ → Term → Type 0
HasGrade x a = IsGraded a × (degree a ≡ suc (symbol_degree x))

pub declared_grade : {x : List ℕ} {a : Term} → Declares spelled x a → HasGrade x a
declared_grade h =
    let binary : IsGraded (arrow propositions (arrow propositions propositions)) = (tt, (tt, tt, refl), refl) in
    let quantifier : IsGraded (arrow (arrow individuals propositions) propositions) = ((tt, tt, refl), tt, refl) in
    let middle : IsGraded middle_type = (tt, (tt, ((tt, tt, refl), (tt, tt, refl), refl), refl), refl) in
    prelude_holds HasGrade (tt, refl) (tt, refl) ((tt, tt, refl), refl) (binary, refl) (binary, refl) (binary, refl) (binary, refl) ((tt, tt, refl), refl) (tt, refl) (tt, refl) (quantifier, refl) (quantifier, refl) (tt, refl) (middle, refl) h

-- in a signature that has the prelude
module _ {sig : List Declaration} (e : Extends sig) (g : List Term) where
  propositions_formed : HasType sig g propositions type
  propositions_formed = prop_type sig e g

  individuals_formed : HasType sig g individuals type
  individuals_formed = i_type sig e g

  arrow_formed : {a b : Term} → HasType sig g a type → HasType sig g b type → HasType sig g (arrow a b) type
  arrow_formed h k = arrow_type sig e h k

  middle_formed : HasType sig g middle_type type
  middle_formed =
      let v = last sig e {g = g} propositions in
      has_pi sort_type propositions_formed (prf_type sig e (or_prop sig e v (neg_prop sig e v)))

  has_kind : {a : Term} → HasType sig g a kind → HasSort sig g a
  has_kind h = (kind, sort_kind, h)

  is_type : {a : Term} → HasType sig g a type → HasSort sig g a
  is_type h = (type, sort_type, h)

  abbrev IsSorted : List ℕ → Term → Type 0
  IsSorted x a = HasSort sig g a

  pub declared_sorted : {x : List ℕ} {a : Term} → Declares spelled x a → HasSort sig g a
  declared_sorted h =
      let p = propositions_formed in
      let unary = is_type (arrow_formed p p) in
      let binary = is_type (arrow_formed p (arrow_formed p p)) in
      let quantifier = is_type (arrow_formed (arrow_formed individuals_formed p) p) in
      prelude_holds IsSorted (has_kind (has_type g)) (has_kind (has_type g)) (has_kind (has_pi sort_kind p (has_type (propositions ∷ g)))) binary binary binary binary unary (is_type p) (is_type p) quantifier quantifier (is_type individuals_formed) (is_type middle_formed) h

-- ---- symbols of simple types, beside the excluded middle

abbrev pub IsSimpleType : Term → Type 0
IsSimpleType a = ((s : Simple) × (a ≡ simple_term s)) ⊎ (a ≡ middle_type)

abbrev IsSimpleSymbol : List ℕ → Term → Type 0
IsSimpleSymbol x a = IsTermWord (word_of x) → IsSimpleType a

pub declared_simple : {x : List ℕ} {a : Term} → Declares spelled x a → IsTermWord (word_of x) → IsSimpleType a
declared_simple h =
    let truths : IsSimpleType propositions = inl (truth, refl) in
    let unary : IsSimpleType (arrow propositions propositions) = inl (function truth truth, refl) in
    let binary : IsSimpleType (arrow propositions (arrow propositions propositions)) = inl (function truth (function truth truth), refl) in
    let quantifier : IsSimpleType (arrow (arrow individuals propositions) propositions) = inl (function (function individual truth) truth, refl) in
    prelude_holds IsSimpleSymbol (λ c. absurd c) (λ c. absurd c) (λ c. absurd c) (λ c. binary) (λ c. binary) (λ c. binary) (λ c. binary) (λ c. unary) (λ c. truths) (λ c. truths) (λ c. quantifier) (λ c. quantifier) (λ c. inl (individual, refl)) (λ c. inr refl) h

-- ---- the prelude by itself

-- the prelude extends itself
spelled_extends : Extends spelled
spelled_extends = record {
  declares = λ s a h. subst (λ l. Declares l s a) prelude_is_spelled h;
  closed = λ s a h f. declared_closed h f;
}

spelled_well_formed : IsWellFormedSignature spelled
spelled_well_formed = record {
  extends = spelled_extends;
  graded = record { grades = λ x a h. declared_grade h };
  once = record { same = declared_once };
  sorted = λ x a g h. declared_sorted spelled_extends g h;
}

-- the prelude's signature is well-formed
pub prelude_well_formed : IsWellFormedSignature prelude_declarations
prelude_well_formed = subst IsWellFormedSignature (sym prelude_is_spelled) spelled_well_formed
