-- Objects and types of the fragment are typed.
use Rattle.std.proofs.Common.{◌≡◌, ℕ, zero, suc, List, [], ◌∷◌, map, Option, Some, refl, subst}
use Rattle.lp_term.specs.LambdaPi.{Term, for_last, type, var}
use Rattle.lp_term.specs.Signature.{Extends}
use Rattle.lp_term.specs.Typing.{Declaration, HasType, given_here, has_app, has_con, has_lam, has_pi, has_var, sort_type}
use Rattle.lp_term.proofs.ConnectiveRules.{closed_of, prf_type, prop_type}
use Rattle.lp_term.proofs.QuantifierRules.{i_type}
use Rattle.lp_term.proofs.TypingLaws.{retype, weaken}
use Rattle.lp_exact.specs.Objects.{Simple, simple_of, simple_term, HasSimple, simple_here, simple_later, IsObject, object_var, object_con, object_lam, object_app, IsFragment, fragment_individuals, fragment_propositions, fragment_proof, fragment_pi}
use Rattle.lp_exact.specs.Symbols.{HasSimpleType}
use Rattle.lp_exact.proofs.ConstantLaws.{simple_closed, simple_typed}
use Rattle.lp_exact.proofs.ObjectLaws.{simple_renamed}
use Rattle.lp_exact.proofs.SimpleLaws.{is_simple, simple_of_simple}

first_simple : {o : Option Simple} {g : List (Option Simple)} {a : Simple} → HasSimple (o ∷ g) zero a → o ≡ Some a
first_simple (simple_here g a) = refl

later_simple : {o : Option Simple} {g : List (Option Simple)} {n : ℕ} {a : Simple} → HasSimple (o ∷ g) (suc n) a → HasSimple g n a
later_simple (simple_later b h) = h

none_simple : {n : ℕ} {a : Simple} → HasSimple [] n a → ⊥
none_simple = elim [ ]

module _ {sig : List Declaration} (e : Extends sig) where
  -- the context gives each variable its simple type
  record TypesVariables (g : List (Option Simple)) (d : List Term) : Type 0 where
    pub types : (n : ℕ) (a : Simple) → HasSimple g n a → HasType sig d (var n) (simple_term a)

  types_first : {b : Term} (d : List Term) (a : Simple) → simple_of b ≡ Some a → HasType sig (b ∷ d) (var 0) (simple_term a)
  types_first {b = b} d a h = rw (is_simple b a h) (retype (simple_renamed a (λ n. suc n)) (has_var (given_here d (simple_term a))))

  types_later : {g : List (Option Simple)} {d : List Term} (b : Term) → TypesVariables g d → (n : ℕ) (a : Simple) → HasSimple (simple_of b ∷ g) n a → HasType sig (b ∷ d) (var n) (simple_term a)
  types_later {d = d} b h zero a k = types_first d a (first_simple k)
  types_later b h (suc n) a k = retype (simple_renamed a (λ m. suc m)) (weaken b (closed_of e) (h.types n a (later_simple k)))

  types_under : {g : List (Option Simple)} {d : List Term} (b : Term) → TypesVariables g d → TypesVariables (simple_of b ∷ g) (b ∷ d)
  types_under b h = record { types = types_later b h }

  types_simple : {g : List (Option Simple)} {d : List Term} (a : Simple) → TypesVariables g d → TypesVariables (Some a ∷ g) (simple_term a ∷ d)
  types_simple {g = g} {d = d} a h =
      subst (λ o. TypesVariables (o ∷ g) (simple_term a ∷ d)) (simple_of_simple a) (types_under (simple_term a) h)

  -- an object has its simple type
  object_typed : {g : List (Option Simple)} {t : Term} {a : Simple} (d : List Term) → TypesVariables g d → IsObject (HasSimpleType sig) g t a → HasType sig d t (simple_term a)
  object_typed d r (object_var {n = n} {a = a} h) = r.types n a h
  object_typed d r (object_con g h) = has_con d h.0
  object_typed d r (object_lam {b = b} a h) =
      has_lam sort_type (has_pi sort_type (simple_typed e a d) (simple_typed e b (simple_term a ∷ d))) (object_typed (simple_term a ∷ d) (types_simple a r) h)
  object_typed d r (object_app {u = u} {b = b} h k) = retype (simple_closed b (for_last u)) (has_app (object_typed d r h) (object_typed d r k))

  -- a type of the fragment has TYPE
  fragment_typed_in : {g : List (Option Simple)} {t : Term} (d : List Term) → TypesVariables g d → IsFragment (HasSimpleType sig) g t → HasType sig d t type
  fragment_typed_in d r (fragment_individuals g) = i_type sig e d
  fragment_typed_in d r (fragment_propositions g) = prop_type sig e d
  fragment_typed_in d r (fragment_proof h) = prf_type sig e (object_typed d r h)
  fragment_typed_in d r (fragment_pi {a = a} h k) = has_pi sort_type (fragment_typed_in d r h) (fragment_typed_in (a ∷ d) (types_under a r) k)

  types_all : (d : List Term) → TypesVariables (map simple_of d) d
  types_all [] = record { types = λ n a h. absurd (none_simple h) }
  types_all (b ∷ d) = types_under b (types_all d)

  pub fragment_typed : {t : Term} (d : List Term) → IsFragment (HasSimpleType sig) (map simple_of d) t → HasType sig d t type
  fragment_typed d h = fragment_typed_in d (types_all d) h

  pub fragment_object_typed : {t : Term} {a : Simple} (d : List Term) → IsObject (HasSimpleType sig) (map simple_of d) t a → HasType sig d t (simple_term a)
  fragment_object_typed d h = object_typed d (types_all d) h
