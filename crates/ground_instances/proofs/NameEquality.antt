-- The test of equality that is derived for names decides whether they are one.
use Rattle.std.proofs.Common.{◌≡◌, ℕ, zero, suc, Bool, true, false, ◌&&◌, nat_eq, if◌then◌else◌, List, [], ◌∷◌, ◌++◌, get_or, Some, slice_get, position, Contains, refl, sym, ap, ap₂, ◌∙◌, subst, arith, inl, inr}
use Rattle.std.specs.Cmp.Lexicographic.{nat_list_eq_equiv, pointwise}
use Rattle.std.specs.List.{list_any}
use Rattle.std.proofs.lemmas.Bool.{and_parts, or_cases, or_left, or_right}
use Rattle.std.proofs.lemmas.Bool.Decides.{Decides-eqb}
use Rattle.std.proofs.lemmas.List.Quantifiers.{position-Some}
use Rattle.std.proofs.lemmas.Option.{slice_get-get_or}
use Rattle.indexmap.specs.IndexSet.{insert_key}
use Rattle.dk_syntax.proofs.SymbolLaws.{names_same}
use Rattle.ground_instances.proofs.Parts.{beyond, there}
use Rattle.ground_instances.specs.contracts.naming.NamedPartialEq.TheImpl as derived
use Rattle.ground_instances.specs.contracts.naming.PlacePartialEq.TheImpl as derived_place
use Rattle.ground_instances.specs.declared.naming.Named.{Named}
use Rattle.ground_instances.specs.declared.naming.Place.{Place}

abbrev same_places : Place → Place → Bool
same_places = (derived_place.ghosts).eq

abbrev pub same_names : Named → Named → Bool
same_names = (derived.ghosts).eq

number_itself : (n : ℕ) → nat_eq n n ≡ true
number_itself n = (Decides-eqb n n).1 refl

place_itself : (a : Place) → same_places a a ≡ true
place_itself a = ap₂ (λ x y. x && y) (number_itself a.step) (ap₂ (λ x y. x && y) (number_itself a.stage) (number_itself a.clause))

pub name_itself : (a : Named) → same_names a a ≡ true
name_itself a = ap₂ (λ x y. x && y) (place_itself a.place) (nat_list_eq_equiv.refl a.terms)

pub names_are_same : (a b : Named) → same_names a b ≡ true → a ≡ b
names_are_same a b e =
    let parts = and_parts (same_places a.place b.place) (pointwise nat_eq a.terms b.terms) e in
    let places = and_parts (nat_eq a.place.step b.place.step) (nat_eq a.place.stage b.place.stage && nat_eq a.place.clause b.place.clause) parts.0 in
    let more = and_parts (nat_eq a.place.stage b.place.stage) (nat_eq a.place.clause b.place.clause) places.1 in
    let step = (Decides-eqb a.place.step b.place.step).0 places.0 in
    let stage = (Decides-eqb a.place.stage b.place.stage).0 more.0 in
    let clause = (Decides-eqb a.place.clause b.place.clause).0 more.1 in
    let terms = names_same a.terms b.terms parts.1 in
    λ i. record { place = record { step = step i; stage = stage i; clause = clause i }; terms = terms i }

-- a test that tells the name finds it in the list exactly where it stands there
pub any_contains : (named : Named) (keys : List Named) → list_any (same_names named) keys ≡ true → Contains keys named
any_contains named [] e = cc
any_contains named (k ∷ ks) e = elim (or_cases (same_names named k) (list_any (same_names named) ks) e) [
  | inl p ↦ subst (Contains (k ∷ ks)) (sym (names_are_same named k p)) (there k ks)
  | inr q ↦ beyond k named ks (any_contains named ks q)
]

pub contains_any : (named : Named) (keys : List Named) → Contains keys named → list_any (same_names named) keys ≡ true
contains_any named [] (k, l, e) = absurd (omega arith)
contains_any named (x ∷ xs) (zero, l, e) =
    or_left (same_names named x) (list_any (same_names named) xs) (subst (λ z. same_names named z ≡ true) (sym e) (name_itself named))
contains_any named (x ∷ xs) (suc k, l, e) = or_right (same_names named x) (list_any (same_names named) xs) (contains_any named xs (k, omega arith, e))

pub at_position : (named : Named) (keys : List Named) (i : ℕ) → position (same_names named) keys ≡ Some i → slice_get keys i ≡ Some named
at_position named keys i e =
    let h = position-Some (same_names named) keys i named e in
    slice_get-get_or keys i named h.0 ∙ ap Some (sym (names_are_same named (get_or keys i named) h.1))

-- a name that isn't there goes last
pub insert_absent : (named : Named) (keys : List Named) → (Contains keys named → ⊥) → insert_key same_names keys named ≡ keys ++ named ∷ []
insert_absent named keys absent = by_test (list_any (same_names named) keys) refl
  where
    by_test : (b : Bool) → list_any (same_names named) keys ≡ b → insert_key same_names keys named ≡ keys ++ named ∷ []
    by_test true e = absurd (absent (any_contains named keys e))
    by_test false e = ap (λ b. if b then keys else keys ++ named ∷ []) e
