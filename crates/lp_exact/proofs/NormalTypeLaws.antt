-- The normal type of a type of the fragment is its normal form.
use Rattle.std.proofs.Common.{◌≡◌, ◌≤◌, ◌↔◌, ◌∙◌, ℕ, List, Option, Bool, IsTrue, refl, sym, ap, ap₂, subst, arith}
use Rattle.std.proofs.Math.Nat.{le-max_left, le-max_right}
use Rattle.lp_term.specs.Conversion.{Convertible, conv_sym, conv_trans}
use Rattle.lp_term.specs.LambdaPi.{Term}
use Rattle.lp_term.specs.Names.{prf_name}
use Rattle.lp_exact.specs.LazyTypes.{full}
use Rattle.lp_exact.specs.NormalTypes.{annotation_rank, lazy_of, normal_type_of}
use Rattle.lp_exact.specs.Normalisation.{normal_at}
use Rattle.lp_exact.specs.Objects.{Simple, simple_of, simple_of_both, IsFragment, fragment_individuals, fragment_propositions, fragment_proof, fragment_pi, IsLazy, lazy_individuals, lazy_propositions, lazy_proof, lazy_pi}
use Rattle.lp_exact.specs.Reduction.{HasNormalForm}
use Rattle.lp_exact.specs.Symbols.{AreSimpleOfWords}
use Rattle.lp_exact.proofs.AnnotationLaws.{HasRank, object_normal, object_rank}
use Rattle.lp_exact.proofs.ConfluenceLaws.{parallels_convert}
use Rattle.lp_exact.proofs.FullTypeLaws.{apply_symbol, full_is_normal}
use Rattle.lp_exact.proofs.NormalFormLaws.{normal_form_unique}
use Rattle.lp_exact.proofs.ObjectLaws.{normal_reduces}
use Rattle.lp_exact.proofs.StepLaws.{parallels_reduce, reduces_append}
use Rattle.lp_exact.proofs.TypeLaws.{full_converts, same_converts}
use Rattle.lp_exact.specs.FragmentLaws.{IsConversionOf, IsNormalTypeOf}
use Rattle.lp_exact.specs.Symbols.{HasSimpleType}
use Rattle.lp_exact.proofs.SymbolLaws.{words_agree}

-- a type is convertible with its normal type
pub normal_type_converts : (t : Term) → Convertible t (normal_type_of t)
normal_type_converts t = conv_trans (parallels_convert (normal_reduces (annotation_rank t) t)) (full_converts (lazy_of t))

-- types with one normal type are convertible
pub same_normal_converts : (a b : Term) → normal_type_of a ≡ normal_type_of b → Convertible a b
same_normal_converts a b e =
    let first = parallels_convert (normal_reduces (annotation_rank a) a) in
    let last = parallels_convert (normal_reduces (annotation_rank b) b) in
    conv_trans first (conv_trans (same_converts (lazy_of a) (lazy_of b) e) (conv_sym last))

module _ (C : List ℕ → Simple → Type 0) where
  fragment_rank : {g : List (Option Simple)} {t : Term} → IsFragment C g t → (k : ℕ) → annotation_rank t ≤ k → HasRank k t
  fragment_rank (fragment_individuals g) k l = tt
  fragment_rank (fragment_propositions g) k l = tt
  fragment_rank (fragment_proof {o = o} h) k l =
      let right = le-max_right 0 (annotation_rank o) in (tt, object_rank C h k (omega (arith, right, l)))
  fragment_rank (fragment_pi {a = a} {b = b} h m) k l =
      let left = le-max_left (annotation_rank a) (annotation_rank b) in
      let right = le-max_right (annotation_rank a) (annotation_rank b) in
      (fragment_rank h k (omega (arith, left, l)), fragment_rank m k (omega (arith, right, l)))

  simple_of_normal : {g : List (Option Simple)} {t : Term} (k : ℕ) → IsFragment C g t → simple_of (normal_at k t) ≡ simple_of t
  simple_of_normal k (fragment_individuals g) = refl
  simple_of_normal k (fragment_propositions g) = refl
  simple_of_normal k (fragment_proof {o = o} h) = ap simple_of (apply_symbol k prf_name (normal_at k o))
  simple_of_normal k (fragment_pi h m) = ap₂ simple_of_both (simple_of_normal k h) (simple_of_normal k m)

  -- the type with its objects normal is lazy
  fragment_lazy : {g : List (Option Simple)} {t : Term} (k : ℕ) → IsFragment C g t → HasRank k t → IsLazy C g (normal_at k t)
  fragment_lazy k (fragment_individuals g) r = lazy_individuals g
  fragment_lazy k (fragment_propositions g) r = lazy_propositions g
  fragment_lazy k (fragment_proof {o = o} h) r = rw (apply_symbol k prf_name (normal_at k o)) (lazy_proof (object_normal C k h r.1))
  fragment_lazy k (fragment_pi h m) r = lazy_pi (fragment_lazy k h r.0) (rw (simple_of_normal k h) (fragment_lazy k m r.1))

  pub lazy_of_fragment : {g : List (Option Simple)} {t : Term} → IsFragment C g t → IsLazy C g (lazy_of t)
  lazy_of_fragment {t = t} h = fragment_lazy (annotation_rank t) h (fragment_rank h (annotation_rank t) (omega arith))

  module _ (w : AreSimpleOfWords C) where
    -- the normal type is the normal form
    pub normal_type_is_normal : {g : List (Option Simple)} {t : Term} → IsFragment C g t → HasNormalForm t (normal_type_of t)
    normal_type_is_normal {t = t} h =
        let f = full_is_normal C w (lazy_of_fragment h) in
        record { reached = reduces_append (parallels_reduce (normal_reduces (annotation_rank t) t)) f.reached; ends = f.ends }

    -- convertible types of the fragment have one normal type
    pub convertible_same_normal : {g d : List (Option Simple)} {a b : Term} → IsFragment C g a → IsFragment C d b → Convertible a b → normal_type_of a ≡ normal_type_of b
    convertible_same_normal h k e = normal_form_unique e (normal_type_is_normal h) (normal_type_is_normal k)

-- ---- the answers of the program

pub full_is_normal_type : (t l n : Term) → l ≡ lazy_of t → n ≡ full l → IsNormalTypeOf t n
full_is_normal_type t l n e h =
    λ sig g w k. subst (λ x. HasNormalForm t x) (sym (h ∙ ap full e)) (normal_type_is_normal (HasSimpleType sig) (words_agree w) k)

pub same_is_conversion : (a b l r : Term) (same : Bool) → l ≡ lazy_of a → r ≡ lazy_of b → (IsTrue same ↔ (full l ≡ full r)) → IsConversionOf a b same
same_is_conversion a b l r same e h k =
    λ sig g d w i j. (
      λ x. same_normal_converts a b (sym (ap full e) ∙ k.0 x ∙ ap full h),
      λ x. k.1 (ap full e ∙ convertible_same_normal (HasSimpleType sig) (words_agree w) i j x ∙ sym (ap full h)),
    )
