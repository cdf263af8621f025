-- Lazy types are convertible where their full types are equal, and a lazy type stays right where an
-- object is put in.
use Rattle.std.proofs.Common.{◌≡◌, ℕ, suc, ◌≤◌, List, ◌∷◌, Option, Some, None, sym, subst}
use Rattle.lp_term.specs.LambdaPi.{Term, for_last, instantiate}
use Rattle.lp_term.specs.Conversion.{Convertible, conv_sym, conv_trans}
use Rattle.lp_term.proofs.ConversionLaws.{convertible_substitute}
use Rattle.lp_exact.specs.LazyTypes.{full}
use Rattle.lp_exact.specs.Normalisation.{put_at}
use Rattle.lp_exact.specs.Objects.{Simple, simple_size, IsNormal, IsLazy}
use Rattle.lp_exact.specs.Symbols.{AreSimpleOfWords}
use Rattle.lp_exact.specs.Reduction.{HasNormalForm}
use Rattle.lp_exact.proofs.ConfluenceLaws.{parallels_convert}
use Rattle.lp_exact.proofs.NormalFormLaws.{normal_form_unique}
use Rattle.lp_exact.proofs.LazyLaws.{full_reduces}
use Rattle.lp_exact.proofs.ObjectLaws.{puts_last, puts_proof, put_at_reduces}
use Rattle.lp_exact.proofs.FullTypeLaws.{lazy_put, full_is_normal}

-- a type is convertible with its full type
pub full_converts : (t : Term) → Convertible t (full t)
full_converts t = parallels_convert (full_reduces t)

-- one full type: convertible
pub same_converts : (a b : Term) → full a ≡ full b → Convertible a b
same_converts a b e = conv_trans (full_converts a) (conv_sym (subst (λ x. Convertible b x) (sym e) (full_converts b)))

module _ (C : List ℕ → Simple → Type 0) (w : AreSimpleOfWords C) where
  -- convertible: one full type
  pub converts_same : {g d : List (Option Simple)} {a b : Term} → IsLazy C g a → IsLazy C d b → Convertible a b → full a ≡ full b
  converts_same h k e = normal_form_unique e (full_is_normal C w h) (full_is_normal C w k)

  -- what comes of a lazy type by conversion, comes of its full type
  pub full_of : {g : List (Option Simple)} {a b n : Term} → IsLazy C g a → Convertible a b → HasNormalForm b n → full a ≡ n
  full_of h e k = normal_form_unique e (full_is_normal C w h) k

  put_converts : (k : ℕ) (u b : Term) → Convertible (put_at k u b) (instantiate (full b) u)
  put_converts k u b = conv_trans (conv_sym (parallels_convert (put_at_reduces k u b))) (convertible_substitute (for_last u) (full_converts b))

  -- an object put into a lazy type, and the rest opened, is the normal form of the full type with it put in
  pub put_object : {g : List (Option Simple)} {a : Simple} {u b n : Term} (k : ℕ) → simple_size a ≤ suc k → IsNormal C g u a → IsLazy C (Some a ∷ g) b → HasNormalForm (instantiate (full b) u) n → full (put_at k u b) ≡ n
  put_object {g = g} {u = u} {b = b} k l h z m = full_of (lazy_put C z k g (for_last u) (puts_last C l h)) (put_converts k u b) m

  -- the same for a proof, which no object has
  pub put_proof : {g : List (Option Simple)} {b n : Term} (k : ℕ) (u : Term) → IsLazy C (None ∷ g) b → HasNormalForm (instantiate (full b) u) n → full (put_at k u b) ≡ n
  put_proof {g = g} {b = b} k u z m = full_of (lazy_put C z k g (for_last u) (puts_proof C u)) (put_converts k u b) m
